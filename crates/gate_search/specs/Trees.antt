-- The tree of a search.
use Rattle.std.specs.Prelude.{ℕ, ◌≡◌, ◌<◌, ◌≤◌, List, [], ◌∷◌, length}
use Rattle.tomo_base.specs.Search.{entry_at}
use Rattle.tomo_base.specs.declared.search.Swept.{Swept}

-- the node was reached
abbrev pub IsRanked : Swept → ℕ → Type 0
IsRanked s v = (v < length s.parent.items) × (entry_at s.rank.items v < length s.parent.items)

-- different nodes have different ranks, and each but that of rank 0 has a parent of lower rank
pub record IsTree (s : Swept) : Type 0 where
  pub one_each : length s.rank.items ≡ length s.parent.items
  pub up : (v : ℕ) → IsRanked s v → 1 ≤ entry_at s.rank.items v → IsRanked s (entry_at s.parent.items v) × (entry_at s.rank.items (entry_at s.parent.items v) < entry_at s.rank.items v)
  pub once : (v w : ℕ) → IsRanked s v → IsRanked s w → entry_at s.rank.items v ≡ entry_at s.rank.items w → v ≡ w

-- the way up from v goes over the nodes of the list and then to u
abbrev pub GoesUpTo : List ℕ → ℕ → List ℕ → ℕ → Type 0
GoesUpTo parent v [] u = v ≡ u
GoesUpTo parent v (x ∷ p) u = (v ≡ x) × GoesUpTo parent (entry_at parent x) p u
