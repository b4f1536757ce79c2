-- Where the ways up from two nodes of a search's tree meet.
use Rattle.std.specs.Prelude.{ℕ, ◌<◌, ◌⊎◌, List, IsTrue}
use Rattle.tomo_base.specs.Sets.{has, Apart}
use Rattle.tomo_base.specs.Search.{entry_at}
use Rattle.tomo_base.specs.declared.search.Swept.{Swept}
use Rattle.gate_search.specs.Trees.{IsRanked, GoesUpTo}

-- the ways up from y and from z have come to u and to v: they share no node, and each of their nodes has a higher rank than both
pub record IsWayUp (s : Swept) (y z u v : ℕ) : Type 0 where
  pub first : List ℕ
  pub second : List ℕ
  pub first_leads : GoesUpTo s.parent.items y first u
  pub second_leads : GoesUpTo s.parent.items z second v
  pub apart : Apart (has first) (has second)
  pub above : (w : ℕ) → IsTrue (has first w) ⊎ IsTrue (has second w) → IsRanked s w × (entry_at s.rank.items u < entry_at s.rank.items w) × (entry_at s.rank.items v < entry_at s.rank.items w)
