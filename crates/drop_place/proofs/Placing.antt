-- Trying the nodes by their own numbers, from the highest down.
use Rattle.std.proofs.Common.{ℕ, Bool, true, arith, ◌≡◌, ◌<◌, ◌≤◌, ◌-◌, sym, ◌∙◌}
use Rattle.std.proofs.lemmas.Bool.{true≢false}
use Rattle.tomo_base.specs.Network.{Network}
use Rattle.tomo_base.specs.BadParts.{NoBadPart}
use Rattle.tomo_base.proofs.Counts.{count_gives}
use Rattle.ident_laws.specs.Laws.{IsRank}
use Rattle.ident_laws.specs.Walk.{IsNextBelow}

-- a set of all nodes has no bad part
pub all_good : (g : Network) (m : ℕ → Bool) → ((v : ℕ) → v < g.nodes → m v ≡ true) → NoBadPart g m
all_good g m all q bad = let v = count_gives g.nodes q bad.nonempty in true≢false (sym (all v.0 v.1) ∙ bad.free v.0 v.1 v.2)

-- the node before t has the highest number below t
pub next_number : (g : Network) (t : ℕ) → 0 < t → t ≤ g.nodes → IsNextBelow g (λ v. v) t (t - 1)
next_number g t some few = record { is_node = omega arith; lower = omega arith; highest = λ v l lt. omega arith }

-- numbers are ranks
pub numbers_rank : (g : Network) → IsRank g (λ v. v)
numbers_rank g u v lu lv e = e
