use Rattle.std.proofs.Common.{ℕ, ◌≡◌, ◌<◌, ◌==◌, if◌then◌else◌, pos, [], length, slice_index_or}
use Rattle.plan_form.specs.Building.{sum_at}
use Rattle.plan_form.specs.Tied.{terms_along}
use Rattle.link_solver.specs.Tally.{others}
use Rattle.link_solver.proofs.tied.are_tied.Given as goal

abbrev pub invariant-loop-i : goal.invariant-loop-i
invariant-loop-i l =
    (length l.sums.items ≡ length l.p.paths) × (others l.sums.items ≡ 0)
    × ((i k : ℕ) → i < l.i → sum_at (terms_along l.g.links l.p.recipes (slice_index_or l.p.paths i [])) k ≡ (if k == i then pos 2 else pos 0))
