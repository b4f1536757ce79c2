use Rattle.std.proofs.Common.{◌≡◌, length}
use Rattle.plan_form.specs.Tied.{recipe_between}
use Rattle.link_solver.specs.Tally.{others}
use Rattle.link_solver.proofs.Tallying.{IsTalliedTo}
use Rattle.link_solver.proofs.tied.add_along.Given as goal

abbrev pub invariant-loop-node : goal.invariant-loop-node
invariant-loop-node l =
    (length l.sums ≡ length l.initial.sums) × (l.count ≡ others l.sums) × IsTalliedTo l.g (recipe_between l.g.links l.recipes) l.initial.from l.rest l.node-index l.from l.initial.sums l.sums
