use Rattle.std.proofs.Common.{◌≡◌, ℕ, List, refl}
use Rattle.tomo_base.specs.Network.{Network}
use Rattle.tomo_base.specs.Identify.{IsAssignment}
use Rattle.link_solver.specs.declared.answer.Answer.{Answer}
use Rattle.link_solver.specs.declared.answer.Answer.TheVariants.{Solved, Link, Path}
use Rattle.link_solver.specs.Verdict.{HasSums, Means}
use Rattle.drill.proofs.solving.solved.Goals as goal

-- sums that an assignment has are solved
never_refused : (g : Network) (paths : List (List ℕ)) (sums out : List ℕ) (answer : Answer) → Means g paths sums out answer → ((d : List ℕ) × IsAssignment g d × HasSums g paths sums d) → (answer ≡ Solved → ⊥) → ⊥
never_refused g paths sums out Solved means some other = other refl
never_refused g paths sums out (Link i why) means some other = means some.0 some.1 some.2
never_refused g paths sums out (Path i) means some other = means some.0 some.1 some.2

pub unreachable-requires : goal.unreachable-requires
unreachable-requires c = never_refused c.args.t.now.graph c.args.p.now.paths c.args.sums.now c.solve_into.new.out c.solve_into.result (rw c.graph.ensures.graph at c.solve_into.ensures.means) c.requires.solvable c.in_default.not-Solved
