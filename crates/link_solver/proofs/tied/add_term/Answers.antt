use Rattle.std.proofs.Common.{arith, ap}
use Rattle.link_solver.proofs.Tallying.{grew_one, other_one, others_le, others_set}
use Rattle.link_solver.proofs.tied.add_term.Goals as goal

pub overflow_add-result : goal.overflow_add-result
overflow_add-result c =
    omega (arith, c.requires.few, c.requires.count, others_le c.args.sums.now, c.one_if_other-2.ensures, c.one_if_other.ensures, other_one c.in_ok-after.after, others_set c.args.sums.now c.args.term.path c.in_ok-after.after c.requires.place)

pub returns-clause-sums : goal.returns-clause-sums
returns-clause-sums c = grew_one c.args.sums.now c.args.term c.in_ok-after.after c.requires.place (ap (λ s. s.value) c.in_ok-after.ensures)
