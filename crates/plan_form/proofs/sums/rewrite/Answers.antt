use Rattle.std.proofs.Common.{map}
use Rattle.std.proofs.lemmas.Result.{IfOk-weaker}
use Rattle.plan_form.specs.Building.{renumbered, IsMerged}
use Rattle.plan_form.specs.Steps.{term_of, number_in}
use Rattle.plan_form.proofs.Tallies.{merged_sums}
use Rattle.plan_form.proofs.sums.rewrite.Goals as goal

pub returns : goal.returns
returns c =
    let terms = renumbered (number_in c.args.numbers.now) c.args.terms.now in
    let sums = map term_of c.add_up.new.tallies.items in
    IfOk-weaker c.keep_some.result (IsMerged sums) (IsMerged terms) (λ new. merged_sums terms sums new c.in_ok-add_up.ensures) (rw c.deref.ensures.value at c.keep_some.ensures)
