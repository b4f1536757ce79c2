use Rattle.plan_form.specs.Reading.{format_of}
use Rattle.plan_form.proofs.OneFault.{one_fault}
use Rattle.plan_form.proofs.laws.one_fault.Goals as goal

pub returns : goal.returns
returns c = λ rows. one_fault (format_of rows) rows
