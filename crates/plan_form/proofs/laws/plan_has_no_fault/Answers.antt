use Rattle.plan_form.proofs.Printed.{no_fault}
use Rattle.plan_form.proofs.laws.plan_has_no_fault.Goals as goal

pub returns : goal.returns
returns c = no_fault
