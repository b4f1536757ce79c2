use Rattle.plan_form.specs.Reading.{format_of}
use Rattle.plan_form.proofs.Reader.{Walked}
use Rattle.plan_form.proofs.read.read_plan.Given as goal

abbrev pub invariant-loop-row : goal.invariant-loop-row
invariant-loop-row l = Walked (format_of l.rows.closed) l.rows.closed l.row l.last l.plan
