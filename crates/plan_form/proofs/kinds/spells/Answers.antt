use Rattle.std.proofs.Common.{sym, arith}
use Rattle.plan_form.proofs.Records.{same_number, no_number}
use Rattle.plan_form.proofs.kinds.spells.Goals as goal

pub returns-in-Some : goal.returns-in-Some
returns-in-Some c = sym (same_number c.args.text.now c.in-Some.m c.args.n (omega arith) c.in-Some.ensures)

pub returns-in-None : goal.returns-in-None
returns-in-None c = sym (no_number c.args.text.now c.args.n (omega arith) c.in-None.ensures)
