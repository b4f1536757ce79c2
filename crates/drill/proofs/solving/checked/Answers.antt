use Rattle.std.proofs.Common.{subst}
use Rattle.cert_check.specs.Reports.{IsReport}
use Rattle.cert_check.proofs.NoFault.{no_fault}
use Rattle.drill.proofs.solving.checked.Goals as goal

pub unreachable-requires : goal.unreachable-requires
unreachable-requires c = no_fault c.args.t.now c.args.p.now c.in-Bad.field-0 c.requires.sound.good (subst (IsReport c.args.t.now c.args.p.now) c.in-Bad.is c.in_ok-monitors.ensures)
