use Rattle.std.proofs.Common.{inl, refl}
use Rattle.tomo_run.proofs.machine.take_monitors.Goals as goal

pub returns-in-Ok-clause-taken : goal.returns-in-Ok-clause-taken
returns-in-Ok-clause-taken c = inl (c.in-Ok.ensures.known, _, refl, c.in-Ok.ensures.monitors, c.ready.ensures.ends)
