use Rattle.std.proofs.Common.{inl, refl}
use Rattle.tomo_run.proofs.machine.take_sums.Goals as goal

pub returns-in-Ok-clause-taken : goal.returns-in-Ok-clause-taken
returns-in-Ok-clause-taken c = inl (_, refl, rw (c.len.ensures.len, c.paths.ensures.paths) at c.in-Ok.ensures.rounds, c.ready.ensures.ends)
