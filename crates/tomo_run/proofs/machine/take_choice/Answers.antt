use Rattle.std.proofs.Common.{inl, refl}
use Rattle.tomo_run.proofs.machine.take_choice.Goals as goal

pub returns-in-Ok-clause-taken : goal.returns-in-Ok-clause-taken
returns-in-Ok-clause-taken c = inl (c.in-Ok.ensures.fine, _, refl, c.in-Ok.ensures.choice, c.ready.ensures.ends)
