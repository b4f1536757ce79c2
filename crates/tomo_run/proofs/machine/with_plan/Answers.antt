use Rattle.std.proofs.Common.{inl, refl}
use Rattle.tomo_run.proofs.machine.with_plan.Goals as goal

pub returns-in-Ok-clause-after : goal.returns-in-Ok-clause-after
returns-in-Ok-clause-after c = rw c.in-Migrate.is (inl (c.in-Ok.checked, rw c.in-Ok.is at c.in_ok-checked-in-Migrate.ensures.good, c.ready-in-Ok.ensures.ends))

pub returns-in-Ok-2-clause-after : goal.returns-in-Ok-2-clause-after
returns-in-Ok-2-clause-after c = rw c.in-Solve.is (inl (c.in-Ok-2.checked, rw c.in-Ok-2.is at c.in_ok-checked-in-Solve.ensures.good, refl))
