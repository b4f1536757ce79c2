use Rattle.std.proofs.Common.{◌≡◌, take}
use Rattle.plan_form.proofs.copies.copy_names.Given as goal

abbrev pub invariant-loop-v : goal.invariant-loop-v
invariant-loop-v l = l.names ≡ take l.v l.t.names
