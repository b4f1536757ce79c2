use Rattle.std.proofs.Common.{◌≡◌, take}
use Rattle.tomo_base.specs.SetLists.{lists_of}
use Rattle.plan_form.proofs.copies.copy_paths.Given as goal

abbrev pub invariant-loop-path : goal.invariant-loop-path
invariant-loop-path l = l.pool ≡ lists_of (take l.path-index l.paths)
