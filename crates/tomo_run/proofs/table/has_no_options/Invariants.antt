use Rattle.std.proofs.Common.{◌≡◌, drop}
use Rattle.tomo_run.specs.Table.{no_options}
use Rattle.tomo_run.proofs.table.has_no_options.Given as goal

abbrev pub invariant-loop-place : goal.invariant-loop-place
invariant-loop-place l = no_options (drop l.fn.start l.words) ≡ no_options (drop l.place l.words)
