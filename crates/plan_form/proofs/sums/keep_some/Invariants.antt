use Rattle.std.proofs.Common.{◌≡◌, take, map}
use Rattle.plan_form.specs.Steps.{term_of}
use Rattle.plan_form.proofs.Tallies.{kept}
use Rattle.plan_form.proofs.sums.keep_some.Given as goal

abbrev pub invariant-loop-tally : goal.invariant-loop-tally
invariant-loop-tally l = l.recipe ≡ kept (map term_of (take l.tally-index l.tallies))
