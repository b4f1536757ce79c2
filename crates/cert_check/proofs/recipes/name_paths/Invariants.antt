use Rattle.cert_check.proofs.Places.{NamesTo}
use Rattle.cert_check.proofs.recipes.name_paths.Given as goal

-- the terms so far name paths, ascending
abbrev pub invariant-loop-term : goal.invariant-loop-term
invariant-loop-term l = NamesTo l.count l.terms l.term-index l.least
