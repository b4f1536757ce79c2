use Rattle.std.proofs.Common.{take}
use Rattle.simple_path.specs.Terms.{path_terms}
use Rattle.cert_check.specs.Counting.{IsCounted}
use Rattle.cert_check.proofs.recipes.count_terms.Given as goal

-- the terms so far are counted
abbrev pub invariant-loop-term : goal.invariant-loop-term
invariant-loop-term l = IsCounted l.g.links (path_terms l.paths (take l.term-index l.terms)) l.counts
