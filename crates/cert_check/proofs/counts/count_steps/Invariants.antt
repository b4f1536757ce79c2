use Rattle.std.proofs.Common.{take}
use Rattle.cert_check.proofs.Uses.{IsCountedTo}
use Rattle.cert_check.proofs.counts.count_steps.Given as goal

-- the links so far are counted
abbrev pub invariant-loop-link : goal.invariant-loop-link
invariant-loop-link l = IsCountedTo (take l.link-index l.steps) l.weight l.initial.counts.items l.initial.touched.items l.counts.items l.touched.items
