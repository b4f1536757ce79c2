use Rattle.std.proofs.Common.{◌≡◌, ◌<◌, ℕ, true}
use Rattle.tomo_base.specs.Search.{mark_of}
use Rattle.judge.proofs.monitors.first_unmarked.Given as goal

-- the nodes so far have marks
abbrev pub invariant-loop-v : goal.invariant-loop-v
invariant-loop-v l = (k : ℕ) → k < l.v → mark_of l.marks k ≡ true
