use Rattle.std.proofs.Common.{◌<◌, ℕ, [], get_or}
use Rattle.answers.specs.Components.{AreIn}
use Rattle.answers.proofs.parts.home_of.Given as goal

-- no block so far has all the nodes
abbrev pub invariant-loop-i : goal.invariant-loop-i
invariant-loop-i l = (k : ℕ) → k < l.i → AreIn (get_or l.blocks k []) l.set → ⊥
