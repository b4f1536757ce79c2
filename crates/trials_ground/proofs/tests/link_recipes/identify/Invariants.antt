use Rattle.std.proofs.Common.{◌≡◌, ◌<◌, ◌≤◌, ◌⊎◌, ℕ, Bool, true}
use Rattle.tomo_base.specs.Sets.{has}
use Rattle.tomo_base.specs.BadParts.{IsCutOff}
use Rattle.trials_ground.proofs.tests.link_recipes.identify.Given as goal

-- each node before v is a monitor, or at least three nodes cut it off from the monitors
abbrev pub invariant-loop-v : goal.invariant-loop-v
invariant-loop-v l = (u : ℕ) → u < l.v → (has l.m u ≡ true) ⊎ ((p : ℕ → Bool) (k : ℕ) → IsCutOff l.g (has l.m) u k p → 3 ≤ k)
