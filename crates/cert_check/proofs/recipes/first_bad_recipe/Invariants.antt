use Rattle.std.proofs.Common.{◌<◌, [], ℕ}
use Rattle.cert_check.specs.Faults.{IsGoodRecipeAt}
use Rattle.cert_check.specs.Counting.{IsCounted}
use Rattle.cert_check.proofs.recipes.first_bad_recipe.Given as goal

-- the recipes so far are good, and nothing is counted
abbrev pub invariant-loop-i : goal.invariant-loop-i
invariant-loop-i l = ((j : ℕ) → j < l.i → IsGoodRecipeAt l.g l.paths l.recipes j) × IsCounted l.g.links [] l.counts
