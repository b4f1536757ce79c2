-- The statements of the laws on recipes of at most four paths.
use Rattle.std.specs.Prelude.{ℕ, ◌<◌, Bool, List, length, ℤ}
use Rattle.tomo_base.specs.Network.{Network, IsGraph}
use Rattle.tomo_base.specs.BadParts.{NoBadPart}
use Rattle.ident_laws.specs.Laws.{NoBadPartIdentifies}
use Rattle.cross_links.specs.CrossRecipe.{IsCrossRecipe}

-- without a bad part each link has a recipe of at most four monitor paths
abbrev pub FourPathRecipes : Type 0
FourPathRecipes = (g : Network) (m : ℕ → Bool) (i : ℕ) → IsGraph g → NoBadPart g m → i < length g.links → (terms : List (ℤ × List ℕ)) × IsCrossRecipe g m i terms

-- in every graph a set without a bad part identifies
abbrev pub NoBadPartIdentifiesInGraphs : Type 0
NoBadPartIdentifiesInGraphs = (g : Network) → IsGraph g → NoBadPartIdentifies g
