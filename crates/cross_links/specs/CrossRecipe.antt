-- Recipes of at most four monitor paths.
use Rattle.std.specs.Prelude.{ℕ, ◌≡◌, ◌≢◌, ◌+◌, ◌<◌, ◌≤◌, ◌⊎◌, Bool, List, ◌++◌, length, slice_index_or, ℤ, pos, negsuc, All, AllPairs}
use Rattle.tomo_base.specs.Network.{Network}
use Rattle.tomo_base.specs.Table.{JoinsAt}
use Rattle.tomo_base.specs.Sets.{has}
use Rattle.tomo_base.specs.Identify.{IsMonitorPath}
use Rattle.tomo_base.specs.Recipes.{IsRecipe}
use Rattle.simple_path.specs.declared.recipe.Term.{Term}
use Rattle.simple_path.specs.Terms.{path_terms}

-- 2, 1 or -1
abbrev pub IsCrossCoefficient : ℤ → Type 0
IsCrossCoefficient c = (c ≡ pos 2) ⊎ ((c ≡ pos 1) ⊎ (c ≡ negsuc 0))

-- some node lies on one of the two paths alone
abbrev pub Differ : ℤ × List ℕ → ℤ × List ℕ → Type 0
Differ s t = (v : ℕ) × (has s.1 v ≢ has t.1 v)

-- a recipe of link i of one to four monitor paths, of which no two have the same nodes
pub record IsCrossRecipe (g : Network) (m : ℕ → Bool) (i : ℕ) (terms : List (ℤ × List ℕ)) : Type 0 where
  pub some : 1 ≤ length terms
  pub few : length terms ≤ 4
  pub paths : All (λ t. IsMonitorPath g m t.1) terms
  pub coefficients : All (λ t. IsCrossCoefficient t.0) terms
  pub different : AllPairs Differ terms
  pub recipe : IsRecipe g.links i terms

-- monitor paths were added to a pool, none longer than the graph has nodes; the terms name them in their order, one term for each, and are such a recipe
pub record AddsRecipe (g : Network) (m : ℕ → Bool) (i : ℕ) (old new : List (List ℕ)) (terms : List Term) : Type 0 where
  pub added : List (List ℕ)
  pub grown : new ≡ old ++ added
  pub one_each : length terms ≡ length added
  pub in_order : (k : ℕ) (d : Term) → k < length terms → (slice_index_or terms k d).path ≡ length old + k
  pub paths : All (IsMonitorPath g m) added
  pub short : All (λ p. length p ≤ g.nodes) added
  pub recipe : IsCrossRecipe g m i (path_terms new terms)

-- so for the link between v and w, whatever its number
abbrev pub AddsRecipeBetween : Network → (ℕ → Bool) → ℕ → ℕ → List (List ℕ) → List (List ℕ) → List Term → Type 0
AddsRecipeBetween g m v w old new terms = (i : ℕ) → JoinsAt g.links i v w → AddsRecipe g m i old new terms
