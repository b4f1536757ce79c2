-- Recipes: terms over paths in which one link occurs twice in sum, and every other link zero times.
use Rattle.std.specs.Prelude.{ℕ, ◌≡◌, ◌+◌, ◌*◌, ◌<◌, ◌==◌, List, [], ◌∷◌, ℤ, pos, negsuc, slice_get, length, Some, All, Contains, if◌then◌else◌}
use Rattle.tomo_base.specs.declared.graph.Link.{Link}
use Rattle.tomo_base.specs.Network.{Network, joins}
use Rattle.tomo_base.specs.Sets.{one_if}
use Rattle.tomo_base.specs.Identify.{sum_over}

-- how often the path runs over the link
unfoldable pub uses_of : Link → List ℕ → ℕ
uses_of l path = sum_over (λ a b. one_if (joins l a b)) path

-- what a coefficient adds, and what it takes away
abbrev pub gain_of : ℤ → ℕ
gain_of (pos n) = n
gain_of (negsuc n) = 0

abbrev pub loss_of : ℤ → ℕ
loss_of (pos n) = 0
loss_of (negsuc n) = n + 1

-- the sum over the terms of a weight of the coefficient times a number of the path
unfoldable pub weighted : (ℤ → ℕ) → (List ℕ → ℕ) → List (ℤ × List ℕ) → ℕ
weighted w f [] = 0
weighted w f (t ∷ ts) = w t.0 * f t.1 + weighted w f ts

-- how often the paths run over the link, counted with the coefficients above zero, and with those below
abbrev pub gains : Link → List (ℤ × List ℕ) → ℕ
gains l terms = weighted gain_of (uses_of l) terms

abbrev pub losses : Link → List (ℤ × List ℕ) → ℕ
losses l terms = weighted loss_of (uses_of l) terms

-- counted with the coefficients, link i occurs twice in sum, and each other link zero times
abbrev pub IsRecipe : List Link → ℕ → List (ℤ × List ℕ) → Type 0
IsRecipe links i terms = (k : ℕ) (l : Link) → slice_get links k ≡ Some l → gains l terms ≡ losses l terms + (if k == i then 2 else 0)

-- each link has a recipe over the paths
abbrev pub HasRecipes : Network → List (List ℕ) → Type 0
HasRecipes g paths = (i : ℕ) → i < length g.links → (terms : List (ℤ × List ℕ)) × All (λ t. Contains paths t.1) terms × IsRecipe g.links i terms
