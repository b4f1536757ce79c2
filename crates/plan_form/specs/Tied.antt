-- Tied plans: along each path, the recipes of its links add up to twice the path itself.
use Rattle.std.specs.Prelude.{ℕ, suc, ◌≡◌, ◌<◌, ◌==◌, cond, if◌then◌else◌, List, [], ◌∷◌, ◌++◌, length, pos, slice_index_or}
use Rattle.tomo_base.specs.declared.graph.Link.{Link}
use Rattle.tomo_base.specs.Network.{joins}
use Rattle.simple_path.specs.declared.recipe.Term.{Term}
use Rattle.plan_form.specs.Building.{sum_at}

-- the number of the first link that joins a and b
unfoldable pub place_between : List Link → ℕ → ℕ → ℕ
place_between [] a b = 0
place_between (l ∷ ls) a b = cond (joins l a b) 0 (suc (place_between ls a b))

-- the recipe of the link that joins a and b: links and recipes go side by side
abbrev pub recipe_between : List Link → List (List Term) → ℕ → ℕ → List Term
recipe_between links recipes a b = slice_index_or recipes (place_between links a b) []

-- the terms of f over the steps of the walk that begins with a and goes on with the list, one after the other
unfoldable pub terms_from : (ℕ → ℕ → List Term) → ℕ → List ℕ → List Term
terms_from f a [] = []
terms_from f a (b ∷ p) = f a b ++ terms_from f b p

-- the terms of the recipes of all links of a path
abbrev pub terms_along : List Link → List (List Term) → List ℕ → List Term
terms_along links recipes [] = []
terms_along links recipes (a ∷ p) = terms_from (recipe_between links recipes) a p

-- for each path, the recipes of its links, added up, name this path with the coefficient 2 and every other path with 0
abbrev pub AreTied : List Link → List (List ℕ) → List (List Term) → Type 0
AreTied links paths recipes = (i k : ℕ) → i < length paths → sum_at (terms_along links recipes (slice_index_or paths i [])) k ≡ (if k == i then pos 2 else pos 0)
