-- Terms by the paths that their numbers name.
use Rattle.std.specs.Prelude.{ℕ, ◌+◌, ◌*◌, List, [], ◌∷◌, ℤ, slice_index_or}
use Rattle.simple_path.specs.declared.recipe.Term.{Term}

-- the terms with the paths that their numbers name
abbrev pub path_terms : List (List ℕ) → List Term → List (ℤ × List ℕ)
path_terms paths [] = []
path_terms paths (t ∷ ts) = (t.coef, slice_index_or paths t.path []) ∷ path_terms paths ts

-- the sum over the terms of a weight of the coefficient times a number of the path
unfoldable pub weighted_by : (ℤ → ℕ) → (ℕ → ℕ) → List Term → ℕ
weighted_by w f [] = 0
weighted_by w f (t ∷ ts) = w t.coef * f t.path + weighted_by w f ts
