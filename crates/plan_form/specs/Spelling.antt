-- How numbers, lists of numbers and terms are spelled in a plan.
use Rattle.std.specs.Prelude.{ℕ, List, ◌∷◌, ◌++◌, map, decimal}
use Rattle.std.specs.List.{join_with_byte}
use Rattle.std.specs.Fmt.{signed_decimal}
use Rattle.simple_path.specs.declared.recipe.Term.{Term}

-- the byte between two items of a list, and that between a coefficient and a path number
abbrev pub space : ℕ
space = 32

abbrev pub colon : ℕ
colon = 58

-- numbers joined by single spaces
abbrev pub numbers_text : List ℕ → List ℕ
numbers_text ns = join_with_byte space (map decimal ns)

-- a coefficient, a colon and a path number
abbrev pub term_text : Term → List ℕ
term_text t = signed_decimal t.coef ++ colon ∷ decimal t.path

-- terms joined by single spaces
abbrev pub terms_text : List Term → List ℕ
terms_text ts = join_with_byte space (map term_text ts)
