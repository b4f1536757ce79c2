-- Paths that recipes name.
use Rattle.std.specs.Prelude.{ℕ, ◌<◌, List, [], length, map, IsTrue, slice_index_or}
use Rattle.tomo_base.specs.Sets.{has}
use Rattle.simple_path.specs.declared.recipe.Term.{Term}

-- a recipe names the path with this number
abbrev pub NamesPath : List (List Term) → ℕ → Type 0
NamesPath recipes k = (i : ℕ) × (i < length recipes) × IsTrue (has (map (λ t. t.path) (slice_index_or recipes i [])) k)
