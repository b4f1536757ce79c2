-- What a list of blocks holds.
use Rattle.std.specs.Prelude.{ℕ, List}

-- cut vertices and blocks
pub record Blocks : Type 0 where
  pub cuts : List ℕ
  pub list : List (List ℕ)
