-- A list cut into parts of one length.
use Rattle.std.specs.Prelude.{ℕ, zero, suc, List, [], ◌∷◌, take, drop}

-- the first so many parts of that width
unfoldable pub cut_up : ℕ → ℕ → List ℕ → List (List ℕ)
cut_up width zero xs = []
cut_up width (suc k) xs = take width xs ∷ cut_up width k (drop width xs)
