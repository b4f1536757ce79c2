-- How much a pool of paths holds.
use Rattle.std.specs.Prelude.{ℕ, ◌+◌, List, [], ◌∷◌, length}

-- the node numbers of all paths
abbrev pub nodes_in : List (List ℕ) → ℕ
nodes_in [] = 0
nodes_in (path ∷ paths) = length path + nodes_in paths
