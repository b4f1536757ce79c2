-- Sets of nodes as ascending lists.
use Rattle.std.specs.Prelude.{ℕ, ◌<◌, List, All}
use Rattle.std.specs.List.Sorted.{IsStrictlyIncreasing}
use Rattle.tomo_base.specs.Limits.{graph_node_limit}

-- the nodes stand in ascending order, each once, and each is below the most nodes that a graph may have
pub record IsNodeSet (nodes : List ℕ) : Type 0 where
  pub ascending : IsStrictlyIncreasing nodes
  pub below : All (λ v. v < graph_node_limit) nodes
