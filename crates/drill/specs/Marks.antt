-- Which pairs of nodes the links so far join.
use Rattle.std.specs.Prelude.{ℕ, ◌≡◌, ◌+◌, ◌*◌, ◌<◌, ◌≤◌, Bool, List, length}
use Rattle.tomo_base.specs.declared.graph.Link.{Link}
use Rattle.tomo_base.specs.Network.{any_joins, AreLinks}
use Rattle.tomo_base.specs.Search.{mark_of}
use Rattle.drill.specs.Limits.{drawn_node_limit}

-- a list of marks, n for each node: the mark of b in those of a tells whether a link joins a and b, where b is greater
pub record IsMarked (n : ℕ) (links : List Link) (marks : List Bool) : Type 0 where
  pub few_nodes : n ≤ drawn_node_limit
  pub graph : AreLinks n links
  pub one_each : length marks ≡ n * n
  pub marked : (a b : ℕ) → a < b → b < n → mark_of marks (a * n + b) ≡ any_joins links a b
