-- The most that there may be. The constants of `src/limits.rt` have the same names.
use Rattle.std.specs.Prelude.{ℕ, ◌*◌, ◌^◌}

-- the most nodes that a graph may have
abbrev pub graph_node_limit : ℕ
graph_node_limit = 10000

-- the most links that a graph may have
abbrev pub graph_link_limit : ℕ
graph_link_limit = 20000

-- the most nodes that a topology may have
abbrev pub node_limit : ℕ
node_limit = 2000

-- the most links that a topology may have
abbrev pub link_limit : ℕ
link_limit = 8000

-- the largest delay that an assignment may give to a link
abbrev pub delay_limit : ℕ
delay_limit = 10 ^ 15

-- the largest sum that may be measured along a path
abbrev pub sum_limit : ℕ
sum_limit = 2 * 10 ^ 18

-- the largest number that is added up along a path: the most nodes of a graph have a sum below 2^64
abbrev pub summand_limit : ℕ
summand_limit = 10 ^ 15
