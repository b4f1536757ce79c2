-- How large a network is drawn. The constants of `src/limits.rt` have the same names.
use Rattle.std.specs.Prelude.{ℕ}

-- the most nodes of a drawn network
abbrev pub drawn_node_limit : ℕ
drawn_node_limit = 1000

-- the most links of a drawn network
abbrev pub drawn_link_limit : ℕ
drawn_link_limit = 4000
