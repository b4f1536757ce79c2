-- The network that is drawn from a seed, and the delays of its links.
use Rattle.std.specs.Prelude.{ℕ, zero, suc, ◌+◌, ◌-◌, ◌*◌, ◌/◌, ◌<◌, ◌≤◌, ◌^◌, Bool, not, nat_lt, if◌then◌else◌, List, [], ◌∷◌, ◌++◌, take, drop, find, Option, Some}
use Rattle.std.specs.List.{cons_option}
use Rattle.tomo_base.specs.declared.graph.Link.{Link}
use Rattle.tomo_base.specs.Network.{Network, any_joins}
use Rattle.drill.specs.Draws.{draw, state, draws, drawn_delay_limit}
use Rattle.drill.specs.Limits.{drawn_link_limit, drawn_node_limit}

-- the two nodes, lower first
abbrev pub pair : ℕ → ℕ → Link
pair a b = record { a = a; b = b }

-- two nodes below n, lower first
abbrev pub IsPair : ℕ → Link → Type 0
IsPair n p = (p.a < p.b) × (p.b < n)

-- the pairs of a with the nodes above it that are below n
unfoldable pub pairs_of : ℕ → ℕ → List Link
pairs_of a zero = []
pairs_of a (suc b) = pairs_of a b ++ (if nat_lt a b then pair a b ∷ [] else [])

-- the pairs of nodes below n whose lower node is below k, in lexicographic order
unfoldable pub pairs_below : ℕ → ℕ → List Link
pairs_below n zero = []
pairs_below n (suc a) = pairs_below n a ++ pairs_of a n

-- all pairs of nodes below n, in lexicographic order
abbrev pub pairs : ℕ → List Link
pairs n = pairs_below n n

-- how many these are
abbrev pub pair_count : ℕ → ℕ
pair_count n = n * (n - 1) / 2

-- no link of the list joins the pair
abbrev pub is_free : List Link → Link → Bool
is_free links p = not (any_joins links p.a p.b)

-- the first free pair from a place on, going on at 0 after the last pair
abbrev pub first_free : ℕ → List Link → ℕ → Option Link
first_free n links place = find (is_free links) (drop place (pairs n) ++ take place (pairs n))

-- link k after the links before it, drawn in the state x: each node but the first is joined to a drawn node below it, and then a drawn place leads to a free pair
abbrev pub next_link : ℕ → ℕ → ℕ → List Link → Option Link
next_link n k x links = if nat_lt (k + 1) n then Some (pair (draw (k + 1) x) (k + 1)) else first_free n links (draw (pair_count n) x)

-- the first k links
unfoldable pub drawn_links : ℕ → ℕ → ℕ → List Link
drawn_links seed n zero = []
drawn_links seed n (suc k) = drawn_links seed n k ++ cons_option (next_link n k (state seed k) (drawn_links seed n k)) []

-- a connected network of n nodes and l links can be drawn from the seed
abbrev pub CanDraw : ℕ → ℕ → ℕ → Type 0
CanDraw seed n l = (seed < 2 ^ 31) × (3 ≤ n) × (n ≤ drawn_node_limit) × (n ≤ l + 1) × (l ≤ drawn_link_limit) × (l ≤ pair_count n)

-- the network of n nodes and l links that is drawn from a seed
abbrev pub generated : ℕ → ℕ → ℕ → Network
generated seed n l = record { nodes = n; links = drawn_links seed n l }

-- the delays of its links: one draw for each in their order, after the draws of all links
abbrev pub generated_delays : ℕ → ℕ → List ℕ
generated_delays seed l = draws (state seed l) drawn_delay_limit l
