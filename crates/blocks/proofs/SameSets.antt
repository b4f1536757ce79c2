-- Lists with the same sets, and sets of nodes of a graph as node sets.
use Rattle.std.proofs.Common.{ℕ, ◌<◌, ◌≤◌, ◌↔◌, Bool, List, map, get_or, All, Contains, ap, ◌∙◌, arith}
use Rattle.std.proofs.lemmas.List.{length-map, get_or-map}
use Rattle.std.proofs.lemmas.List.Elements.{All-contains, All-contains_itself}
use Rattle.tomo_base.specs.Limits.{graph_node_limit}
use Rattle.tomo_base.specs.Sets.{has}
use Rattle.tomo_base.specs.NodeLists.{IsNodeSet}
use Rattle.tomo_base.specs.SetLists.{IsSetBelow, AreSetsWith}

-- what stands in a list has its value among the values
pub contains_map : {X Y : Type 0} (f : X → Y) (xs : List X) (x : X) → Contains xs x → Contains (map f xs) (f x)
contains_map f xs x h = (h.0, omega (arith, length-map xs f, h.1), get_or-map f xs h.0 x (f x) h.1 ∙ ap f h.2)

-- a list with the same sets has those with the property too
pub sets_same : (n : ℕ) (P : (ℕ → Bool) → Type 0) (xs ys : List (List ℕ)) → AreSetsWith n P xs → ((q : List ℕ) → Contains ys q ↔ Contains xs q) → AreSetsWith n P ys
sets_same n P xs ys with_it same = record {
  nodes = λ k d l. All-contains (IsSetBelow n) xs (get_or ys k d) with_it.nodes ((same (get_or ys k d)).0 (All-contains_itself ys k d l));
  each = λ k d l. All-contains (λ s. P (has s)) xs (get_or ys k d) with_it.each ((same (get_or ys k d)).0 (All-contains_itself ys k d l));
  every = λ q is. (same _).1 (with_it.every q is);
}

-- a set of nodes below n is a node set, where n is within the limit
pub node_set : (n : ℕ) (xs : List ℕ) → n ≤ graph_node_limit → IsSetBelow n xs → IsNodeSet xs
node_set n xs few is = record { ascending = is.ascending; below = λ i e at. let low : get_or xs i e < n = is.below i e at in omega (arith, low, few) }

-- so are lists of them
pub node_sets : (n : ℕ) (xs : List (List ℕ)) → n ≤ graph_node_limit → All (IsSetBelow n) xs → All IsNodeSet xs
node_sets n xs few all k d l = node_set n (get_or xs k d) few (all k d l)
