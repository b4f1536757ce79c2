-- From numbered ears of the extended graph to independent trees of the graph.
use Rattle.std.proofs.Common.{◌≡◌, ◌⊎◌, ℕ, zero, suc, ◌+◌, ◌<◌, ◌≤◌, List, [], ◌∷◌, length, All, Bool, true, false, ◌&&◌, ◌==◌, nat_lt, refl, sym, subst, ap, ◌∙◌, inl, inr, arith}
use Rattle.std.specs.List.{filter}
use Rattle.std.proofs.lemmas.Bool.{both_ways, or_left, or_right, eq-eqb}
use Rattle.tomo_base.specs.Limits.{graph_node_limit}
use Rattle.tomo_base.specs.Network.{Network, linked, any_joins, joins, IsGraph}
use Rattle.tomo_base.specs.Sets.{has, outside}
use Rattle.tomo_base.specs.Walks.{IsConnected, everything}
use Rattle.tomo_base.specs.Cuts.{hub_links, extended, IsThreeConnected}
use Rattle.tomo_base.specs.Identify.{Identifies}
use Rattle.tomo_base.specs.Search.{entry_at}
use Rattle.tomo_base.proofs.Links.{linked_below}
use Rattle.tomo_base.proofs.Counts.{count-none, count-everything}
use Rattle.ident_laws.proofs.BadParts.{no_bad_part}
use Rattle.extended_graph.proofs.Telling.{three_connected_by_monitors}
use Rattle.ear_order.specs.Ears.{AreEnds, Ears, IsOrder, IsWholeOrder, in_ears}
use Rattle.ear_order.proofs.Ordering.{order_nodes}
use Rattle.indep_trees.specs.Trees.{IsFree, Trees, parent_in, AreTrees}
use Rattle.indep_trees.specs.Numbers.{spot, HasLater}
use Rattle.indep_trees.specs.Placing.{In, Numbered}
use Rattle.indep_trees.specs.Shortening.{IsLow, IsHigh, IsLater, AreChosen}
use Rattle.indep_trees.proofs.Choosing.{sides_chosen}
use Rattle.indep_trees.proofs.Sides.{Side, HasSides, independent}
use Rattle.indep_trees.proofs.Numbers.{later_neighbour, has_sides, parents, length_below}
use Rattle.indep_trees.proofs.Placements.{in_ears_below}
use Rattle.extended_graph.proofs.HubLinks.{any_joins-append}
use Rattle.indep_trees.proofs.Extending.{free_linked}

-- what identifies has the extended graph three-connected
pub three_from : (g : Network) (m : List ℕ) → IsGraph g → IsConnected g → 3 ≤ g.nodes → All (λ v. v < g.nodes) m → Identifies g (has m) → IsThreeConnected (extended g m)
three_from g m graph connected three below ident = (three_connected_by_monitors g m graph connected three below).1 (no_bad_part g (has m) graph connected (omega (arith, three)) ident)

-- and has some node
pub some_monitor : (g : Network) (m : List ℕ) → IsGraph g → IsConnected g → 3 ≤ g.nodes → Identifies g (has m) → 1 ≤ length m
unfolding has
some_monitor g [] graph connected three ident = absurd (no_bad_part g (has []) graph connected (omega (arith, three)) ident everything (record {
  nonempty = omega (arith, count-everything g.nodes, three);
  free = λ v l h. refl;
  few = omega (arith, count-none g.nodes (outside g everything) (λ v l. refl));
}))
some_monitor g (x ∷ m) graph connected three ident = omega arith

-- the two ends of the first ear, and the third node
pub ends_from : (g : Network) (m : List ℕ) → All (λ v. v < g.nodes) m → 1 ≤ length m → AreEnds (extended g m) g.nodes (entry_at m 0) (g.nodes + 1)
unfolding any_joins joins
ends_from g [] below some = absurd (omega arith)
ends_from g (x ∷ m) below some =
    let small : x < g.nodes = below 0 0 (omega arith) in
    let first : joins (record { a = x; b = g.nodes }) g.nodes x ≡ true = or_right ((x == g.nodes) && (g.nodes == x)) ((x == x) && (g.nodes == g.nodes)) (rw (eq-eqb x x refl, eq-eqb g.nodes g.nodes refl) refl) in
    record {
      link = any_joins-append g.links (hub_links g.nodes (x ∷ m)) g.nodes x ∙ or_right (any_joins g.links g.nodes x) (any_joins (hub_links g.nodes (x ∷ m)) g.nodes x)
          (or_left (joins (record { a = x; b = g.nodes }) g.nodes x) (any_joins (record { a = x; b = g.nodes + 1 } ∷ hub_links g.nodes m) g.nodes x) first);
      node = omega arith;
      not_first = λ e. omega (arith, e);
      not_last = λ e. omega (arith, e, small);
    }

-- a free node is none of the three
pub free_special : (g : Network) (m : List ℕ) → 1 ≤ length m → (v : ℕ) → IsFree g (has m) v → (v ≡ g.nodes → ⊥) × (v ≡ entry_at m 0 → ⊥) × (v ≡ g.nodes + 1 → ⊥)
unfolding has
free_special g [] some v free = absurd (omega arith)
free_special g (x ∷ m) some v free = (λ e. omega (arith, e, free.0), λ e. both_ways (has (x ∷ m) v) free.1 (or_left (x == v) (has m v) (eq-eqb x v (sym e))), λ e. omega (arith, e, free.0))

side_same : (number number' ear : ℕ → ℕ) (i v w : ℕ) → number' v ≡ number v → number' w ≡ number w → Side number ear i v w → Side number' ear i v w
side_same number number' ear zero v w a b s = (omega (arith, a, b, s.0), s.1)
side_same number number' ear (suc zero) v w a b s = (omega (arith, a, b, s.0), s.1)
side_same number number' ear (suc (suc i)) v w a b s = s

-- sides by other names of the numbers and the parents
pub sides_same : (g : Network) → IsGraph g → (m : ℕ → Bool) (number number' ear : ℕ → ℕ) (k : ℕ) (parent parent' : ℕ → ℕ → ℕ) → ((v : ℕ) → v < g.nodes → number' v ≡ number v) → ((i v : ℕ) → parent' i v ≡ parent i v)
    → HasSides g m number ear k parent → HasSides g m number' ear k parent'
sides_same g graph m number number' ear k parent parent' same up s = record {
  numbers = λ v l. omega (arith, same v l, s.numbers v l);
  once = λ v w a b e. s.once v w a b (sym (same v a) ∙ (e ∙ same w b));
  ears = s.ears;
  linked = λ i v three free. subst (λ z. linked g v z ≡ true) (sym (up i v)) (s.linked i v three free);
  sides = λ i v three free. subst (λ z. Side number' ear i v z) (sym (up i v))
      (side_same number number' ear i v (parent i v) (same v free.0) (same (parent i v) (linked_below g.nodes g.links v (parent i v) graph (s.linked i v three free)).1) (s.sides i v three free));
}

-- numbers, and parents on three sides or chosen there, are trees
pub are_trees : (g : Network) (m : List ℕ) → IsGraph g → 1 ≤ length m → (D : ℕ → Bool) (order low high ears third numbers low' high' third' : List ℕ) (k : ℕ)
    → Numbered (extended g m) g.nodes (entry_at m 0) (g.nodes + 1) D order (entry_at low) (entry_at high) (entry_at ears) k → ((v : ℕ) → v < g.nodes → D v ≡ true)
    → ((v : ℕ) → v < g.nodes → has m v ≡ false → linked (extended g m) v (entry_at third v) ≡ true) → ((v : ℕ) → v < g.nodes → has m v ≡ false → entry_at ears v < entry_at ears (entry_at third v))
    → ((v : ℕ) → v < g.nodes → In v order → entry_at numbers v ≡ spot v (filter (λ w. nat_lt w g.nodes) order))
    → AreChosen (IsLow g (entry_at numbers) (entry_at ears)) low low' → AreChosen (IsHigh g (entry_at numbers) (entry_at ears)) high high' → AreChosen (IsLater g (entry_at ears)) third third'
    → AreTrees (record { graph = g; monitors = m; numbers = numbers; first = low'; second = high'; third = third' })
are_trees g m graph some D order low high ears third numbers low' high' third' k numbered all third_link third_later numbers_are low_chosen high_chosen third_chosen =
    independent g graph (has m) (entry_at numbers) (entry_at ears) k (parent_in new)
    (sides_chosen g (has m) (entry_at numbers) (entry_at ears) k (parent_in trees) (parent_in new) chosen
    (sides_same g graph (has m) (λ v. spot v (filter (λ w. nat_lt w g.nodes) order)) (entry_at numbers) (entry_at ears) k
    (parents g (extended g m) (has m) g.nodes (entry_at m 0) (g.nodes + 1) D order (entry_at low) (entry_at high) (entry_at ears) k numbered all own special (entry_at third) third_is)
    (parent_in trees) (λ v l. numbers_are v l (numbered.has v (all v l))) up
    (has_sides g (extended g m) (has m) g.nodes (entry_at m 0) (g.nodes + 1) D order (entry_at low) (entry_at high) (entry_at ears) k numbered all own special (entry_at third) third_is)))
  where
    trees : Trees
    trees = record { graph = g; monitors = m; numbers = numbers; first = low; second = high; third = third }

    new : Trees
    new = record { graph = g; monitors = m; numbers = numbers; first = low'; second = high'; third = third' }

    chosen : (i v : ℕ) → i < 3 → IsFree g (has m) v → (parent_in new i v ≡ parent_in trees i v) ⊎ ((linked g v (parent_in new i v) ≡ true) × Side (entry_at numbers) (entry_at ears) i v (parent_in new i v))
    chosen zero v three free = elim (low_chosen v) [ inl kept ↦ inl kept | inr is ↦ inr (is.0, (is.1, is.2)) ]
    chosen (suc zero) v three free = elim (high_chosen v) [ inl kept ↦ inl kept | inr is ↦ inr (is.0, (is.1, is.2)) ]
    chosen (suc (suc i)) v three free = third_chosen v

    own : (v w : ℕ) → IsFree g (has m) v → linked (extended g m) v w ≡ true → (w < g.nodes) × (linked g v w ≡ true)
    own v w free l = free_linked g graph m v w free l

    special : (v : ℕ) → IsFree g (has m) v → (v ≡ g.nodes → ⊥) × (v ≡ entry_at m 0 → ⊥) × (v ≡ g.nodes + 1 → ⊥)
    special = free_special g m some

    third_is : (v : ℕ) → IsFree g (has m) v → (linked (extended g m) v (entry_at third v) ≡ true) × (entry_at ears v < entry_at ears (entry_at third v))
    third_is v free = (third_link v free.0 free.1, third_later v free.0 free.1)

    up : (i v : ℕ) → parent_in trees i v ≡ parents g (extended g m) (has m) g.nodes (entry_at m 0) (g.nodes + 1) D order (entry_at low) (entry_at high) (entry_at ears) k numbered all own special (entry_at third) third_is i v
    up zero v = refl
    up (suc zero) v = refl
    up (suc (suc i)) v = refl

-- a free node has a neighbour on a later ear
pub has_later : (g : Network) (m : List ℕ) → IsGraph g → 1 ≤ length m → (D : ℕ → Bool) (order : List ℕ) (low high ear : ℕ → ℕ) (k : ℕ)
    → Numbered (extended g m) g.nodes (entry_at m 0) (g.nodes + 1) D order low high ear k → ((v : ℕ) → v < g.nodes → D v ≡ true)
    → (v : ℕ) → v < g.nodes → has m v ≡ false → HasLater (extended g m) ear v
has_later g m graph some D order low high ear k numbered all v l free =
    later_neighbour g (extended g m) (has m) g.nodes (entry_at m 0) (g.nodes + 1) D order low high ear k numbered all (λ v w f. free_linked g graph m v w f) (free_special g m some) v (l, free)

-- the numbered nodes of a whole order, in the words of the extended graph
pub whole_numbered : (g : Network) (m : List ℕ) (o : Ears) (h : Network) → h ≡ extended g m → (n t : ℕ) → n ≡ g.nodes → t ≡ entry_at m 0 → IsWholeOrder h n t (n + 1) o → (order : List ℕ) (low high ear : ℕ → ℕ) (k : ℕ)
    → Numbered o.graph n t o.u (in_ears o.list) order low high ear k → Numbered (extended g m) g.nodes (entry_at m 0) (g.nodes + 1) (in_ears o.list) order low high ear k
whole_numbered g m o h h_is n t n_is t_is whole order low high ear k numbered =
    subst (λ z. Numbered (extended g m) z (entry_at m 0) (z + 1) (in_ears o.list) order low high ear k) n_is
    (subst (λ z. Numbered (extended g m) n z (n + 1) (in_ears o.list) order low high ear k) t_is
    (subst (λ z. Numbered (extended g m) n t z (in_ears o.list) order low high ear k) whole.u_is
    (subst (λ z. Numbered z n t o.u (in_ears o.list) order low high ear k) (whole.graph ∙ h_is) numbered)))

-- each node of the graph stands in an ear
pub whole_all : (g : Network) (m : List ℕ) (o : Ears) (h : Network) → h ≡ extended g m → (n t u : ℕ) → IsWholeOrder h n t u o → (v : ℕ) → v < g.nodes → in_ears o.list v ≡ true
whole_all g m o h h_is n t u whole v l =
    let nodes : h.nodes ≡ g.nodes + 2 = ap (λ (z : Network). z.nodes) h_is in
    whole.whole v (omega (arith, l, nodes))

-- the order is not long
pub order_few : (o : Ears) → IsOrder o → (r t u : ℕ) (order : List ℕ) (low high ear : ℕ → ℕ) (k : ℕ) → Numbered o.graph r t u (in_ears o.list) order low high ear k → length order ≤ graph_node_limit
order_few o is r t u order low high ear k numbered =
    omega (arith, is.few, length_below order o.graph.nodes numbered.distinct (λ v s. in_ears_below o.graph.nodes o.list (order_nodes o is) v (numbered.only v s)))
