-- Nodes that a link joins to a node of a set.
use Rattle.std.proofs.Common.{◌≡◌, ℕ, ◌<◌, ◌≤◌, Bool, true, false, ◌&&◌, not, ◌||◌, ◌==◌, ◌+◌, List, [], ◌∷◌, map, length, All, get_or, IsTrue, refl, ap, sym, ◌∙◌, subst, inl, inr, arith}
use Rattle.std.specs.List.{list_any}
use Rattle.std.proofs.lemmas.Bool.{and_parts, and_from, cases_Bool, both_ways, false_from_ne_true, eq-eqb, eqb-true}
use Rattle.std.specs.List.Sorted.{IsStrictlyIncreasing}
use Rattle.std.proofs.lemmas.List.{get_or-map, length-map}
use Rattle.std.proofs.lemmas.List.Folds.{Any-from_list_any, list_any_at}
use Rattle.tomo_base.specs.declared.graph.Hop.{Hop}
use Rattle.tomo_base.specs.Network.{Network, linked, IsGraph}
use Rattle.tomo_base.specs.Sets.{has, touches, outside, size, degree}
use Rattle.tomo_base.specs.Table.{AreHops, JoinsAt}
use Rattle.tomo_base.proofs.Counts.{any_below-from, any_below_gives, count-mono, count-same}
use Rattle.tomo_base.proofs.Members.{count-has}
use Rattle.tomo_base.proofs.Links.{linked_below, linked_comm}
use Rattle.tomo_base.proofs.Rows.{any_joins-from, any_joins_gives}

-- a node that is linked to a node of the set touches it
pub touches-from : (g : Network) (q : ℕ → Bool) (v w : ℕ) → w < g.nodes → IsTrue (q w) → IsTrue (linked g v w) → IsTrue (touches g q v)
unfolding touches
touches-from g q v w l h e = any_below-from g.nodes (λ x. q x && linked g v x) w l (and_from _ _ h e)

-- a node that touches the set is linked to a node of it
pub touches_gives : (g : Network) (q : ℕ → Bool) (v : ℕ) → IsTrue (touches g q v) → (w : ℕ) × (w < g.nodes) × IsTrue (q w) × IsTrue (linked g v w)
unfolding touches
touches_gives g q v h = let r = any_below_gives g.nodes (λ x. q x && linked g v x) h in let parts = and_parts _ _ r.2 in (r.0, r.1, parts.0, parts.1)

-- some hop of a node leads into the set just where the node touches it
pub touches-hops : (g : Network) (q : ℕ → Bool) (v : ℕ) (hops : List Hop) → IsGraph g → AreHops g.links v hops → list_any (λ h. q h.node) hops ≡ touches g q v
touches-hops g q v hops graph are = elim (cases_Bool (list_any (λ (h : Hop). q h.node) hops)) [
  | inl e ↦
      let found = Any-from_list_any (λ (h : Hop). q h.node) hops e in
      let at : JoinsAt g.links found.1.link v found.1.node = rw (sym found.3) (are.sound found.0 found.1 found.2) in
      let there : linked g v found.1.node ≡ true = any_joins-from g.links found.1.link v found.1.node at in
      e ∙ sym (touches-from g q v found.1.node (linked_below g.nodes g.links v found.1.node graph there).1 found.4 there)
  | inr e ↦ e ∙ sym (false_from_ne_true (touches g q v) (λ h.
      let near = touches_gives g q v h in
      let link = any_joins_gives g.links v near.0 near.3 in
      let hop = are.complete link.0 near.0 link.1 in
      let d : Hop = record { node = near.0; link = link.0 } in
      let into : q (get_or hops hop.0 d).node ≡ true = rw hop.2 near.2 in
      both_ways (list_any (λ (h : Hop). q h.node) hops) e (list_any_at (λ (h : Hop). q h.node) hops hop.0 d hop.1 into)))
]

-- only nodes touch a set
pub touches_below : (g : Network) (q : ℕ → Bool) (v : ℕ) → IsGraph g → touches g q v ≡ true → v < g.nodes
touches_below g q v graph h = let near = touches_gives g q v h in (linked_below g.nodes g.links v near.0 graph near.3).0

-- only nodes are outside neighbours
pub outside_below : (g : Network) (q : ℕ → Bool) (v : ℕ) → IsGraph g → g.nodes ≤ v → outside g q v ≡ false
outside_below g q v graph l = false_from_ne_true (outside g q v) (λ h. omega (arith, touches_below g q v graph (and_parts (not (q v)) (touches g q v) h).1, l))

-- the outside neighbours of a single node are its neighbours
pub outside-single : (g : Network) (q : ℕ → Bool) (v : ℕ) → ((w : ℕ) → q w ≡ true → w ≡ v) → size g (outside g q) ≤ degree g v
outside-single g q v only = count-mono g.nodes (outside g q) (linked g v) (λ u l h.
    let near = touches_gives g q u (and_parts (not (q u)) (touches g q u) h).1 in
    subst (λ w. linked g w u ≡ true) (only near.0 near.2) (linked_comm g u near.0 near.3))

-- the nodes that hops lead to
abbrev ends_of : List Hop → List ℕ
ends_of hops = map (λ (h : Hop). h.node) hops

no_hop : Hop
no_hop = record { node = 0; link = 0 }

-- one of them is w where a hop leads to it
has-ends_of : (hops : List Hop) (w : ℕ) → has (ends_of hops) w ≡ list_any (λ h. h.node == w) hops
unfolding has
has-ends_of [] w = refl
has-ends_of (h ∷ hops) w = ap (λ b. (h.node == w) || b) (has-ends_of hops w)

-- a node touches a single node where a link joins them
pub touches-single : (g : Network) (v w : ℕ) → IsGraph g → touches g (λ u. u == w) v ≡ linked g v w
touches-single g v w graph = elim (cases_Bool (linked g v w)) [
  | inl e ↦ touches-from g (λ u. u == w) v w (linked_below g.nodes g.links v w graph e).1 (eq-eqb w w refl) e ∙ sym e
  | inr e ↦ false_from_ne_true (touches g (λ u. u == w) v) (λ h.
      let near = touches_gives g (λ u. u == w) v h in
      both_ways (linked g v w) e (subst (λ u. linked g v u ≡ true) (eqb-true near.0 w near.2) near.3)) ∙ sym e
]

-- a node has as many neighbours as hops
pub length-hops : (g : Network) (v : ℕ) (hops : List Hop) → IsGraph g → AreHops g.links v hops → length hops ≡ degree g v
length-hops g v hops graph are =
    sym (length-map hops (λ (h : Hop). h.node)) ∙ (sym (count-has g.nodes (ends_of hops) ascends below) ∙ count-same g.nodes (has (ends_of hops)) (linked g v) (λ w l. same w))
  where
    at : (k d : ℕ) → k < length hops → get_or (ends_of hops) k d ≡ (get_or hops k no_hop).node
    at k d l = get_or-map (λ (h : Hop). h.node) hops k no_hop d l

    ascends : IsStrictlyIncreasing (ends_of hops)
    ascends k l =
        let short : k + 1 < length hops = omega (arith, l, length-map hops (λ (h : Hop). h.node)) in
        rw (at k 0 (omega (arith, short)), at (k + 1) 0 short) (are.ascending k (k + 1) no_hop (omega arith) short)

    below : All (λ w. w < g.nodes) (ends_of hops)
    below k d l =
        let short : k < length hops = omega (arith, l, length-map hops (λ (h : Hop). h.node)) in
        rw (at k d short) (linked_below g.nodes g.links v (get_or hops k no_hop).node graph (any_joins-from g.links (get_or hops k no_hop).link v (get_or hops k no_hop).node (are.sound k no_hop short))).1

    same : (w : ℕ) → has (ends_of hops) w ≡ linked g v w
    same w = has-ends_of hops w ∙ (touches-hops g (λ u. u == w) v hops graph are ∙ touches-single g v w graph)
