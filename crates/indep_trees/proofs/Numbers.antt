-- From the numbered ears of a graph with further nodes to the sides of three parents: the free nodes have their neighbours in the graph.
use Rattle.std.proofs.Common.{◌≡◌, ℕ, zero, suc, ◌<◌, ◌≤◌, List, [], ◌∷◌, length, Bool, true, false, cond, eqb, nat_lt, refl, subst, inl, inr, arith}
use Rattle.std.specs.List.{filter, IsDistinct, AllByRecursion, list_any}
use Rattle.std.proofs.lemmas.Bool.{both_ways, false≢true, or_cases, ltb-true, lt-ltb, eqb-true, ne_eqb}
use Rattle.std.proofs.lemmas.Map.Steps.{length-le_from_distinct_below}
use Rattle.tomo_base.specs.Network.{Network, linked}
use Rattle.indep_trees.specs.Trees.{IsFree}
use Rattle.indep_trees.specs.Numbers.{spot}
use Rattle.indep_trees.specs.Placing.{Sub, In, Distinct, Placed, Numbered}
use Rattle.indep_trees.proofs.Sublists.{sub_nil, spot_below, spot_before, spot_one, sub_filter, in_filter, distinct_filter}
use Rattle.indep_trees.proofs.Sides.{Side, HasSides}

-- no two nodes equal, in the words of std
distinct_std : (l : List ℕ) → Distinct l → IsDistinct eqb l
unfolding IsDistinct
distinct_std [] d = tt
distinct_std (a ∷ l) d = (apart l d.0, distinct_std l d.1)
  where
    apart : (m : List ℕ) → (In a m → ⊥) → AllByRecursion (λ y. eqb a y ≡ false) m
    apart [] f = tt
    apart (c ∷ m) f = (ne_eqb a c (λ e. f (inr (e, sub_nil m))), apart m (λ s. f (inl s)))

in_std : (q : ℕ) (l : List ℕ) → list_any (eqb q) l ≡ true → In q l
in_std q [] h = absurd (false≢true h)
in_std q (c ∷ l) h = elim (or_cases (eqb q c) (list_any (eqb q) l) h) [ inl e ↦ inr (eqb-true q c e, sub_nil l) | inr s ↦ inl (in_std q l s) ]

-- a list of different nodes below n has at most n
pub length_below : (l : List ℕ) (n : ℕ) → Distinct l → ((v : ℕ) → In v l → v < n) → length l ≤ n
length_below l n d small = length-le_from_distinct_below l n (distinct_std l d) (λ q h. small q (in_std q l h))

-- h is a graph with the nodes of g and more, in which free nodes have their neighbours in g; all nodes of g stand in numbered ears
module _ (g h : Network) (m : ℕ → Bool) (r t u : ℕ) (D : ℕ → Bool) (order : List ℕ) (low high ear : ℕ → ℕ) (k : ℕ) (numbered : Numbered h r t u D order low high ear k)
    (all : (v : ℕ) → v < g.nodes → D v ≡ true)
    (own : (v w : ℕ) → IsFree g m v → linked h v w ≡ true → (w < g.nodes) × (linked g v w ≡ true))
    (special : (v : ℕ) → IsFree g m v → (v ≡ r → ⊥) × (v ≡ t → ⊥) × (v ≡ u → ⊥)) where
  placed : (v : ℕ) → IsFree g m v → Placed h D order low high ear v
  placed v free = let s = special v free in numbered.placed v (all v free.0) s.0 s.1 s.2

  -- a neighbour on a later ear, as the search for the third parent finds it
  pub later_neighbour : (v : ℕ) → IsFree g m v → (w : ℕ) × (linked h v w ≡ true) × (ear v < ear w)
  later_neighbour v free =
      let w = (placed v free).later in
      (w.0, w.1, elim w.2 [ inl out ↦ absurd (both_ways (D w.0) out (all w.0 (own v w.0 free w.1).0)) | inr on ↦ on.1 ])

  -- the nodes of the graph alone, in order
  abbrev pub graph_order : List ℕ
  graph_order = filter (λ v. nat_lt v g.nodes) order

  -- the number of a node
  abbrev pub number : ℕ → ℕ
  number v = spot v graph_order

  in_graph : (v : ℕ) → v < g.nodes → In v graph_order
  in_graph v small = subst (λ l. Sub l graph_order) (one (nat_lt v g.nodes) (lt-ltb v g.nodes small)) (sub_filter (λ w. nat_lt w g.nodes) (v ∷ []) order (numbered.has v (all v small)))
    where
      one : (b : Bool) → b ≡ true → cond b (v ∷ []) [] ≡ v ∷ []
      one b e = rw e refl

  number_below : (v : ℕ) → v < g.nodes → number v < g.nodes
  number_below v small = omega (
    arith,
    spot_below v graph_order (in_graph v small),
    length_below graph_order g.nodes (distinct_filter (λ w. nat_lt w g.nodes) order numbered.distinct) (λ w s. ltb-true w g.nodes (in_filter (λ w. nat_lt w g.nodes) w order s).1),
  )

  number_once : (v w : ℕ) → v < g.nodes → w < g.nodes → number v ≡ number w → v ≡ w
  number_once v w a b = spot_one v w graph_order (distinct_filter (λ w. nat_lt w g.nodes) order numbered.distinct) (in_graph v a) (in_graph w b)

  number_before : (v w : ℕ) → v < g.nodes → w < g.nodes → Sub (v ∷ w ∷ []) order → number v < number w
  number_before v w a b s = spot_before v w graph_order (distinct_filter (λ w. nat_lt w g.nodes) order numbered.distinct)
      (subst (λ l. Sub l graph_order) (two (nat_lt v g.nodes) (nat_lt w g.nodes) (lt-ltb v g.nodes a) (lt-ltb w g.nodes b)) (sub_filter (λ w. nat_lt w g.nodes) (v ∷ w ∷ []) order s))
    where
      two : (b c : Bool) → b ≡ true → c ≡ true → cond b (v ∷ cond c (w ∷ []) []) (cond c (w ∷ []) []) ≡ v ∷ w ∷ []
      two b c e f = rw (e, f) refl

  -- with a third parent on a later ear the parents have their sides
  module _ (third : ℕ → ℕ) (third_is : (v : ℕ) → IsFree g m v → (linked h v (third v) ≡ true) × (ear v < ear (third v))) where
    abbrev pub parents : ℕ → ℕ → ℕ
    parents zero v = low v
    parents (suc zero) v = high v
    parents (suc (suc i)) v = third v

    parent_in : (i v : ℕ) → IsFree g m v → (parents i v < g.nodes) × (linked g v (parents i v) ≡ true)
    parent_in zero v free = own v (low v) free (placed v free).low_link
    parent_in (suc zero) v free = own v (high v) free (placed v free).high_link
    parent_in (suc (suc i)) v free = own v (third v) free (third_is v free).0

    side : (i v : ℕ) → IsFree g m v → Side number ear i v (parents i v)
    side zero v free = (number_before (low v) v (parent_in 0 v free).0 free.0 (placed v free).low_before, (placed v free).low_ear)
    side (suc zero) v free = (number_before v (high v) free.0 (parent_in 1 v free).0 (placed v free).high_after, (placed v free).high_ear)
    side (suc (suc i)) v free = (third_is v free).1

    pub has_sides : HasSides g m number ear k parents
    has_sides = record {
      numbers = number_below;
      once = number_once;
      ears = λ v l. numbered.ear_below v (all v l);
      linked = λ i v three free. (parent_in i v free).1;
      sides = λ i v three free. side i v free;
    }
