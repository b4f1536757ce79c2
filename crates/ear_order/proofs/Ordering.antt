-- Ear orders: what is left while a node is in no ear, one ear more, the first ear, and how many ears there are at most.
use Rattle.std.proofs.Common.{◌≡◌, ◌≢◌, ℕ, zero, suc, ◌+◌, ◌-◌, ◌<◌, ◌≤◌, Bool, true, false, ◌||◌, ◌==◌, List, [], ◌∷◌, ◌++◌, length, get_or, All, refl, sym, subst, ap, ◌∙◌, inl, inr, arith}
use Rattle.std.proofs.lemmas.Bool.{both_ways, or_cases, or_left, or_right, eqb-true, not_from_false, not-true}
use Rattle.std.proofs.lemmas.List.{get_or_default}
use Rattle.tomo_base.specs.declared.graph.Link.{Link}
use Rattle.tomo_base.specs.Network.{Network, linked, joins, any_joins, AreLinks, IsGraph}
use Rattle.tomo_base.specs.Sets.{has, count, complement, touches}
use Rattle.tomo_base.specs.Walks.{IsConnectedIn}
use Rattle.tomo_base.specs.Search.{mark_of, entry_at}
use Rattle.tomo_base.proofs.Links.{joins_gives}
use Rattle.tomo_base.proofs.Counts.{count-less, count-le}
use Rattle.tomo_base.proofs.Ascending.{has-at}
use Rattle.ear_order.specs.Ears.{IsEar, IsLast, with_ear, AreEarsAfter, ends_of, IsEarOrder, in_ears, AreEnds, IsOrder, Ears, LeavesConnected}
use Rattle.ear_order.specs.Turns.{between, IsLeft, ContinuesWith}
use Rattle.ear_order.proofs.Spreading.{connected_same, touch_from, touch_gives}
use Rattle.ear_order.proofs.Places.{run_at, run_gives}
use Rattle.ear_order.proofs.Spots.{ear_below, ear_all}

-- the set with the nodes of the ears
unfoldable pub after : (ℕ → Bool) → List (List ℕ) → ℕ → Bool
after old [] = old
after old (e ∷ es) = after (with_ear old e) es

or_assoc : (a b c : Bool) → ((a || b) || c) ≡ (a || (b || c))
or_assoc true b c = refl
or_assoc false b c = refl

or_false : (a : Bool) → a ≡ (a || false)
or_false true = refl
or_false false = refl

pub after_is : (old : ℕ → Bool) (es : List (List ℕ)) (v : ℕ) → after old es v ≡ (old v || in_ears es v)
unfolding after in_ears
after_is old [] v = or_false (old v)
after_is old (e ∷ es) v = after_is (with_ear old e) es v ∙ or_assoc (old v) (has e v) (in_ears es v)

-- while a node is in no ear, what is left is connected and holds u
pub state_after : (g : Network) (u : ℕ) (old : ℕ → Bool) (es : List (List ℕ)) → AreEarsAfter g u old es → IsConnectedIn g (complement old) → old u ≡ false → (v : ℕ) → v < g.nodes → after old es v ≡ false
    → IsConnectedIn g (complement (after old es)) × (after old es u ≡ false)
unfolding AreEarsAfter after
state_after g u old [] are connected third v l new = (connected, third)
state_after g u old (e ∷ es) are connected third v l new = elim are.1 [
  | inl more ↦ state_after g u (with_ear old e) es more.1 more.0.connected more.0.third v l new
  | inr last ↦ absurd (both_ways (after (with_ear old e) es v) new (subst (λ z. after (with_ear old e) z v ≡ true) (sym last.0) (last.1.all v l)))
]

-- and one ear more can follow
pub ears_push : (g : Network) (u : ℕ) (old : ℕ → Bool) (es : List (List ℕ)) (e : List ℕ) → AreEarsAfter g u old es → (v : ℕ) → v < g.nodes → after old es v ≡ false
    → IsEar g (after old es) e → ContinuesWith g u (after old es) e → AreEarsAfter g u old (es ++ e ∷ [])
unfolding AreEarsAfter after
ears_push g u old [] e are v l new ear next = (ear, elim next [ inl goes ↦ inl (goes, tt) | inr last ↦ inr (refl, last) ])
ears_push g u old (a ∷ es) e are v l new ear next = (
  are.0,
  elim are.1 [
    | inl more ↦ inl (more.0, ears_push g u (with_ear old a) es e more.1 v l new ear next)
    | inr last ↦ absurd (both_ways (after (with_ear old a) es v) new (subst (λ z. after (with_ear old a) z v ≡ true) (sym last.0) (last.1.all v l)))
  ],
)

-- no ear
pub no_ears : (g : Network) (u : ℕ) (old : ℕ → Bool) → AreEarsAfter g u old []
unfolding AreEarsAfter
no_ears g u old = tt

-- an ear after which the order goes on, and the ears after it
after_first : (g : Network) (u : ℕ) (old : ℕ → Bool) (e : List ℕ) (es : List (List ℕ)) → IsEar g old e → LeavesConnected g u old e → AreEarsAfter g u (with_ear old e) es → AreEarsAfter g u old (e ∷ es)
unfolding AreEarsAfter
after_first g u old e es ear go later = (ear, inl (go, later))

-- there are no more ears than nodes
pub ear_count : (g : Network) → IsGraph g → (u : ℕ) (old : ℕ → Bool) (es : List (List ℕ)) → AreEarsAfter g u old es → length es + count g.nodes old ≤ g.nodes
unfolding AreEarsAfter
ear_count g graph u old [] are = omega (arith, count-le g.nodes old)
ear_count g graph u old (e ∷ es) are =
    let inside : entry_at e 1 < g.nodes = ear_below g graph old e are.0 1 (omega (arith, are.0.three)) in
    let grown : count g.nodes old < count g.nodes (with_ear old e) = count-less g.nodes old (with_ear old e) (entry_at e 1) inside (are.0.fresh 1 0 (omega arith) (omega (arith, are.0.three)))
    (or_right (old (entry_at e 1)) (has e (entry_at e 1)) (has-at e 1 0 (omega (arith, are.0.three)))) (λ v l h. or_left (old v) (has e v) h) in
    elim are.1 [
      | inl more ↦ (let rest : length es + count g.nodes (with_ear old e) ≤ g.nodes = ear_count g graph u (with_ear old e) es more.1 in omega (arith, rest, grown))
      | inr last ↦ (let none : length es ≡ 0 = ap length last.0 in omega (arith, none, grown, count-le g.nodes (with_ear old e)))
    ]

-- ---- sets with the same nodes

pub ear_same : (g : Network) (p q : ℕ → Bool) (e : List ℕ) → ((v : ℕ) → p v ≡ q v) → IsEar g p e → IsEar g q e
ear_same g p q [] same ear = absurd (omega (arith, ear.three))
ear_same g p q (a ∷ l) same ear = record {
  three = ear.three;
  different = ear.different;
  linked = ear.linked;
  ends = (sym (same a) ∙ ear.ends.0, sym (same _) ∙ ear.ends.1);
  fresh = λ k d low high. sym (same (get_or (a ∷ l) k d)) ∙ ear.fresh k d low high;
}

pub goes_same : (g : Network) → IsGraph g → (u : ℕ) (p q : ℕ → Bool) (e e' : List ℕ) → ((v : ℕ) → with_ear p e v ≡ with_ear q e' v) → ((v : ℕ) → between e' v ≡ true → between e v ≡ true) → LeavesConnected g u p e → LeavesConnected g u q e'
goes_same g graph u p q e e' same back go = record {
  third = sym (same u) ∙ go.third;
  connected = connected_same g graph (complement (with_ear p e)) (complement (with_ear q e')) (λ v l. ap (λ b. complement (λ w. b) v) (same v)) go.connected;
  touched = λ k d low high.
      let v = get_or e' k d in
      let i = run_gives (entry_at e) 1 (length e - 1) v (back v (subst (λ z. between e' z ≡ true) (get_or_default e' k 0 d (omega (arith, high))) (run_at (entry_at e') 1 (length e' - 1) k low high))) in
      let w = touch_gives g (complement (with_ear p e)) v (subst (λ z. touches g (complement (with_ear p e)) z ≡ true) i.3 (go.touched i.0 0 i.1 i.2)) in
      touch_from g graph (complement (with_ear q e')) w.0 v (not_from_false (with_ear q e' w.0) (sym (same w.0) ∙ not-true (with_ear p e w.0) w.1)) w.2;
}

pub last_same : (g : Network) (u : ℕ) (p q : ℕ → Bool) (e : List ℕ) → ((v : ℕ) → p v ≡ q v) → IsLast g u p e → IsLast g u q e
last_same g u p q e same last = record { all = λ v l. ap (λ b. b || has e v) (sym (same v)) ∙ last.all v l; three = last.three; between = last.between }

pub continues_same : (g : Network) → IsGraph g → (u : ℕ) (p q : ℕ → Bool) (e : List ℕ) → ((v : ℕ) → p v ≡ q v) → ContinuesWith g u p e → ContinuesWith g u q e
continues_same g graph u p q e same (inl go) = inl (goes_same g graph u p q e e (λ v. ap (λ b. b || has e v) (same v)) (λ v h. h) go)
continues_same g graph u p q e same (inr last) = inr (last_same g u p q e same last)

-- ---- the marks of an order

-- the ends of the first ear stand in it
ends_in : (r t : ℕ) (e : List ℕ) → 3 ≤ length e → entry_at e 0 ≡ r → entry_at e (length e - 1) ≡ t → (v : ℕ) → ends_of r t v ≡ true → has e v ≡ true
unfolding has
ends_in r t e long first last v h = elim (or_cases (r == v) ((t == v) || false) h) [
  | inl is_r ↦ subst (λ z. has e z ≡ true) (first ∙ eqb-true r v is_r) (has-at e 0 0 (omega (arith, long)))
  | inr more ↦ elim (or_cases (t == v) false more) [
    | inl is_t ↦ subst (λ z. has e z ≡ true) (last ∙ eqb-true t v is_t) (has-at e (length e - 1) 0 (omega (arith, long)))
    | inr none ↦ absurd (both_ways false refl none)
  ]
]

absorbed : (p q c : Bool) → (p ≡ true → q ≡ true) → (q || c) ≡ ((p || q) || c)
absorbed true true c h = refl
absorbed true false c h = absurd (both_ways false refl (h refl))
absorbed false q c h = refl

-- the nodes of an order's ears
pub order_marks : (g : Network) (r t u : ℕ) (es : List (List ℕ)) → IsEarOrder g r t u es → (v : ℕ) → in_ears es v ≡ after (ends_of r t) es v
unfolding in_ears after
order_marks g r t u [] none v = absurd none
order_marks g r t u (e ∷ es) o v = absorbed (ends_of r t v) (has e v) (in_ears es v) (ends_in r t e o.ear.three o.begins o.ends v) ∙ sym (after_is (with_ear (ends_of r t) e) es v)

-- no link leads from a node to itself
pub no_loop : (n : ℕ) (ls : List Link) (a : ℕ) → AreLinks n ls → any_joins ls a a ≡ true → ⊥
unfolding any_joins
no_loop n [] a are h = both_ways false refl h
no_loop n (l ∷ ls) a are h = elim (or_cases (joins l a a) (any_joins ls a a) h) [
  | inl e ↦ elim (joins_gives l a a e) [ inl k ↦ omega (arith, k.0, k.1, are.0) | inr k ↦ omega (arith, k.0, k.1, are.0) ]
  | inr e ↦ no_loop n ls a are.3 e
]

-- a node of the first ear stands in some ear
in_ear : (e : List ℕ) (es : List (List ℕ)) (v : ℕ) → has e v ≡ true → in_ears (e ∷ es) v ≡ true
unfolding in_ears
in_ear e es v h = or_left (has e v) (in_ears es v) h

-- r and t are different
pub ends_differ : (g : Network) (r t u : ℕ) → IsGraph g → AreEnds g r t u → r ≢ t
ends_differ g r t u graph ends same = no_loop g.nodes g.links r graph (subst (λ z. linked g r z ≡ true) (sym same) ends.link)

-- what an order so far leaves
pub left_after : (o : Ears) → IsOrder o → (old : List Bool) → length old ≡ o.graph.nodes → ((v : ℕ) → mark_of old v ≡ in_ears o.list v) → (v : ℕ) → v < o.graph.nodes → mark_of old v ≡ false → IsLeft o.graph old o.u
unfolding after
left_after o is old size marks v l new = by o.list is.order marks
  where
    by : (es : List (List ℕ)) → IsEarOrder o.graph o.r o.t o.u es → ((v : ℕ) → mark_of old v ≡ in_ears es v) → IsLeft o.graph old o.u
    by [] none marks = absurd none
    by (e ∷ es) order marks =
        let g = o.graph in
        let at : (w : ℕ) → mark_of old w ≡ after (with_ear (ends_of o.r o.t) e) es w = λ w. marks w ∙ order_marks g o.r o.t o.u (e ∷ es) order w in
        let state = state_after g o.u (with_ear (ends_of o.r o.t) e) es order.later order.goes_on.connected order.goes_on.third v l (sym (at v) ∙ new) in
        let in_first : (w : ℕ) → has e w ≡ true → mark_of old w ≡ true = λ w h. marks w ∙ in_ear e es w h in
        record {
          size = size;
          three = is.three;
          two = (
            o.r,
            o.t,
            in_first o.r (subst (λ z. has e z ≡ true) order.begins (has-at e 0 0 (omega (arith, order.ear.three)))),
            in_first o.t (subst (λ z. has e z ≡ true) order.ends (has-at e (length e - 1) 0 (omega (arith, order.ear.three)))),
            ends_differ g o.r o.t o.u is.graph is.ends,
          );
          connected = connected_same g is.graph (complement (after (with_ear (ends_of o.r o.t) e) es)) (complement (mark_of old)) (λ w small. ap (λ b. complement (λ z. b) w) (sym (at w))) state.0;
          node = is.ends.node;
          third = at o.u ∙ state.1;
        }

-- one ear more keeps the order
pub order_push : (o : Ears) → IsOrder o → (old : List Bool) (e : List ℕ) → ((v : ℕ) → mark_of old v ≡ in_ears o.list v) → (v : ℕ) → v < o.graph.nodes → mark_of old v ≡ false
    → IsEar o.graph (mark_of old) e → ContinuesWith o.graph o.u (mark_of old) e → IsOrder (record o { list = o.list ++ e ∷ [] })
unfolding after
order_push o is old e marks v l new ear next = record { graph = is.graph; few = is.few; three = is.three; ends = is.ends; order = by o.list is.order marks }
  where
    by : (es : List (List ℕ)) → IsEarOrder o.graph o.r o.t o.u es → ((v : ℕ) → mark_of old v ≡ in_ears es v) → IsEarOrder o.graph o.r o.t o.u (es ++ e ∷ [])
    by [] none marks = absurd none
    by (a ∷ es) order marks =
        let g = o.graph in
        let at : (w : ℕ) → mark_of old w ≡ after (with_ear (ends_of o.r o.t) a) es w = λ w. marks w ∙ order_marks g o.r o.t o.u (a ∷ es) order w in
        record {
          begins = order.begins;
          ends = order.ends;
          ear = order.ear;
          goes_on = order.goes_on;
          later = ears_push g o.u (with_ear (ends_of o.r o.t) a) es e order.later v l (sym (at v) ∙ new) (ear_same g (mark_of old) (after (with_ear (ends_of o.r o.t) a) es) e at ear)
              (continues_same g is.graph o.u (mark_of old) (after (with_ear (ends_of o.r o.t) a) es) e at next);
        }

-- it has no more ears than the graph has nodes
pub order_short : (o : Ears) → IsOrder o → length o.list ≤ o.graph.nodes
order_short o is = by o.list is.order
  where
    by : (es : List (List ℕ)) → IsEarOrder o.graph o.r o.t o.u es → length es ≤ o.graph.nodes
    by [] none = absurd none
    by (e ∷ es) order =
        omega (arith, ear_count o.graph is.graph o.u (ends_of o.r o.t) (e ∷ es) (after_first o.graph o.u (ends_of o.r o.t) e es order.ear order.goes_on order.later))

-- the nodes of ears are nodes
nodes_after : (g : Network) → IsGraph g → (u : ℕ) (old : ℕ → Bool) (es : List (List ℕ)) → AreEarsAfter g u old es → All (λ e. All (λ v. v < g.nodes) e) es
unfolding AreEarsAfter
nodes_after g graph u old [] are k d l = absurd (omega arith)
nodes_after g graph u old (e ∷ es) are zero d l = ear_all g graph old e are.0
nodes_after g graph u old (e ∷ es) are (suc k) d l = elim are.1 [
  | inl more ↦ nodes_after g graph u (with_ear old e) es more.1 k d (omega (arith, l))
  | inr last ↦ absurd (let none : length es ≡ 0 = ap length last.0 in omega (arith, none, l))
]

pub order_nodes : (o : Ears) → IsOrder o → All (λ e. All (λ v. v < o.graph.nodes) e) o.list
order_nodes o is = by o.list is.order
  where
    by : (es : List (List ℕ)) → IsEarOrder o.graph o.r o.t o.u es → All (λ e. All (λ v. v < o.graph.nodes) e) es
    by [] none = absurd none
    by (e ∷ es) order = nodes_after o.graph is.graph o.u (ends_of o.r o.t) (e ∷ es) (after_first o.graph o.u (ends_of o.r o.t) e es order.ear order.goes_on order.later)

-- the same in another name of the graph
pub left_in : (o : Ears) → IsOrder o → (g : Network) → o.graph ≡ g → (old : List Bool) → length old ≡ g.nodes → ((v : ℕ) → mark_of old v ≡ in_ears o.list v) → (v : ℕ) → v < length old → mark_of old v ≡ false → IsLeft g old o.u
left_in o is g same old size marks v l new =
    subst (λ z. IsLeft z old o.u) same (left_after o is old (size ∙ ap (λ (z : Network). z.nodes) (sym same)) marks v
    (let n : length old ≡ o.graph.nodes = size ∙ ap (λ (z : Network). z.nodes) (sym same) in omega (arith, l, n)) new)
