-- The nodes that are seen, gathered one by one; and those that are not, taken out part by part.
use Rattle.std.proofs.Common.{◌≡◌, ◌≢◌, ℕ, ◌+◌, ◌<◌, Bool, true, false, not, ◌&&◌, ◌||◌, ◌==◌, List, [], ◌∷◌, length, take, get_or, set, IsTrue, refl, sym, ap, subst, ◌∙◌, inl, inr, arith, get_or-set_same, get_or-set_other}
use Rattle.std.proofs.lemmas.Bool.{cases_Bool, cases_eq, both_ways, false_from_ne_true, eq-eqb, ne_eqb, and_right}
use Rattle.std.proofs.lemmas.Bool.Decides.{nat_tests}
use Rattle.std.proofs.lemmas.List.{take_more}
use Rattle.tomo_base.specs.Network.{Network, linked, IsGraph}
use Rattle.tomo_base.specs.Sets.{has, count, minus, without, Within}
use Rattle.tomo_base.specs.Walks.{Reaches, everything}
use Rattle.tomo_base.specs.Search.{mark_of}
use Rattle.tomo_base.specs.Parting.{without_two}
use Rattle.tomo_base.proofs.Counts.{count-less}
use Rattle.tomo_base.proofs.Members.{has-append}
use Rattle.tomo_base.proofs.Links.{linked_below, linked_comm}
use Rattle.tomo_base.proofs.Walks.{Reaches-trans, Reaches-within, stays_in}
use Rattle.tomo_base.proofs.Parting.{minus-in, minus-out, without_two-ne, without_two-mono, without_two_gives, flip}
use Rattle.three_conn.specs.Growing.{HasWaysOut, IsGateway, IsShutOff}
use Rattle.three_conn.specs.Held.{IsRest}
use Rattle.three_conn.specs.Seen.{IsSeen, AreSeen}

-- w is the set without the nodes of which it is known that they are not seen; of its other nodes those that are not free are seen
pub record IsSeeing (g : Network) (m w free : ℕ → Bool) : Type 0 where
  pub inside : Within free w
  pub none_in : (v : ℕ) → IsTrue (free v) → m v ≡ false
  pub known : (v : ℕ) → IsTrue (w v) → free v ≡ false → IsSeen g m v
  pub gone : (v : ℕ) → v < g.nodes → w v ≡ false → IsSeen g m v → ⊥
  pub near : (u v : ℕ) → IsTrue (free u) → IsTrue (linked g u v) → IsTrue (w v)

-- a monitor is seen
pub monitor_seen : (g : Network) (m : ℕ → Bool) (v : ℕ) → m v ≡ true → IsSeen g m v
monitor_seen g m v is c d _ _ = (v, is, ([], tt, tt, refl))

-- at first all nodes but the monitors are free
pub seeing_first : (g : Network) (m w free : ℕ → Bool) → IsGraph g → ((v : ℕ) → v < g.nodes → w v ≡ true) → IsRest w m free → IsSeeing g m w free
seeing_first g m w free graph all rest = record {
  inside = λ v t. (minus-out w m v (sym (rest v) ∙ t)).0;
  none_in = λ v t. (minus-out w m v (sym (rest v) ∙ t)).1;
  known = λ v t out. elim (cases_Bool (m v)) [
    | inl is ↦ monitor_seen g m v is
    | inr none ↦ absurd (both_ways (free v) out (rest v ∙ minus-in w m v t none))
  ];
  gone = λ v l out _. both_ways (w v) out (all v l);
  near = λ u v t l. all v (linked_below g.nodes g.links u v graph l).1;
}

-- a node with ways out of the free nodes is seen
pub seeing_more : (g : Network) (m w free less : ℕ → Bool) (u : ℕ) → IsSeeing g m w free → HasWaysOut g w free u → less u ≡ false → ((v : ℕ) → v ≢ u → less v ≡ free v) → IsSeeing g m w less
seeing_more g m w free less u s ways out same =
    let old : (v : ℕ) → IsTrue (less v) → IsTrue (free v) = λ v t. elim (cases_eq v u) [
      | inl e ↦ absurd (both_ways (less u) out (subst (λ z. less z ≡ true) e t))
      | inr ne ↦ sym (same v ne) ∙ t
    ] in
    record {
      inside = λ v t. s.inside v (old v t);
      none_in = λ v t. s.none_in v (old v t);
      known = λ v t not_free. elim (cases_eq v u) [
        | inr ne ↦ s.known v t (sym (same v ne) ∙ not_free)
        | inl e ↦ λ c d _ _.
            let q = without_two everything c d in
            let o = ways c d in
            let at = without_two_gives w c d o.0 o.2 in
            let on = s.known o.0 at.0 o.1 c d (flip at.1) (flip at.2) in
            let to : Reaches g q v o.0 = Reaches-within g (without_two w c d) q v o.0 (without_two-mono w everything c d (λ _ _. refl)) (subst (λ z. Reaches g (without_two w c d) z o.0) (sym e) o.3) in
            (on.0, on.1, Reaches-trans g q v o.0 on.0 to on.2)
      ];
      gone = s.gone;
      near = λ a b t l. s.near a b (old a t) l;
    }

-- the two nodes over which links lead from what is shut off do not stand in it
beside_side : (g : Network) (m w free side : ℕ → Bool) (e v : ℕ) → IsSeeing g m w free → Within side free → v < g.nodes → IsTrue (free v) → IsGateway g free side e → e ≢ v
beside_side g m w free side e v s inside l t end same = elim end [
  | inl out ↦ omega (arith, l, same, out)
  | inr gate ↦ both_ways (free e) gate.0 (subst (λ z. free z ≡ true) (sym same) t)
]

-- what is shut off is not seen, and is taken out
pub seeing_less : (g : Network) (m w free side less left : ℕ → Bool) (c d : ℕ) → IsGraph g → IsSeeing g m w free → IsShutOff g w free side c d
    → ((v : ℕ) → less v ≡ minus w side v) → ((v : ℕ) → left v ≡ minus free side v) → IsSeeing g m less left
seeing_less g m w free side less left c d graph s off less_is left_is =
    let left_gives : (v : ℕ) → IsTrue (left v) → IsTrue (free v) × (side v ≡ false) = λ v t. minus-out free side v (sym (left_is v) ∙ t) in
    let less_from : (v : ℕ) → IsTrue (w v) → side v ≡ false → IsTrue (less v) = λ v t o. less_is v ∙ minus-in w side v t o in
    record {
      inside = λ v t. let at = left_gives v t in less_from v (s.inside v at.0) at.1;
      none_in = λ v t. s.none_in v (left_gives v t).0;
      known = λ v t not_free.
          let at = minus-out w side v (sym (less_is v) ∙ t) in
          s.known v at.0 (false_from_ne_true (free v) (λ h. both_ways (left v) not_free (left_is v ∙ minus-in free side v h at.1)));
      gone = λ v l gone seen. elim (cases_Bool (side v)) [
        | inr out ↦ s.gone v l (false_from_ne_true (w v) (λ h. both_ways (less v) gone (less_from v h out))) seen
        | inl here ↦
            let q = without_two everything c d in
            let is_free : IsTrue (free v) = off.inside v here in
            let to = seen c d (beside_side g m w free side c v s off.inside l is_free off.first) (beside_side g m w free side d v s off.inside l is_free off.second) in
            let end : IsTrue (side to.0) = stays_in g q side v to.0 (λ a b k j t.
            let ne = without_two-ne everything c d b t in
            elim (off.shut a b k j (s.near a b (off.inside a k) j)) [
              | inl in_side ↦ in_side
              | inr ends ↦ absurd (elim ends [ inl e ↦ ne.0 e | inr e ↦ ne.1 e ])
            ]) here to.2 in
            both_ways (m to.0) (s.none_in to.0 (off.inside to.0 end)) to.1
      ];
      near = λ u v t l.
          let at = left_gives u t in
          let node : u < g.nodes = (linked_below g.nodes g.links u v graph l).0 in
          let beside : (e : ℕ) → IsGateway g free side e → u ≢ e = λ e end same. beside_side g m w free side e u s off.inside node at.0 end (sym same) in
          less_from v (s.near u v at.0 l) (false_from_ne_true (side v) (λ h. elim (off.shut v u h (linked_comm g u v l) (s.inside u at.0)) [
            | inl in_side ↦ both_ways (side u) at.1 in_side
            | inr ends ↦ elim ends [ inl e ↦ beside c off.first e | inr e ↦ beside d off.second e ]
          ]));
    }

-- without what is shut off there are fewer free nodes
pub fewer_left : (g : Network) (w free side left : ℕ → Bool) (c d : ℕ) → ((v : ℕ) → IsTrue (free v) → v < g.nodes) → IsShutOff g w free side c d → ((v : ℕ) → left v ≡ minus free side v) → count g.nodes left < count g.nodes free
fewer_left g w free side left c d below off left_is =
    let x = off.some.0 in
    let is_free : IsTrue (free x) = off.inside x off.some.1 in
    count-less g.nodes left free x (below x is_free) (left_is x ∙ and_right (free x) (not (side x)) (ap not off.some.1)) is_free (λ v l t. (minus-out free side v (sym (left_is v) ∙ t)).0)

-- where no node is free, exactly those that are left are seen
pub all_seen : (g : Network) (m : ℕ → Bool) (marks : List Bool) (free : ℕ → Bool) → length marks ≡ g.nodes → IsSeeing g m (mark_of marks) free → ((v : ℕ) → v < g.nodes → free v ≡ false) → AreSeen g m marks
all_seen g m marks free size s none = record {
  one_each = size;
  marked = λ v l. (
    (λ t. s.known v t (none v l)),
    (λ seen. elim (cases_Bool (mark_of marks v)) [ inl t ↦ t | inr out ↦ absurd (s.gone v l out seen) ]),
  );
}

-- ---- marks that are taken away

-- true changes nothing in a conjunction
and_true : (b : Bool) → b ≡ (b && true)
and_true b = grind arith

-- the nodes of an empty list take no mark away
pub none_taken : (xs : List Bool) (v : ℕ) → mark_of xs v ≡ minus (mark_of xs) (has []) v
unfolding has
none_taken xs v = and_true (mark_of xs v)

-- a set of marked nodes gets one fewer
pub mark_less : (xs : List Bool) (u v : ℕ) → u < length xs → mark_of (set xs u false) v ≡ without (mark_of xs) u v
mark_less xs u v l = elim (cases_eq v u) [
  | inl same ↦ ap (mark_of (set xs u false)) same ∙ (get_or-set_same xs u false false l ∙ sym (and_right (mark_of xs v) (not (v == u)) (ap not (eq-eqb v u same))))
  | inr other ↦ get_or-set_other xs u v false false other ∙ rw (ne_eqb v u other) (and_true (mark_of xs v))
]

-- the node at the next place of a list loses its mark
pub taken_more : (old now : List Bool) (order : List ℕ) (i x v : ℕ) → i < length order → x ≡ get_or order i 0 → x < length now → mark_of now v ≡ minus (mark_of old) (has (take i order)) v
    → mark_of (set now x false) v ≡ minus (mark_of old) (has (take (i + 1) order)) v
unfolding has
taken_more old now order i x v l here room before =
    rw (take_more order i 0 l, has-append (take i order) (get_or order i 0 ∷ []) v, sym here, mark_less now x v room, before) (either (mark_of old v) (has (take i order) v) x v)
  where
    either : (p h : Bool) (x v : ℕ) → ((p && not h) && not (v == x)) ≡ (p && not (h || ((x == v) || false)))
    either p h x v = grind (arith, nat_tests)
