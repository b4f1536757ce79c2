-- One turn of the search for an ear: what the part of u, its border on the candidate, and a further part have to do with each other.
use Rattle.std.proofs.Common.{◌≡◌, ◌⊎◌, ℕ, ◌<◌, Bool, true, false, not, ◌&&◌, subst, inl, inr}
use Rattle.std.proofs.lemmas.Bool.{cases_Bool, both_ways, and_parts, and_from, not-true, not_from_false, false_from_ne_true}
use Rattle.tomo_base.specs.Network.{Network, linked, IsGraph}
use Rattle.tomo_base.specs.Sets.{touches, complement}
use Rattle.tomo_base.specs.Walks.{IsConnectedIn}
use Rattle.tomo_base.specs.Cuts.{IsThreeConnected}
use Rattle.tomo_base.proofs.Links.{linked_comm, linked_below}
use Rattle.tomo_base.proofs.Counts.{find}
use Rattle.ear_order.specs.Turns.{Round, border}
use Rattle.ear_order.proofs.Spreading.{spreads, connected_same, touch_from, touch_gives, off}
use Rattle.ear_order.proofs.Outer.{three_beside}

module _ (g : Network) (graph : IsGraph g) (D R mid C : ℕ → Bool) (u : ℕ) (round : Round g D R mid C u) where
  -- what it means to be on the border
  pub border_parts : (v : ℕ) → border g R C v ≡ true → (R v ≡ true) × (C v ≡ false) × (touches g C v ≡ true)
  border_parts v h =
      let a = and_parts (R v) (not (C v) && touches g C v) h in
      let b = and_parts (not (C v)) (touches g C v) a.1 in
      (a.0, not-true (C v) b.0, b.1)

  pub border_from : (v : ℕ) → R v ≡ true → C v ≡ false → touches g C v ≡ true → border g R C v ≡ true
  border_from v r c t = and_from (R v) (not (C v) && touches g C v) r (and_from (not (C v)) (touches g C v) (not_from_false (C v) c) t)

  -- the border lies on the candidate
  pub on_path : (v : ℕ) → border g R C v ≡ true → mid v ≡ true
  on_path v h = elim (cases_Bool (mid v)) [
    | inl y ↦ y
    | inr n ↦
        let a = border_parts v h in
        let w = touch_gives g C v a.2 in
        absurd (both_ways (C v) a.1 (round.part_closed w.0 v w.1 w.2 a.0 n))
  ]

  -- some node is on the border, as the candidate has an inner node
  pub some_border : (m : ℕ) → mid m ≡ true → (a : ℕ) × (border g R C a ≡ true)
  some_border m in_mid = elim (find g.nodes (border g R C)) [
    | inl f ↦ (f.0, f.2)
    | inr none ↦
        let u_rest : R u ≡ true = round.part_rest u round.part_has in
        let m_rest : R m ≡ true = round.mid_rest m in_mid in
        absurd (both_ways (mid m) (round.part_off m (spreads g R C round.connected (λ v w rv cv l rw'. elim (cases_Bool (C w)) [
          | inl y ↦ y
          | inr n ↦ absurd (both_ways (border g R C w) (none w (round.rest_small w rw')) (border_from w rw' n (touch_from g graph C v w cv l)))
        ]) u m (round.rest_small u u_rest) (round.rest_small m m_rest) u_rest m_rest round.part_has)) in_mid)
  ]

  -- K is a part of what is left, off the part of u and its border
  module _ (K : ℕ → Bool)
      (other_rest : (v : ℕ) → K v ≡ true → R v ≡ true)
      (other_off : (v : ℕ) → K v ≡ true → C v ≡ false)
      (other_inner : (v : ℕ) → K v ≡ true → border g R C v ≡ false)
      (other_closed : (v w : ℕ) → K v ≡ true → linked g v w ≡ true → R w ≡ true → C w ≡ false → border g R C w ≡ false → K w ≡ true) where
    -- no link joins the two parts
    no_link : (v w : ℕ) → K v ≡ true → linked g v w ≡ true → C w ≡ false
    no_link v w k l = false_from_ne_true (C w) (λ c.
        both_ways (border g R C v) (other_inner v k) (border_from v (other_rest v k) (other_off v k) (touch_from g graph C w v c (linked_comm g v w l))))

    -- what the other part touches is an old node or on the border
    pub kept_off : (v w : ℕ) → K v ≡ true → linked g v w ≡ true → K w ≡ false → (D w ≡ true) ⊎ (border g R C w ≡ true)
    kept_off v w k l out = elim (cases_Bool (D w)) [
      | inl y ↦ inl y
      | inr new ↦ elim (cases_Bool (border g R C w)) [
        | inl y ↦ inr y
        | inr n ↦ absurd (both_ways (K w) out (other_closed v w k l (round.rest_all w (linked_below g.nodes g.links v w graph l).1 new) (no_link v w k l) n))
      ]
    ]

    -- a node that the other part touches: the node of the part, and whether it is old or on the border
    abbrev pub Met : ℕ → Type 0
    Met w = (v : ℕ) × (K v ≡ true) × (linked g v w ≡ true) × ((D w ≡ true) ⊎ (border g R C w ≡ true))

    met : (w : ℕ) → K w ≡ false → touches g K w ≡ true → Met w
    met w out t = let v = touch_gives g K w t in (v.0, v.1, v.2, kept_off v.0 w v.1 v.2 out)

    -- three nodes, old or on the border, touch the other part
    pub three_touch : IsThreeConnected g → (x d e : ℕ) → K x ≡ true → d < g.nodes → e < g.nodes → D d ≡ true → D e ≡ true → (d ≡ e → ⊥)
        → (a : ℕ) × (b : ℕ) × (c : ℕ) × Met a × Met b × Met c × (b ≡ a → ⊥) × (c ≡ a → ⊥) × (c ≡ b → ⊥)
    three_touch three x d e kx ld le dd de differ =
        let u_rest : R u ≡ true = round.part_rest u round.part_has in
        let old_out : (v : ℕ) → D v ≡ true → K v ≡ false = λ v old. off (K v) (D v) (λ k. round.rest_off v (other_rest v k)) old in
        let not_u : (v : ℕ) → D v ≡ true → v ≡ u → ⊥ = λ v old e. both_ways (D u) (round.rest_off u u_rest) (subst (λ k. D k ≡ true) e old) in
        let t = three_beside g graph three K x kx (λ v k. round.rest_small v (other_rest v k)) d e u ld le (round.rest_small u u_rest)
        (old_out d dd) (old_out e de) (off (K u) (C u) (λ k. other_off u k) round.part_has) differ (not_u d dd) (not_u e de) in
        (t.0, t.1, t.2, met t.0 (t.3).1 (t.3).2, met t.1 (t.4).1 (t.4).2, met t.2 (t.5).1 (t.5).2, t.6, t.7, t.8)

  -- the part of u grows where a new candidate leaves it alone and misses a node of the border
  pub grows : (mid' C' : ℕ → Bool) (a : ℕ)
      → ((v w : ℕ) → C' v ≡ true → linked g v w ≡ true → R w ≡ true → mid' w ≡ false → C' w ≡ true) → C' u ≡ true
      → ((v : ℕ) → C v ≡ true → mid' v ≡ false) → border g R C a ≡ true → mid' a ≡ false
      → ((v : ℕ) → C v ≡ true → C' v ≡ true) × (C' a ≡ true) × (C a ≡ false) × (a < g.nodes)
  grows mid' C' a closed' has' free at missed =
      let p = border_parts a at in
      let w = touch_gives g C a p.2 in
      let small : (v : ℕ) → C v ≡ true → v < g.nodes = λ v c. round.rest_small v (round.part_rest v c) in
      let all : (v : ℕ) → C v ≡ true → C' v ≡ true = λ v c. spreads g C C' round.part_connected (λ v w cv c'v l cw. closed' v w c'v l (round.part_rest w cw) (free w cw))
      u v (small u round.part_has) (small v c) round.part_has c has' in
      (all, closed' w.0 a (all w.0 w.1) w.2 p.0 missed, p.1, round.rest_small a p.0)

  -- where nothing else is left, the order goes on: E are the nodes that are old or on the candidate
  module _ (done : (v : ℕ) → R v ≡ true → (C v ≡ true) ⊎ (border g R C v ≡ true)) (E : ℕ → Bool)
      (kept : (v : ℕ) → D v ≡ true → E v ≡ true) (more : (v : ℕ) → mid v ≡ true → E v ≡ true)
      (only : (v : ℕ) → E v ≡ true → (D v ≡ true) ⊎ (mid v ≡ true)) where
    -- each inner node is on the border
    inner_border : (v : ℕ) → mid v ≡ true → border g R C v ≡ true
    inner_border v m = elim (done v (round.mid_rest v m)) [
      | inl c ↦ absurd (both_ways (mid v) (round.part_off v c) m)
      | inr b ↦ b
    ]

    in_part : (v : ℕ) → C v ≡ true → E v ≡ false
    in_part v c = false_from_ne_true (E v) (λ e. elim (only v e) [
      | inl d ↦ both_ways (D v) (round.rest_off v (round.part_rest v c)) d
      | inr m ↦ both_ways (mid v) (round.part_off v c) m
    ])

    -- what is left after the candidate is the part of u
    left_is_part : (v : ℕ) → v < g.nodes → C v ≡ complement E v
    left_is_part v small = elim (cases_Bool (E v)) [
      | inl e ↦ rw e (off (C v) (E v) (in_part v) e)
      | inr n ↦
          let new : D v ≡ false = false_from_ne_true (D v) (λ d. both_ways (E v) n (kept v d)) in
          rw n (elim (done v (round.rest_all v small new)) [
            | inl c ↦ c
            | inr b ↦ absurd (both_ways (E v) n (more v (on_path v b)))
          ])
    ]

    -- it holds u, is connected, and each inner node has a neighbour in it
    pub goes_on : (E u ≡ false) × IsConnectedIn g (complement E) × ((v : ℕ) → mid v ≡ true → touches g (complement E) v ≡ true)
    goes_on = (
      in_part u round.part_has,
      connected_same g graph C (complement E) left_is_part round.part_connected,
      λ v m. let w = touch_gives g C v (border_parts v (inner_border v m)).2 in touch_from g graph (complement E) w.0 v (not_from_false (E w.0) (in_part w.0 w.1)) w.2,
    )
