-- A node with three ways to held nodes may be held, and nodes with fewer are a side; and where all nodes are held no two nodes other than the root part the set.
use Rattle.std.proofs.Common.{◌≡◌, ◌≢◌, ℕ, ◌<◌, ◌≤◌, ◌⊎◌, Bool, true, false, ◌==◌, [], ◌∷◌, IsTrue, refl, sym, subst, ◌∙◌, inl, inr, arith}
use Rattle.std.proofs.lemmas.Bool.{cases_Bool, both_ways, or_cases, or_left, eqb-true}
use Rattle.tomo_base.specs.Network.{Network, linked, IsGraph}
use Rattle.tomo_base.specs.Sets.{has, Within, Apart}
use Rattle.tomo_base.specs.Walks.{Reaches}
use Rattle.tomo_base.proofs.Walks.{Reaches-trans, Reaches_comm, Reaches-within, connected_by}
use Rattle.tomo_base.specs.Parting.{with_one, without_two}
use Rattle.tomo_base.specs.declared.search.Swept.{Swept}
use Rattle.tomo_base.proofs.Links.{linked_below, linked_comm}
use Rattle.tomo_base.proofs.Parting.{without_two-from, without_two_gives, without_two-in, minus-in, minus-out}
use Rattle.three_conn.specs.Held.{IsHeld, IsRest, IsWholeBeside}
use Rattle.three_conn.specs.Growing.{HasWaysOut, IsGateway, IsShutOff}
use Rattle.three_conn.specs.Parting.{IsParting}

-- a free node is one of the set, and is not held
pub free_gives : (w held free : ℕ → Bool) (v : ℕ) → IsRest w held free → IsTrue (free v) → IsTrue (w v) × (held v ≡ true → ⊥)
free_gives w held free v rest t = let parts = minus-out w held v (sym (rest v) ∙ t) in (parts.0, both_ways (held v) parts.1)

-- a node of the set that is not free is held
pub held_other : (w held free : ℕ → Bool) (v : ℕ) → IsRest w held free → w v ≡ true → free v ≡ false → held v ≡ true
held_other w held free v rest t out = elim (cases_Bool (held v)) [ inl h ↦ h | inr h ↦ absurd (both_ways (free v) out (rest v ∙ minus-in w held v t h)) ]

-- ---- arms

-- an arm of u: nodes of the set over which a walk leads from u to one of them that is not free
pub record IsArm (g : Network) (w free : ℕ → Bool) (u : ℕ) (arm : ℕ → Bool) : Type 0 where
  pub foot : ℕ
  pub foot_in : IsTrue (arm foot)
  pub foot_out : free foot ≡ false
  pub inside : Within arm w
  pub walk : Reaches g arm u foot

-- without two nodes that are not on it an arm leads to its foot
arm_leads : (g : Network) (w free arm : ℕ → Bool) (u c d : ℕ) → IsArm g w free u arm → arm c ≡ false → arm d ≡ false → (v : ℕ) × (free v ≡ false) × IsTrue (without_two w c d v) × Reaches g (without_two w c d) u v
arm_leads g w free arm u c d a ac ad =
    let stays : Within arm (without_two w c d) = λ v t. without_two-from w c d v (a.inside v t)
    (λ e. both_ways (arm c) ac (subst (λ z. arm z ≡ true) e t)) (λ e. both_ways (arm d) ad (subst (λ z. arm z ≡ true) e t)) in
    (a.foot, a.foot_out, stays a.foot a.foot_in, Reaches-within g arm (without_two w c d) u a.foot stays a.walk)

-- a set avoids two numbers, or has one of them
avoids_or : (q : ℕ → Bool) (c d : ℕ) → ((q c ≡ false) × (q d ≡ false)) ⊎ (IsTrue (q c) ⊎ IsTrue (q d))
avoids_or q c d = elim (cases_Bool (q c)) [
  | inl x ↦ inr (inl x)
  | inr x ↦ elim (cases_Bool (q d)) [ inl y ↦ inr (inr y) | inr y ↦ inl (x, y) ]
]

-- two numbers are not in three sets of which no two share a number
two_miss_one : (p q r : ℕ → Bool) (c d : ℕ) → Apart p q → Apart p r → Apart q r → IsTrue (p c) ⊎ IsTrue (p d) → IsTrue (q c) ⊎ IsTrue (q d) → IsTrue (r c) ⊎ IsTrue (r d) → ⊥
two_miss_one p q r c d pq pr qr x y z = elim x [
  | inl x₁ ↦ elim y [ inl y₁ ↦ pq c x₁ y₁ | inr y₂ ↦ elim z [ inl z₁ ↦ pr c x₁ z₁ | inr z₂ ↦ qr d y₂ z₂ ] ]
  | inr x₂ ↦ elim y [ inr y₂ ↦ pq d x₂ y₂ | inl y₁ ↦ elim z [ inl z₁ ↦ qr c y₁ z₁ | inr z₂ ↦ pr d x₂ z₂ ] ]
]

-- two nodes leave one of three arms whole
pub three_arms : (g : Network) (w free p q r : ℕ → Bool) (u : ℕ) → IsArm g w free u p → IsArm g w free u q → IsArm g w free u r → Apart p q → Apart p r → Apart q r → HasWaysOut g w free u
three_arms g w free p q r u a b c pq pr qr e f = elim (avoids_or p e f) [
  | inl m ↦ arm_leads g w free p u e f a m.0 m.1
  | inr x ↦ elim (avoids_or q e f) [
    | inl m ↦ arm_leads g w free q u e f b m.0 m.1
    | inr y ↦ elim (avoids_or r e f) [
      | inl m ↦ arm_leads g w free r u e f c m.0 m.1
      | inr z ↦ absurd (two_miss_one p q r e f pq pr qr x y z)
    ]
  ]
]

-- ---- held nodes

-- a node with ways out of the free nodes may be held
pub held_more : (g : Network) (w held free : ℕ → Bool) (root u : ℕ) → IsHeld g w root held → IsRest w held free → HasWaysOut g w free u → IsHeld g w root (with_one held u)
held_more g w held free root u h rest ways = record {
  root_in = h.root_in;
  root_held = or_left (held root) (root == u) h.root_held;
  near = λ v l t. or_left (held v) (v == u) (h.near v l t);
  joined = λ e f v re rf is t. elim (or_cases (held v) (v == u) is) [
    | inl old ↦ h.joined e f v re rf old t
    | inr new ↦
        let same : v ≡ u = eqb-true v u new in
        let o = ways e f in
        let to : Reaches g (without_two w e f) root o.0 = h.joined e f o.0 re rf (held_other w held free o.0 rest (without_two-in w e f o.0 o.2) o.1) o.2 in
        Reaches-trans g (without_two w e f) root o.0 v to (Reaches_comm g (without_two w e f) v o.0 t (subst (λ z. Reaches g (without_two w e f) z o.0) (sym same) o.3))
  ];
}

-- free nodes that are shut off are a side: two nodes part them from the root
pub shut_parting : (g : Network) (w held free : ℕ → Bool) (root : ℕ) (s : Swept) (c d : ℕ) → IsGraph g → ((v : ℕ) → IsTrue (w v) → v < g.nodes) → IsHeld g w root held → IsRest w held free → IsShutOff g w free (has s.order.items) c d
    → IsParting g w (record { side = s.order; first = c; second = d })
shut_parting g w held free root s c d graph below h rest off =
    let side = has s.order.items in
    let in_set : (v : ℕ) → IsTrue (side v) → IsTrue (w v) × (held v ≡ true → ⊥) = λ v k. free_gives w held free v rest (off.inside v k) in
    let other : (e : ℕ) → IsGateway g free side e → (v : ℕ) → IsTrue (side v) → v ≢ e = λ e end v k same. elim end [
      | inl out ↦ omega (arith, below v (in_set v k).0, same, out)
      | inr gate ↦ both_ways (free e) gate.0 (subst (λ z. free z ≡ true) same (off.inside v k))
    ] in
    let root_other : (e : ℕ) → IsGateway g free side e → root ≢ e = λ e end same. elim end [
      | inl out ↦ omega (arith, below root h.root_in, same, out)
      | inr gate ↦ (in_set gate.1 gate.2).1 (h.near gate.1 (linked_comm g gate.1 root (subst (λ z. IsTrue (linked g gate.1 z)) (sym same) gate.3)) (in_set gate.1 gate.2).0)
    ] in
    let most : (e : ℕ) → IsGateway g free side e → e ≤ g.nodes = λ e end. elim end [
      | inl out ↦ omega (arith, out)
      | inr gate ↦ omega (arith, (linked_below g.nodes g.links gate.1 e graph gate.3).1)
    ] in
    record {
      parted = record {
        inside = λ v k. without_two-from w c d v (in_set v k).0 (other c off.first v k) (other d off.second v k);
        shut = λ u v k l t. let at = without_two_gives w c d v t in elim (off.shut u v k l at.0) [
          | inl in_side ↦ in_side
          | inr ends ↦ absurd (elim ends [ inl e ↦ at.1 e | inr e ↦ at.2 e ])
        ];
        some = (off.some.0, below off.some.0 (in_set off.some.0 off.some.1).0, off.some.1);
        rest = (
          root,
          below root h.root_in,
          without_two-from w c d root h.root_in (root_other c off.first) (root_other d off.second),
          elim (cases_Bool (side root)) [
            | inl k ↦ absurd ((in_set root k).1 h.root_held)
            | inr out ↦ out
          ],
        );
      };
      first_most = most c off.first;
      second_most = most d off.second;
    }

-- the root and its neighbours may be held
pub held_first : (g : Network) (w held : ℕ → Bool) (root : ℕ) → IsTrue (w root) → ((v : ℕ) → (held v ≡ true → (v ≡ root) ⊎ IsTrue (linked g root v)) × ((v ≡ root) ⊎ IsTrue (linked g root v) → held v ≡ true)) → IsHeld g w root held
held_first g w held root root_in are = record {
  root_in = root_in;
  root_held = (are root).1 (inl refl);
  near = λ v l t. (are v).1 (inr l);
  joined = λ c d v rc rd h t. elim ((are v).0 h) [
    | inl same ↦ ([], tt, tt, sym same)
    | inr l ↦ (v ∷ [], (l, tt), (t, tt), refl)
  ];
}

-- where all nodes of the set are held, no two nodes other than the root part it
pub held_whole : (g : Network) (w held : ℕ → Bool) (root : ℕ) → IsHeld g w root held → Within w held → IsWholeBeside g w root
held_whole g w held root h all c d rc rd =
    connected_by g (without_two w c d) root (without_two-from w c d root h.root_in (λ e. rc (sym e)) (λ e. rd (sym e)))
    (λ v l t. h.joined c d v rc rd (all v (without_two_gives w c d v t).0) t)
