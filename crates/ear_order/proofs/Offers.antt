-- A better candidate in each of three cases: the zone in which a crossing path exists, by what a further part touches.
use Rattle.std.proofs.Common.{◌≡◌, ◌⊎◌, ℕ, zero, suc, ◌-◌, ◌<◌, ◌≤◌, Bool, true, false, sym, subst, ap, ◌∙◌, inl, inr, arith}
use Rattle.std.proofs.lemmas.Bool.{cases_order, both_ways, false_from_ne_true}
use Rattle.tomo_base.specs.Network.{Network, linked, IsGraph}
use Rattle.tomo_base.specs.Walks.{IsConnectedIn}
use Rattle.tomo_base.proofs.Links.{linked_comm}
use Rattle.ear_order.specs.Crossing.{Crosses}
use Rattle.ear_order.specs.Turns.{inner, Round, border, Zone}
use Rattle.ear_order.proofs.Spreading.{off}
use Rattle.ear_order.proofs.Zones.{two_ends, to_end, around}
use Rattle.ear_order.proofs.Places.{EarAt, run_at, run_gives, ends_differ}
use Rattle.ear_order.proofs.Rounds.{on_path, some_border}

-- from f a path through the zone to another old node exists, and any such path leaves the part of u alone and misses a node of its border
pub record Offer (g : Network) (D R C : ℕ → Bool) (zone : ℕ → Bool) (f : ℕ) : Type 0 where
  pub old_start : D f ≡ true
  pub off_old : (v : ℕ) → zone v ≡ true → D v ≡ false
  pub off_part : (v : ℕ) → zone v ≡ true → C v ≡ false
  pub misses : (a : ℕ) × (border g R C a ≡ true) × (zone a ≡ false)
  pub crosses : Crosses g D zone f

module _ (g : Network) (graph : IsGraph g) (D R C : ℕ → Bool) (u : ℕ) (p : ℕ → ℕ) (last : ℕ) (round : Round g D R (inner p last) C u) (ear : EarAt g D p last)
    (K : ℕ → Bool)
    (other_rest : (v : ℕ) → K v ≡ true → R v ≡ true)
    (other_off : (v : ℕ) → K v ≡ true → C v ≡ false)
    (other_inner : (v : ℕ) → K v ≡ true → border g R C v ≡ false)
    (other_connected : IsConnectedIn g K) where
  small : (v : ℕ) → K v ≡ true → v < g.nodes
  small v k = round.rest_small v (other_rest v k)

  -- a node of the border is not in the other part
  rim_out : (v : ℕ) → border g R C v ≡ true → K v ≡ false
  rim_out v h = off (K v) (border g R C v) (other_inner v) h

  -- a node that the other part touches
  abbrev pub By : ℕ → Type 0
  By w = (v : ℕ) × (K v ≡ true) × (linked g v w ≡ true)

  -- the candidate leaves the part of u alone
  off_candidate : (i : ℕ) → 1 ≤ i → i < last → C (p i) ≡ false
  off_candidate i low high = off (C (p i)) (inner p last (p i)) (round.part_off (p i)) (run_at p 1 last i low high)

  -- two old nodes touch the other part
  pub case_one : (f h : ℕ) → D f ≡ true → D h ≡ true → (h ≡ f → ⊥) → By f → By h → Offer g D R C K f
  case_one f h df dh apart y z =
      let a = some_border g graph D R (inner p last) C u round (p 1) (run_at p 1 last 1 (omega arith) (omega (arith, ear.inner_node))) in
      record {
        old_start = df;
        off_old = λ v k. round.rest_off v (other_rest v k);
        off_part = other_off;
        misses = (a.0, a.1, rim_out a.0 a.1);
        crosses = two_ends g D K K p last other_connected small (λ v k. k) f h y.0 z.0 apart dh y.1 (linked_comm g y.0 f y.2) z.1 z.2;
      }

  -- the other part with two ends of the candidate is off the old nodes and the part of u
  zone_old : (lo hi : ℕ) (zone : ℕ → Bool) → Zone K p last lo hi zone → (v : ℕ) → zone v ≡ true → (D v ≡ false) × (C v ≡ false)
  zone_old lo hi zone z v h = elim (z.only v h) [
    | inl k ↦ (round.rest_off v (other_rest v k), other_off v k)
    | inr i ↦ subst (λ w. (D w ≡ false) × (C w ≡ false)) i.4 (ear.fresh i.0 (omega (arith, i.1)) i.2, off_candidate i.0 i.1 i.2)
  ]

  -- and misses each border node at a place between
  zone_misses : (lo m hi : ℕ) (zone : ℕ → Bool) → Zone K p last lo hi zone → lo < m → m < hi → m < last → border g R C (p m) ≡ true → zone (p m) ≡ false
  zone_misses lo m hi zone z low high within at = false_from_ne_true (zone (p m)) (λ h. elim (z.only (p m) h) [
    | inl k ↦ both_ways (K (p m)) (rim_out (p m) at) k
    | inr i ↦ elim i.3 [
      | inl le ↦ ear.distinct i.0 m (omega (arith, le, low)) (omega (arith, within)) i.4
      | inr ge ↦ ear.distinct m i.0 (omega (arith, ge, high)) (omega (arith, i.2)) (sym i.4)
    ]
  ])

  -- a place of the candidate on the border that the other part touches
  abbrev pub Spot : ℕ → Type 0
  Spot i = (1 ≤ i) × (i < last) × (border g R C (p i) ≡ true) × By (p i)

  -- one old node, not the first of the candidate, and two of the border touch the other part
  pub case_two : (lo m f : ℕ) (zone : ℕ → Bool) → Zone K p last lo last zone → Spot lo → Spot m → lo < m → D f ≡ true → (f ≡ p 0 → ⊥) → By f → Offer g D R C zone (p 0)
  case_two zero m f zone z a b order df apart y = absurd (omega (arith, a.0))
  case_two (suc l) m f zone z a b order df apart y = record {
    old_start = ear.starts;
    off_old = λ v h. (zone_old (suc l) last zone z v h).0;
    off_part = λ v h. (zone_old (suc l) last zone z v h).1;
    misses = (p m, b.2, zone_misses (suc l) m last zone z order b.1 b.1 b.2);
    crosses = to_end g D zone K p last other_connected small z.part ear.steps l a.1 z.front f (a.3).0 y.0 apart df (a.3).1 (linked_comm g (a.3).0 (p (suc l)) (a.3).2) y.1 y.2;
  }

  -- no old node, but three of the border, in order
  pub case_three : (lo m hi : ℕ) (zone : ℕ → Bool) → Zone K p last lo hi zone → Spot lo → Spot m → Spot hi → lo < m → m < hi → Offer g D R C zone (p 0)
  case_three zero m hi zone z a b c lt gt = absurd (omega (arith, a.0))
  case_three (suc l) m hi zone z a b c lt gt = record {
    old_start = ear.starts;
    off_old = λ v h. (zone_old (suc l) hi zone z v h).0;
    off_part = λ v h. (zone_old (suc l) hi zone z v h).1;
    misses = (p m, b.2, zone_misses (suc l) m hi zone z lt gt b.1 b.2);
    crosses = around g D zone K p last other_connected small z.part ear.steps l hi (last - suc hi) (omega (arith, lt, gt)) (omega (arith, c.1)) z.front z.back
        (a.3).0 (c.3).0 (λ e. ends_differ g D p last ear (sym e)) ear.ends (a.3).1 (linked_comm g (a.3).0 (p (suc l)) (a.3).2) (c.3).1 (c.3).2;
  }

  -- a touched node of the border has such a place
  spot : (w : ℕ) → border g R C w ≡ true → By w → (i : ℕ) × Spot i × (p i ≡ w)
  spot w at y =
      let i = run_gives p 1 last w (on_path g graph D R (inner p last) C u round w at) in
      (i.0, (i.1, i.2, subst (λ k. border g R C k ≡ true) (sym i.3) at, (y.0, y.1, subst (λ k. linked g y.0 k ≡ true) (sym i.3) y.2)), i.3)

  -- w is an old node or on the border
  abbrev pub Known : ℕ → Type 0
  Known w = (D w ≡ true) ⊎ (border g R C w ≡ true)

  -- what is known of three nodes that the other part touches
  abbrev pub Three : Type 0
  Three = (e : ℕ) × (f : ℕ) × (h : ℕ) × (By e × Known e) × (By f × Known f) × (By h × Known h) × (f ≡ e → ⊥) × (h ≡ e → ⊥) × (h ≡ f → ⊥)

  -- two touched nodes of the border have two places
  two_places : (f h : ℕ) → border g R C f ≡ true → By f → border g R C h ≡ true → By h → (h ≡ f → ⊥) → (i : ℕ) × (j : ℕ) × (i < j) × Spot i × Spot j
  two_places f h rf yf rh yh apart =
      let a = spot f rf yf in
      let b = spot h rh yh in
      elim (cases_order a.0 b.0) [
        | inl e ↦ absurd (apart (sym b.2 ∙ ap p (sym e) ∙ a.2))
        | inr o ↦ elim o [ inl lt ↦ (a.0, b.0, lt, a.1, b.1) | inr gt ↦ (b.0, a.0, gt, b.1, a.1) ]
      ]

  -- where each old node that it touches is d, two places of the candidate on the border are touched
  pub two_spots : (d : ℕ) → ((w : ℕ) → D w ≡ true → By w → w ≡ d) → Three → (i : ℕ) × (j : ℕ) × (i < j) × Spot i × Spot j
  two_spots d single t = by t.0 t.1 t.2 (t.3).0 (t.3).1 (t.4).0 (t.4).1 (t.5).0 (t.5).1 t.6 t.7 t.8
    where
      by : (e f h : ℕ) → By e → Known e → By f → Known f → By h → Known h → (f ≡ e → ⊥) → (h ≡ e → ⊥) → (h ≡ f → ⊥) → (i : ℕ) × (j : ℕ) × (i < j) × Spot i × Spot j
      by e f h ye (inl de) yf (inl df) yh kh fe he hf = absurd (fe (single f df yf ∙ sym (single e de ye)))
      by e f h ye (inl de) yf (inr rf) yh (inl dh) fe he hf = absurd (he (single h dh yh ∙ sym (single e de ye)))
      by e f h ye (inl de) yf (inr rf) yh (inr rh) fe he hf = two_places f h rf yf rh yh hf
      by e f h ye (inr re) yf (inl df) yh (inl dh) fe he hf = absurd (hf (single h dh yh ∙ sym (single f df yf)))
      by e f h ye (inr re) yf (inl df) yh (inr rh) fe he hf = two_places e h re ye rh yh he
      by e f h ye (inr re) yf (inr rf) yh kh fe he hf = two_places e f re ye rf yf fe

  lower : (i j : ℕ) → (i ≡ j → ⊥) → (i < j) ⊎ (j < i)
  lower i j differ = elim (cases_order i j) [ inl e ↦ absurd (differ e) | inr o ↦ o ]

  -- three different places in order
  in_order : (i j k : ℕ) → Spot i → Spot j → Spot k → (i ≡ j → ⊥) → (i ≡ k → ⊥) → (j ≡ k → ⊥)
      → (i : ℕ) × (m : ℕ) × (j : ℕ) × (i < m) × (m < j) × Spot i × Spot m × Spot j
  in_order i j k a b c ij ik jk = elim (lower i j ij) [
    | inl x1 ↦ elim (lower j k jk) [
      | inl x2 ↦ (i, j, k, x1, x2, a, b, c)
      | inr x2 ↦ elim (lower i k ik) [ inl x3 ↦ (i, k, j, x3, x2, a, c, b) | inr x3 ↦ (k, i, j, x3, x1, c, a, b) ]
    ]
    | inr x1 ↦ elim (lower i k ik) [
      | inl x2 ↦ (j, i, k, x1, x2, b, a, c)
      | inr x2 ↦ elim (lower j k jk) [ inl x3 ↦ (j, k, i, x3, x2, b, c, a) | inr x3 ↦ (k, j, i, x3, x1, c, b, a) ]
    ]
  ]

  -- where it touches no old node, three places are touched
  pub three_spots : ((w : ℕ) → D w ≡ true → By w → ⊥) → Three → (i : ℕ) × (m : ℕ) × (j : ℕ) × (i < m) × (m < j) × Spot i × Spot m × Spot j
  three_spots none t =
      let a = spot t.0 (on_rim t.0 (t.3).0 (t.3).1) (t.3).0 in
      let b = spot t.1 (on_rim t.1 (t.4).0 (t.4).1) (t.4).0 in
      let c = spot t.2 (on_rim t.2 (t.5).0 (t.5).1) (t.5).0 in
      in_order a.0 b.0 c.0 a.1 b.1 c.1
      (λ e. t.6 (sym b.2 ∙ ap p (sym e) ∙ a.2))
      (λ e. t.7 (sym c.2 ∙ ap p (sym e) ∙ a.2))
      (λ e. t.8 (sym c.2 ∙ ap p (sym e) ∙ b.2))
    where
      on_rim : (w : ℕ) → By w → Known w → border g R C w ≡ true
      on_rim w y (inl d) = absurd (none w d y)
      on_rim w y (inr r) = r
