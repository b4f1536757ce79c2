-- no two nodes of a rigid piece are parted in the block
use Rattle.std.proofs.Common.{◌≡◌, ◌≢◌, ℕ, Bool, true, false, ◌&&◌, ◌||◌, ◌==◌, ◌⊎◌, IsTrue, refl, sym, subst, ◌∙◌, inl, inr}
use Rattle.std.proofs.lemmas.Bool.{cases_Bool, both_ways, and_parts, and_from, eqb-true, or_cases, cases_eq}
use Rattle.tomo_base.specs.Network.{Network, linked}
use Rattle.tomo_base.specs.Sets.{minus, Within}
use Rattle.tomo_base.specs.Parting.{without_two, IsClosedIn, AreJoinedIn, IsJoinedIn}
use Rattle.tomo_base.proofs.Parting.{without_two-in, without_two-from, without_two-ne, minus-out, flip, joined-more}
use Rattle.tomo_base.proofs.Picks.{pick3}

-- the two numbers are the two ends, in one of the two orders
abbrev pub Ends : ℕ → ℕ → ℕ → ℕ → Type 0
Ends p q u v = ((p ≡ u) × (q ≡ v)) ⊎ ((p ≡ v) × (q ≡ u))

-- the same as a test
abbrev pub ends : ℕ → ℕ → ℕ → ℕ → Bool
ends p q u v = ((p == u) && (q == v)) || ((p == v) && (q == u))

-- what the test says
pub ends-true : (p q u v : ℕ) → ends p q u v ≡ true → Ends p q u v
ends-true p q u v h = elim (or_cases ((p == u) && (q == v)) ((p == v) && (q == u)) h) [
  | inl e ↦ let x = and_parts (p == u) (q == v) e in inl (eqb-true p u x.0, eqb-true q v x.1)
  | inr e ↦ let x = and_parts (p == v) (q == u) e in inr (eqb-true p v x.0, eqb-true q u x.1)
]

-- the nodes that stand for the link between p and q: its ends, and the nodes outside the piece that it owns
abbrev pub zone : (ℕ → Bool) → (ℕ → Bool) → (ℕ → ℕ) → (ℕ → ℕ) → ℕ → ℕ → ℕ → Bool
zone B P o1 o2 p q w = (w == p) || ((w == q) || (minus B P w && ends (o1 w) (o2 w) p q))

-- P is a piece of the block B: each node outside it has a link of the piece as its owner, alike for linked nodes and with the only nodes of P that it is linked to as ends; a link of the piece that is none of the block ties its ends through what it owns
pub record Owned (G N : Network) (B P : ℕ → Bool) (o1 o2 : ℕ → ℕ) : Type 0 where
  pub inside : Within P B
  pub kept : (u v : ℕ) → IsTrue (P u) → IsTrue (P v) → linked G u v ≡ true → linked N u v ≡ true
  pub here : (u v : ℕ) → linked N u v ≡ true → (IsTrue (P u)) × (IsTrue (P v))
  pub owner : (d : ℕ) → IsTrue (B d) → P d ≡ false → linked N (o1 d) (o2 d) ≡ true
  pub same : (d e : ℕ) → IsTrue (B d) → P d ≡ false → IsTrue (B e) → P e ≡ false → linked G d e ≡ true → (o1 d ≡ o1 e) × (o2 d ≡ o2 e)
  pub touch : (d x : ℕ) → IsTrue (B d) → P d ≡ false → IsTrue (P x) → linked G d x ≡ true → (x ≡ o1 d) ⊎ (x ≡ o2 d)
  pub stand : (p q : ℕ) → linked N p q ≡ true → linked G p q ≡ false → AreJoinedIn G (zone B P o1 o2 p q) p q

-- e is outside the piece and owned by the link u v
abbrev pub Cross : (ℕ → Bool) → (ℕ → Bool) → (ℕ → ℕ) → (ℕ → ℕ) → ℕ → ℕ → ℕ → Type 0
Cross B P o1 o2 e u v = (IsTrue (B e)) × (P e ≡ false) × Ends (o1 e) (o2 e) u v

-- every crossing link that e owns has the end f
abbrev pub Covers : (ℕ → Bool) → (ℕ → Bool) → (ℕ → ℕ) → (ℕ → ℕ) → (ℕ → Bool) → ℕ → ℕ → Type 0
Covers B P o1 o2 Y e f = (u v : ℕ) → IsTrue (Y u) → Y v ≡ false → Cross B P o1 o2 e u v → (u ≡ f) ⊎ (v ≡ f)

module _ (G N : Network) (B P : ℕ → Bool) (o1 o2 : ℕ → ℕ) (own : Owned G N B P o1 o2)
    (pick3 : (a b c : ℕ) → (z : ℕ) × IsTrue (P z) × (z ≢ a) × (z ≢ b) × (z ≢ c))
    (firm : (c d : ℕ) → IsJoinedIn N (without_two P c d))
    (c d : ℕ) (X : ℕ → Bool) (h : IsClosedIn G (without_two B c d) X) where
  -- X, cut down to what is left
  abbrev side : (ℕ → Bool)
  side v = X v && without_two B c d v

  -- what is in it is left
  side-in : (v : ℕ) → IsTrue (side v) → IsTrue (without_two B c d v)
  side-in v m = (and_parts (X v) (without_two B c d v) m).1

  -- another node that stands for a link is owned by it
  zone-hit : (e u v : ℕ) → (e ≢ u) → (e ≢ v) → IsTrue (zone B P o1 o2 u v e) → Cross B P o1 o2 e u v
  zone-hit e u v p q m = elim (or_cases (e == u) ((e == v) || (minus B P e && ends (o1 e) (o2 e) u v)) m) [
    | inl x ↦ absurd (p (eqb-true e u x))
    | inr y ↦ elim (or_cases (e == v) (minus B P e && ends (o1 e) (o2 e) u v) y) [
      | inl x ↦ absurd (q (eqb-true e v x))
      | inr z ↦
          let s = and_parts (minus B P e) (ends (o1 e) (o2 e) u v) z in
          let t = minus-out B P e s.0 in
          (t.0, t.1, ends-true (o1 e) (o2 e) u v s.1)
    ]
  ]

  -- what stands for a link is in the block
  zone-inside : (u v w : ℕ) → IsTrue (P u) → IsTrue (P v) → IsTrue (zone B P o1 o2 u v w) → IsTrue (B w)
  zone-inside u v w pu pv m = elim (or_cases (w == u) ((w == v) || (minus B P w && ends (o1 w) (o2 w) u v)) m) [
    | inl x ↦ subst (λ z. IsTrue (B z)) (sym (eqb-true w u x)) (own.inside u pu)
    | inr y ↦ elim (or_cases (w == v) (minus B P w && ends (o1 w) (o2 w) u v) y) [
      | inl x ↦ subst (λ z. IsTrue (B z)) (sym (eqb-true w v x)) (own.inside v pv)
      | inr z ↦ (minus-out B P w (and_parts (minus B P w) (ends (o1 w) (o2 w) u v) z).0).0
    ]
  ]

  -- a link of the piece that leaves the side is owned by c or by d
  crossing : (u v : ℕ) → linked N u v ≡ true → IsTrue (side u) → side v ≡ false → (v ≢ c) → (v ≢ d)
      → Cross B P o1 o2 c u v ⊎ Cross B P o1 o2 d u v
  crossing u v l su sv vc vd =
      let pl = own.here u v l in
      let iv = without_two-from B c d v (own.inside v pl.1) vc vd in
      let ne = without_two-ne B c d u (side-in u su) in
      let xu = (and_parts (X u) (without_two B c d u) su).0 in
      elim (cases_Bool (linked G u v)) [
        | inl gl ↦ absurd (both_ways (side v) sv (and_from (X v) (without_two B c d v) (h u v xu gl iv) iv))
        | inr gn ↦ elim (cases_Bool (zone B P o1 o2 u v c)) [
          | inl zc ↦ inl (zone-hit c u v (λ e. ne.0 (sym e)) (λ e. vc (sym e)) zc)
          | inr nc ↦ elim (cases_Bool (zone B P o1 o2 u v d)) [
            | inl zd ↦ inr (zone-hit d u v (λ e. ne.1 (sym e)) (λ e. vd (sym e)) zd)
            | inr nd ↦
                let sub : Within (zone B P o1 o2 u v) (without_two B c d) = λ w m. without_two-from B c d w (zone-inside u v w pl.0 pl.1 m)
                (λ e. both_ways (zone B P o1 o2 u v c) nc (subst (λ z. IsTrue (zone B P o1 o2 u v z)) e m))
                (λ e. both_ways (zone B P o1 o2 u v d) nd (subst (λ z. IsTrue (zone B P o1 o2 u v z)) e m)) in
                absurd (both_ways (side v) sv (and_from (X v) (without_two B c d v)
                (joined-more G (zone B P o1 o2 u v) (without_two B c d) sub u v (own.stand u v l gn) X h xu) iv))
          ]
        ]
      ]

  -- two nodes f and g of the piece that hit every crossing link do not part it
  over : (f g : ℕ) → (Covers B P o1 o2 side c f ⊎ Covers B P o1 o2 side c g) → (Covers B P o1 o2 side d f ⊎ Covers B P o1 o2 side d g)
      → (IsTrue (P c) → (c ≡ f) ⊎ (c ≡ g)) → (IsTrue (P d) → (d ≡ f) ⊎ (d ≡ g))
      → (s t : ℕ) → IsTrue (without_two P f g s) → IsTrue (without_two P f g t) → IsTrue (side s) → IsTrue (side t)
  over f g cc cd pc pd s t is it ms =
      let Y : ℕ → Bool = λ v. side v && without_two P f g v in
      let no : (e : ℕ) → (IsTrue (P e) → (e ≡ f) ⊎ (e ≡ g)) → (v : ℕ) → IsTrue (without_two P f g v) → (v ≢ e) =
      λ e pe v iv q. elim (pe (subst (λ z. IsTrue (P z)) q (without_two-in P f g v iv))) [
        | inl x ↦ (without_two-ne P f g v iv).0 (q ∙ x)
        | inr x ↦ (without_two-ne P f g v iv).1 (q ∙ x)
      ] in
      let hit : (e : ℕ) → (Covers B P o1 o2 side e f ⊎ Covers B P o1 o2 side e g) → (u v : ℕ) → IsTrue (side u) → side v ≡ false
      → IsTrue (without_two P f g u) → IsTrue (without_two P f g v) → Cross B P o1 o2 e u v → ⊥ =
      λ e ce u v su sv iu iv x. elim ce [
        | inl k ↦ elim (k u v su sv x) [ inl q ↦ (without_two-ne P f g u iu).0 q | inr q ↦ (without_two-ne P f g v iv).0 q ]
        | inr k ↦ elim (k u v su sv x) [ inl q ↦ (without_two-ne P f g u iu).1 q | inr q ↦ (without_two-ne P f g v iv).1 q ]
      ] in
      let cl : IsClosedIn N (without_two P f g) Y = λ u v m l iv.
      let p = and_parts (side u) (without_two P f g u) m in
      elim (cases_Bool (side v)) [
        | inl sv ↦ and_from (side v) (without_two P f g v) sv iv
        | inr sv ↦ elim (crossing u v l p.0 sv (no c pc v iv) (no d pd v iv)) [
          | inl x ↦ absurd (hit c cc u v p.0 sv p.1 iv x)
          | inr x ↦ absurd (hit d cd u v p.0 sv p.1 iv x)
        ]
      ] in
      (and_parts (side t) (without_two P f g t) (firm f g s t is it Y cl (and_from (side s) (without_two P f g s) ms is))).0

  -- an end of the owner of e covers e
  covers-end : (e f : ℕ) → (f ≡ o1 e) ⊎ (f ≡ o2 e) → Covers B P o1 o2 side e f
  covers-end e f k u v su sv x = elim k [
    | inl q ↦ elim x.2 [ inl r ↦ inl (sym r.0 ∙ sym q) | inr r ↦ inr (sym r.0 ∙ sym q) ]
    | inr q ↦ elim x.2 [ inl r ↦ inr (sym r.1 ∙ sym q) | inr r ↦ inl (sym r.1 ∙ sym q) ]
  ]

  -- a stand-in for e, or e is owned by x y
  stand-in : (x y e : ℕ) → (e ≢ x) → (e ≢ y) →
      ((f : ℕ) × (f ≢ x) × (f ≢ y) × Covers B P o1 o2 side e f × (IsTrue (P e) → e ≡ f))
      ⊎ ((P e ≡ false) × ((o1 e ≡ x) ⊎ (o1 e ≡ y)) × ((o2 e ≡ x) ⊎ (o2 e ≡ y)))
  stand-in x y e ex ey = elim (cases_Bool (P e)) [
    | inl pe ↦ inl (e, ex, ey, (λ u v su sv k. absurd (both_ways (P e) k.1 pe)), (λ k. refl))
    | inr pn ↦
        let out : IsTrue (P e) → ⊥ = λ k. both_ways (P e) pn k in
        elim (cases_eq (o1 e) x) [
          | inl ax ↦ elim (cases_eq (o2 e) x) [
            | inl bx ↦ inr (pn, inl ax, inl bx)
            | inr nbx ↦ elim (cases_eq (o2 e) y) [
              | inl by ↦ inr (pn, inl ax, inr by)
              | inr nby ↦ inl (o2 e, nbx, nby, covers-end e (o2 e) (inr refl), (λ k. absurd (out k)))
            ]
          ]
          | inr nax ↦ elim (cases_eq (o1 e) y) [
            | inl ay ↦ elim (cases_eq (o2 e) x) [
              | inl bx ↦ inr (pn, inr ay, inl bx)
              | inr nbx ↦ elim (cases_eq (o2 e) y) [
                | inl by ↦ inr (pn, inr ay, inr by)
                | inr nby ↦ inl (o2 e, nbx, nby, covers-end e (o2 e) (inr refl), (λ k. absurd (out k)))
              ]
            ]
            | inr nay ↦ inl (o1 e, nax, nay, covers-end e (o1 e) (inl refl), (λ k. absurd (out k)))
          ]
        ]
  ]

  -- where e is owned by x y, both x and y hit all its crossing links
  straight : (x y e : ℕ) → ((o1 e ≡ x) ⊎ (o1 e ≡ y)) → ((o2 e ≡ x) ⊎ (o2 e ≡ y)) →
      (Covers B P o1 o2 side e x) × (Covers B P o1 o2 side e y)
  straight x y e p q =
      let ne : (u v : ℕ) → IsTrue (side u) → side v ≡ false → (u ≢ v) = λ u v su sv k. both_ways (side v) sv (subst (λ z. IsTrue (side z)) k su) in
      let of : (u v : ℕ) → Ends (o1 e) (o2 e) u v → ((u ≡ x) ⊎ (u ≡ y)) × ((v ≡ x) ⊎ (v ≡ y)) = λ u v k. elim k [
        | inl r ↦ (subst (λ z. (z ≡ x) ⊎ (z ≡ y)) r.0 p, subst (λ z. (z ≡ x) ⊎ (z ≡ y)) r.1 q)
        | inr r ↦ (subst (λ z. (z ≡ x) ⊎ (z ≡ y)) r.1 q, subst (λ z. (z ≡ x) ⊎ (z ≡ y)) r.0 p)
      ] in (
        (λ u v su sv k. let w = of u v k.2 in elim w.0 [
          | inl r ↦ inl r
          | inr r ↦ elim w.1 [ inl s ↦ inr s | inr s ↦ absurd (ne u v su sv (r ∙ sym s)) ]
        ]),
        (λ u v su sv k. let w = of u v k.2 in elim w.0 [
          | inr r ↦ inl r
          | inl r ↦ elim w.1 [ inr s ↦ inr s | inl s ↦ absurd (ne u v su sv (r ∙ sym s)) ]
        ]),
      )

  -- so no side parts x from y
  rigid-side : (x y : ℕ) → IsTrue (P x) → IsTrue (P y) → (c ≢ x) → (c ≢ y) → (d ≢ x) → (d ≢ y) → IsTrue (side x) → side y ≡ false → ⊥
  rigid-side x y px py cx cy dx dy sx sy =
      let xy : (x ≢ y) = λ k. both_ways (side y) sy (subst (λ z. IsTrue (side z)) k sx) in
      let done : IsTrue (side y) → ⊥ = λ m. both_ways (side y) sy m in
      elim (stand-in x y c cx cy) [
        | inl a ↦ elim (stand-in x y d dx dy) [
          | inl b ↦ done (over a.0 b.0 (inl a.3) (inr b.3) (λ k. inl (a.4 k)) (λ k. inr (b.4 k)) x y
              (without_two-from P a.0 b.0 x px (flip a.1) (flip b.1)) (without_two-from P a.0 b.0 y py (flip a.2) (flip b.2)) sx)
          | inr b ↦
              let st = straight x y d b.1 b.2 in
              let z = pick3 x y a.0 in
              elim (cases_Bool (side z.0)) [
                | inl sz ↦ done (over a.0 x (inl a.3) (inr st.0) (λ k. inl (a.4 k)) (λ k. absurd (both_ways (P d) b.0 k)) z.0 y
                    (without_two-from P a.0 x z.0 z.1 z.4 z.2) (without_two-from P a.0 x y py (flip a.2) (flip xy)) sz)
                | inr nz ↦ both_ways (side z.0) nz (over a.0 y (inl a.3) (inr st.1) (λ k. inl (a.4 k)) (λ k. absurd (both_ways (P d) b.0 k)) x z.0
                    (without_two-from P a.0 y x px (flip a.1) xy) (without_two-from P a.0 y z.0 z.1 z.4 z.3) sx)
              ]
        ]
        | inr a ↦
            let sc = straight x y c a.1 a.2 in
            elim (stand-in x y d dx dy) [
              | inl b ↦
                  let z = pick3 x y b.0 in
                  elim (cases_Bool (side z.0)) [
                    | inl sz ↦ done (over x b.0 (inl sc.0) (inr b.3) (λ k. absurd (both_ways (P c) a.0 k)) (λ k. inr (b.4 k)) z.0 y
                        (without_two-from P x b.0 z.0 z.1 z.2 z.4) (without_two-from P x b.0 y py (flip xy) (flip b.2)) sz)
                    | inr nz ↦ both_ways (side z.0) nz (over y b.0 (inl sc.1) (inr b.3) (λ k. absurd (both_ways (P c) a.0 k)) (λ k. inr (b.4 k)) x z.0
                        (without_two-from P y b.0 x px xy (flip b.1)) (without_two-from P y b.0 z.0 z.1 z.3 z.4) sx)
                  ]
              | inr b ↦
                  let st = straight x y d b.1 b.2 in
                  let z = pick3 x y x in
                  elim (cases_Bool (side z.0)) [
                    | inl sz ↦ done (over x x (inl sc.0) (inl st.0) (λ k. absurd (both_ways (P c) a.0 k)) (λ k. absurd (both_ways (P d) b.0 k)) z.0 y
                        (without_two-from P x x z.0 z.1 z.2 z.2) (without_two-from P x x y py (flip xy) (flip xy)) sz)
                    | inr nz ↦ both_ways (side z.0) nz (over y y (inl sc.1) (inl st.1) (λ k. absurd (both_ways (P c) a.0 k)) (λ k. absurd (both_ways (P d) b.0 k)) x z.0
                        (without_two-from P y y x px xy xy) (without_two-from P y y z.0 z.1 z.3 z.3) sx)
                  ]
            ]
      ]

-- no two other nodes part two nodes of a rigid piece in the block
pub rigid-unparted : (G N : Network) (B P : ℕ → Bool) (o1 o2 : ℕ → ℕ) → Owned G N B P o1 o2
    → ((a b c : ℕ) → (z : ℕ) × IsTrue (P z) × (z ≢ a) × (z ≢ b) × (z ≢ c))
    → ((c d : ℕ) → IsJoinedIn N (without_two P c d))
    → (x y c d : ℕ) → IsTrue (P x) → IsTrue (P y) → (c ≢ x) → (c ≢ y) → (d ≢ x) → (d ≢ y) → AreJoinedIn G (without_two B c d) x y
rigid-unparted G N B P o1 o2 own pick3 firm x y c d px py cx cy dx dy X h mx =
    let ix = without_two-from B c d x (own.inside x px) (λ e. cx (sym e)) (λ e. dx (sym e)) in
    let S : ℕ → Bool = λ v. X v && without_two B c d v in
    elim (cases_Bool (S y)) [
      | inl sy ↦ (and_parts (X y) (without_two B c d y) sy).0
      | inr ny ↦ absurd (rigid-side G N B P o1 o2 own pick3 firm c d X h x y px py cx cy dx dy (and_from (X x) (without_two B c d x) mx ix) ny)
    ]
