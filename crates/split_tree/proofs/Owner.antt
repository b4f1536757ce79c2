-- owners pass from a piece to a part
use Rattle.std.proofs.Common.{◌≡◌, ◌≢◌, ℕ, Bool, true, false, cond, not, ◌&&◌, ◌||◌, ◌==◌, ◌⊎◌, IsTrue, refl, sym, ap, subst, ◌∙◌, inl, inr}
use Rattle.std.proofs.lemmas.Bool.{cases_Bool, both_ways, and_parts, and_from, and_left, and_right, not-true, eqb-true, eq-eqb, or_cases, or_left, or_right}
use Rattle.tomo_base.specs.Network.{Network, linked}
use Rattle.tomo_base.specs.Sets.{without, minus}
use Rattle.tomo_base.proofs.Links.{linked_comm}
use Rattle.tomo_base.specs.Parting.{IsClosedIn, AreJoinedIn, IsJoinedIn}
use Rattle.tomo_base.proofs.Parting.{without-from, without-parts, minus-in, minus-out, joined-more, joined-sym}
use Rattle.blocks.proofs.CutSets.{cond-on, cond-off}
use Rattle.split_tree.proofs.Part.{Part}
use Rattle.split_tree.proofs.Rigid.{Ends, ends, ends-true, zone, Owned}

-- two ends, as a test
pub ends-from : (p q u v : ℕ) → Ends p q u v → ends p q u v ≡ true
ends-from p q u v k = elim k [
  | inl r ↦ or_left ((p == u) && (q == v)) ((p == v) && (q == u)) (and_from (p == u) (q == v) (eq-eqb p u r.0) (eq-eqb q v r.1))
  | inr r ↦ or_right ((p == u) && (q == v)) ((p == v) && (q == u)) (and_from (p == v) (q == u) (eq-eqb p v r.0) (eq-eqb q u r.1))
]

-- a link has its first end
pub zone-left : (B P : ℕ → Bool) (o1 o2 : ℕ → ℕ) (p q : ℕ) → IsTrue (zone B P o1 o2 p q p)
zone-left B P o1 o2 p q = or_left (p == p) ((p == q) || (minus B P p && ends (o1 p) (o2 p) p q)) (eq-eqb p p refl)

-- and its second
pub zone-right : (B P : ℕ → Bool) (o1 o2 : ℕ → ℕ) (p q : ℕ) → IsTrue (zone B P o1 o2 p q q)
zone-right B P o1 o2 p q = or_right (q == p) ((q == q) || (minus B P q && ends (o1 q) (o2 q) p q)) (or_left (q == q) (minus B P q && ends (o1 q) (o2 q) p q) (eq-eqb q q refl))

-- and the nodes that it owns
pub zone-owned : (B P : ℕ → Bool) (o1 o2 : ℕ → ℕ) (p q w : ℕ) → IsTrue (B w) → P w ≡ false → Ends (o1 w) (o2 w) p q → IsTrue (zone B P o1 o2 p q w)
zone-owned B P o1 o2 p q w ib ip k =
    or_right (w == p) ((w == q) || (minus B P w && ends (o1 w) (o2 w) p q))
    (or_right (w == q) (minus B P w && ends (o1 w) (o2 w) p q)
    (and_from (minus B P w) (ends (o1 w) (o2 w) p q) (minus-in B P w ib ip) (ends-from (o1 w) (o2 w) p q k)))

-- and nothing else
pub zone-cases : (B P : ℕ → Bool) (o1 o2 : ℕ → ℕ) (p q w : ℕ) → IsTrue (zone B P o1 o2 p q w)
    → (w ≡ p) ⊎ ((w ≡ q) ⊎ ((IsTrue (B w)) × (P w ≡ false) × Ends (o1 w) (o2 w) p q))
zone-cases B P o1 o2 p q w m = elim (or_cases (w == p) ((w == q) || (minus B P w && ends (o1 w) (o2 w) p q)) m) [
  | inl x ↦ inl (eqb-true w p x)
  | inr y ↦ elim (or_cases (w == q) (minus B P w && ends (o1 w) (o2 w) p q) y) [
    | inl x ↦ inr (inl (eqb-true w q x))
    | inr z ↦ let s = and_parts (minus B P w) (ends (o1 w) (o2 w) p q) z in let t = minus-out B P w s.0 in
        inr (inr (t.0, t.1, ends-true (o1 w) (o2 w) p q s.1))
  ]
]

-- two ends in the other order
pub swap : (p q u v : ℕ) → Ends p q u v → Ends p q v u
swap p q u v k = elim k [ inl r ↦ inr r | inr r ↦ inl r ]

-- d is outside the piece and both its ends are in the part
abbrev pub stays : (ℕ → Bool) → (ℕ → Bool) → (ℕ → ℕ) → (ℕ → ℕ) → ℕ → Bool
stays P P' o1 o2 d = not (P d) && (P' (o1 d) && P' (o2 d))

module _ (G N N' : Network) (B P P' : ℕ → Bool) (o1 o2 : ℕ → ℕ) (a b : ℕ) (own : Owned G N B P o1 o2) (part : Part N N' P P' a b)
    (ab : (a ≢ b))
    (here' : (u v : ℕ) → linked N' u v ≡ true → (IsTrue (P' u)) × (IsTrue (P' v)))
    (old : (u v : ℕ) → linked N' u v ≡ true → (linked N u v ≡ true) ⊎ Ends u v a b)
    (two : (c : ℕ) → IsJoinedIn N (without P c))
    (l : ℕ) (lp : IsTrue (P l)) (ln : P' l ≡ false) where
  -- d keeps its owner
  abbrev k : ℕ → Bool
  k d = stays P P' o1 o2 d

  -- the first end of the new owner
  abbrev n1 : ℕ → ℕ
  n1 d = cond (k d) (o1 d) a

  -- the second
  abbrev n2 : ℕ → ℕ
  n2 d = cond (k d) (o2 d) b

  -- outside the piece with both ends in the part
  k-true : (d : ℕ) → P d ≡ false → IsTrue (P' (o1 d)) → IsTrue (P' (o2 d)) → k d ≡ true
  k-true d pn x y = and_from (not (P d)) (P' (o1 d) && P' (o2 d)) (ap not pn) (and_from (P' (o1 d)) (P' (o2 d)) x y)

  -- in the piece no owner is kept
  k-in : (d : ℕ) → IsTrue (P d) → k d ≡ false
  k-in d p = and_left (not (P d)) (P' (o1 d) && P' (o2 d)) (ap not p)

  -- nor where the first end leaves
  k-first : (d : ℕ) → P' (o1 d) ≡ false → k d ≡ false
  k-first d x = and_right (not (P d)) (P' (o1 d) && P' (o2 d)) (and_left (P' (o1 d)) (P' (o2 d)) x)

  -- nor where the second does
  k-second : (d : ℕ) → P' (o2 d) ≡ false → k d ≡ false
  k-second d x = and_right (not (P d)) (P' (o1 d) && P' (o2 d)) (and_right (P' (o1 d)) (P' (o2 d)) x)

  -- what a kept owner says
  k-parts : (d : ℕ) → k d ≡ true → (P d ≡ false) × IsTrue (P' (o1 d)) × IsTrue (P' (o2 d))
  k-parts d h = let x = and_parts (not (P d)) (P' (o1 d) && P' (o2 d)) h in
      let y = and_parts (P' (o1 d)) (P' (o2 d)) x.1 in (not-true (P d) x.0, y.0, y.1)

  -- two nodes without a kept owner are owned alike
  both-off : (d e : ℕ) → k d ≡ false → k e ≡ false → (n1 d ≡ n1 e) × (n2 d ≡ n2 e)
  both-off d e x y = (cond-off (o1 d) a x ∙ sym (cond-off (o1 e) a y), cond-off (o2 d) b x ∙ sym (cond-off (o2 e) b y))

  -- an outside node linked to a node of the piece that is not in the part gives its owner up
  k-near : (d e : ℕ) → IsTrue (B d) → P d ≡ false → IsTrue (P e) → P' e ≡ false → linked G d e ≡ true → k d ≡ false
  k-near d e bd pd pe ne g = elim (own.touch d e bd pd pe g) [
    | inl q ↦ k-first d (subst (λ z. P' z ≡ false) q ne)
    | inr q ↦ k-second d (subst (λ z. P' z ≡ false) q ne)
  ]

  -- linked nodes outside the part have one owner
  same' : (d e : ℕ) → IsTrue (B d) → P' d ≡ false → IsTrue (B e) → P' e ≡ false → linked G d e ≡ true → (n1 d ≡ n1 e) × (n2 d ≡ n2 e)
  same' d e bd nd be ne g = elim (cases_Bool (P d)) [
    | inl pd ↦ elim (cases_Bool (P e)) [
      | inl pe ↦ both-off d e (k-in d pd) (k-in e pe)
      | inr pe ↦ both-off d e (k-in d pd) (k-near e d be pe pd nd (linked_comm G d e g))
    ]
    | inr pd ↦ elim (cases_Bool (P e)) [
      | inl pe ↦ both-off d e (k-near d e bd pd pe ne g) (k-in e pe)
      | inr pe ↦
          let s = own.same d e bd pd be pe g in
          elim (cases_Bool (k d)) [
            | inl kd ↦
                let t = k-parts d kd in
                let ke = k-true e pe (subst (λ z. IsTrue (P' z)) s.0 t.1) (subst (λ z. IsTrue (P' z)) s.1 t.2) in
                (cond-on (o1 d) a kd ∙ (s.0 ∙ sym (cond-on (o1 e) a ke)), cond-on (o2 d) b kd ∙ (s.1 ∙ sym (cond-on (o2 e) b ke)))
            | inr kd ↦ both-off d e kd (elim (cases_Bool (k e)) [
              | inl ke ↦ let t = k-parts e ke in
                  absurd (both_ways (k d) kd (k-true d pd (subst (λ z. IsTrue (P' z)) (sym s.0) t.1) (subst (λ z. IsTrue (P' z)) (sym s.1) t.2)))
              | inr ke ↦ ke
            ])
          ]
    ]
  ]

  -- the new owner is a link of the part
  owner' : (d : ℕ) → IsTrue (B d) → P' d ≡ false → linked N' (n1 d) (n2 d) ≡ true
  owner' d bd nd = elim (cases_Bool (k d)) [
    | inl kd ↦ let t = k-parts d kd in
        subst (λ z. linked N' z (n2 d) ≡ true) (sym (cond-on (o1 d) a kd))
        (subst (λ z. linked N' (o1 d) z ≡ true) (sym (cond-on (o2 d) b kd)) (part.keep (o1 d) (o2 d) t.1 t.2 (own.owner d bd t.0)))
    | inr kd ↦ subst (λ z. linked N' z (n2 d) ≡ true) (sym (cond-off (o1 d) a kd))
        (subst (λ z. linked N' a z ≡ true) (sym (cond-off (o2 d) b kd)) part.pair)
  ]

  -- an end of the pair, as an end of the new owner
  at-off : (d x : ℕ) → k d ≡ false → (x ≡ a) ⊎ (x ≡ b) → (x ≡ n1 d) ⊎ (x ≡ n2 d)
  at-off d x kd e = elim e [ inl q ↦ inl (q ∙ sym (cond-off (o1 d) a kd)) | inr q ↦ inr (q ∙ sym (cond-off (o2 d) b kd)) ]

  -- a node outside is linked to the part at the ends of its owner alone
  touch' : (d x : ℕ) → IsTrue (B d) → P' d ≡ false → IsTrue (P' x) → linked G d x ≡ true → (x ≡ n1 d) ⊎ (x ≡ n2 d)
  touch' d x bd nd ix g = elim (cases_Bool (P d)) [
    | inl pd ↦ at-off d x (k-in d pd) (part.gate x d ix pd nd (linked_comm N d x (own.kept d x pd (part.sub x ix) g)))
    | inr pd ↦
        let li = own.owner d bd pd in
        elim (cases_Bool (k d)) [
          | inl kd ↦ elim (own.touch d x bd pd (part.sub x ix) g) [
            | inl q ↦ inl (q ∙ sym (cond-on (o1 d) a kd))
            | inr q ↦ inr (q ∙ sym (cond-on (o2 d) b kd))
          ]
          | inr kd ↦ at-off d x kd (elim (own.touch d x bd pd (part.sub x ix) g) [
            | inl q ↦ elim (cases_Bool (P' (o2 d))) [
              | inl i2 ↦ absurd (both_ways (k d) kd (k-true d pd (subst (λ z. IsTrue (P' z)) q ix) i2))
              | inr i2 ↦ part.gate x (o2 d) ix (own.here (o1 d) (o2 d) li).1 i2 (subst (λ z. linked N z (o2 d) ≡ true) (sym q) li)
            ]
            | inr q ↦ elim (cases_Bool (P' (o1 d))) [
              | inl i1 ↦ absurd (both_ways (k d) kd (k-true d pd i1 (subst (λ z. IsTrue (P' z)) q ix)))
              | inr i1 ↦ part.gate x (o1 d) ix (own.here (o1 d) (o2 d) li).0 i1 (subst (λ z. linked N z (o1 d) ≡ true) (sym q) (linked_comm N (o1 d) (o2 d) li))
            ]
          ])
        ]
  ]

  -- outside the piece is outside the part
  out-of-part : (w : ℕ) → P w ≡ false → P' w ≡ false
  out-of-part w pw = elim (cases_Bool (P' w)) [ inl i ↦ absurd (both_ways (P w) pw (part.sub w i)) | inr o ↦ o ]

  -- a link of the piece stands as before
  old-stand : (p q : ℕ) → IsTrue (P' p) → IsTrue (P' q) → linked N p q ≡ true → linked G p q ≡ false → AreJoinedIn G (zone B P' n1 n2 p q) p q
  old-stand p q ip iq nl gn = joined-more G (zone B P o1 o2 p q) (zone B P' n1 n2 p q) (λ w m. elim (zone-cases B P o1 o2 p q w m) [
    | inl e ↦ subst (λ z. IsTrue (zone B P' n1 n2 p q z)) (sym e) (zone-left B P' n1 n2 p q)
    | inr r ↦ elim r [
      | inl e ↦ subst (λ z. IsTrue (zone B P' n1 n2 p q z)) (sym e) (zone-right B P' n1 n2 p q)
      | inr t ↦
          let kw : k w ≡ true = elim t.2 [
            | inl s ↦ k-true w t.1 (subst (λ z. IsTrue (P' z)) (sym s.0) ip) (subst (λ z. IsTrue (P' z)) (sym s.1) iq)
            | inr s ↦ k-true w t.1 (subst (λ z. IsTrue (P' z)) (sym s.0) iq) (subst (λ z. IsTrue (P' z)) (sym s.1) ip)
          ] in
          zone-owned B P' n1 n2 p q w t.0 (out-of-part w t.1) (elim t.2 [
            | inl s ↦ inl (cond-on (o1 w) a kw ∙ s.0, cond-on (o2 w) b kw ∙ s.1)
            | inr s ↦ inr (cond-on (o1 w) a kw ∙ s.0, cond-on (o2 w) b kw ∙ s.1)
          ])
    ]
  ]) p q (own.stand p q nl gn)

  -- what stands for the link between a and b
  abbrev T : (ℕ → Bool)
  T v = zone B P' n1 n2 a b v

  -- the nodes of the piece outside the part
  abbrev L : (ℕ → Bool)
  L v = minus P P' v

  -- in L, or a or b
  abbrev Near : ℕ → Type 0
  Near v = IsTrue (L v) ⊎ ((v ≡ a) ⊎ (v ≡ b))

  -- a node without a kept owner stands for the new link
  off-in : (w : ℕ) → IsTrue (B w) → P' w ≡ false → k w ≡ false → IsTrue (T w)
  off-in w ib nw kw = zone-owned B P' n1 n2 a b w ib nw (inl (cond-off (o1 w) a kw, cond-off (o2 w) b kw))

  -- so do the nodes of L
  near-in : (v : ℕ) → Near v → IsTrue (T v)
  near-in v e = elim e [
    | inl m ↦ let t = minus-out P P' v m in off-in v (own.inside v t.0) t.1 (k-in v t.0)
    | inr r ↦ elim r [
      | inl q ↦ subst (λ z. IsTrue (T z)) (sym q) (zone-left B P' n1 n2 a b)
      | inr q ↦ subst (λ z. IsTrue (T z)) (sym q) (zone-right B P' n1 n2 a b)
    ]
  ]

  -- a closed set of these goes along links of the piece with an end in L
  claim : (X : ℕ → Bool) → IsClosedIn G T X → (u v : ℕ) → IsTrue (L u) ⊎ IsTrue (L v) → Near u → Near v → linked N u v ≡ true → IsTrue (X u) → IsTrue (X v)
  claim X h u v e nu nv nl m = elim (cases_Bool (linked G u v)) [
    | inl g ↦ h u v m g (near-in v nv)
    | inr g ↦ joined-more G (zone B P o1 o2 u v) T (λ w i. elim (zone-cases B P o1 o2 u v w i) [
      | inl q ↦ subst (λ z. IsTrue (T z)) (sym q) (near-in u nu)
      | inr r ↦ elim r [
        | inl q ↦ subst (λ z. IsTrue (T z)) (sym q) (near-in v nv)
        | inr t ↦ off-in w t.0 (out-of-part w t.1) (elim e [
          | inl lu ↦ let f = (minus-out P P' u lu).1 in elim t.2 [
            | inl s ↦ k-first w (subst (λ z. P' z ≡ false) (sym s.0) f)
            | inr s ↦ k-second w (subst (λ z. P' z ≡ false) (sym s.1) f)
          ]
          | inr lv ↦ let f = (minus-out P P' v lv).1 in elim t.2 [
            | inl s ↦ k-second w (subst (λ z. P' z ≡ false) (sym s.1) f)
            | inr s ↦ k-first w (subst (λ z. P' z ≡ false) (sym s.0) f)
          ]
        ])
      ]
    ]) u v (own.stand u v nl g) X h m
  ]

  -- no node of the part is in L
  not-part : (v : ℕ) → IsTrue (P' v) → IsTrue (L v) → ⊥
  not-part v i m = both_ways (P' v) (minus-out P P' v m).1 i

  -- no node of the rest is reached
  none : (X : ℕ → Bool) → IsClosedIn G T X → X b ≡ false → (v : ℕ) → IsTrue (L v) → X v ≡ false
  none X h nb v lv =
      let Y : ℕ → Bool = λ w. X w && L w in
      let cl : IsClosedIn N (without P a) Y = λ u w m nl iw.
      let p = and_parts (X u) (L u) m in
      let q = minus-out P P' u p.1 in
      let i = without-parts P a w iw in
      elim (cases_Bool (P' w)) [
        | inl pw ↦ elim (part.gate w u pw q.0 q.1 (linked_comm N u w nl)) [
          | inl e ↦ absurd (i.1 e)
          | inr e ↦ absurd (both_ways (X b) nb (subst (λ z. IsTrue (X z)) e (claim X h u w (inl p.1) (inl p.1) (inr (inr e)) nl p.0)))
        ]
        | inr pw ↦
            let lw = minus-in P P' w i.0 pw in
            and_from (X w) (L w) (claim X h u w (inl p.1) (inl p.1) (inl lw) nl p.0) lw
      ] in
      elim (cases_Bool (X v)) [
        | inl xv ↦ absurd (not-part b part.at_b (and_parts (X b) (L b)
            (two a v b (without-from P a v (minus-out P P' v lv).0 (λ e. not-part v (subst (λ z. IsTrue (P' z)) (sym e) part.at_a) lv))
            (without-from P a b (part.sub b part.at_b) (λ e. ab (sym e))) Y cl (and_from (X v) (L v) xv lv))).1)
        | inr xv ↦ xv
      ]

  -- the new link stands
  new-stand : AreJoinedIn G T a b
  new-stand X h xa = elim (cases_Bool (X b)) [
    | inl xb ↦ xb
    | inr nb ↦
        let cl : IsClosedIn N (without P b) L = λ u w m nl iw.
        let q = minus-out P P' u m in
        let i = without-parts P b w iw in
        elim (cases_Bool (P' w)) [
          | inl pw ↦ elim (part.gate w u pw q.0 q.1 (linked_comm N u w nl)) [
            | inl e ↦ absurd (both_ways (X u) (none X h nb u m)
                (claim X h a u (inr m) (inr (inl refl)) (inl m) (subst (λ z. linked N z u ≡ true) e (linked_comm N u w nl)) xa))
            | inr e ↦ absurd (i.1 e)
          ]
          | inr pw ↦ minus-in P P' w i.0 pw
        ] in
        let ll = minus-in P P' l lp ln in
        absurd (not-part a part.at_a
        (two b l a (without-from P b l lp (λ e. not-part l (subst (λ z. IsTrue (P' z)) (sym e) part.at_b) ll)) (without-from P b a (part.sub a part.at_a) ab) L cl ll))
  ]

  -- every link of the part stands
  stand' : (p q : ℕ) → linked N' p q ≡ true → linked G p q ≡ false → AreJoinedIn G (zone B P' n1 n2 p q) p q
  stand' p q nl gn = let i = here' p q nl in elim (old p q nl) [
    | inl o ↦ old-stand p q i.0 i.1 o gn
    | inr e ↦ elim e [
      | inl s ↦ subst (λ z. AreJoinedIn G (zone B P' n1 n2 z q) z q) (sym s.0) (subst (λ z. AreJoinedIn G (zone B P' n1 n2 a z) a z) (sym s.1) new-stand)
      | inr s ↦ subst (λ z. AreJoinedIn G (zone B P' n1 n2 z q) z q) (sym s.0) (subst (λ z. AreJoinedIn G (zone B P' n1 n2 b z) b z) (sym s.1)
          (joined-more G T (zone B P' n1 n2 b a) (λ w m. elim (zone-cases B P' n1 n2 a b w m) [
            | inl q ↦ subst (λ z. IsTrue (zone B P' n1 n2 b a z)) (sym q) (zone-right B P' n1 n2 b a)
            | inr r ↦ elim r [
              | inl q ↦ subst (λ z. IsTrue (zone B P' n1 n2 b a z)) (sym q) (zone-left B P' n1 n2 b a)
              | inr t ↦ zone-owned B P' n1 n2 b a w t.0 t.1 (swap (n1 w) (n2 w) a b t.2)
            ]
          ]) b a
          (joined-sym G T a b (zone-left B P' n1 n2 a b) (zone-right B P' n1 n2 a b) new-stand)))
    ]
  ]

  -- the owners of the part
  pub owned-part : Owned G N' B P' n1 n2
  owned-part = record {
    inside = λ v i. own.inside v (part.sub v i);
    kept = λ u v iu iv g. part.keep u v iu iv (own.kept u v (part.sub u iu) (part.sub v iv) g);
    here = here';
    owner = owner';
    same = same';
    touch = touch';
    stand = stand';
  }
