-- what ties two nodes in a piece ties them in a part
use Rattle.std.proofs.Common.{◌≡◌, ℕ, Bool, true, false, ◌&&◌, ◌||◌, ◌⊎◌, IsTrue, sym, subst, inl, inr}
use Rattle.std.proofs.lemmas.Bool.{cases_Bool, both_ways, and_parts, and_from, or_cases, or_left, or_right}
use Rattle.tomo_base.specs.Network.{Network, linked}
use Rattle.tomo_base.specs.Sets.{minus, Within}
use Rattle.tomo_base.proofs.Links.{linked_comm}
use Rattle.tomo_base.specs.Parting.{without_two, IsClosedIn, AreJoinedIn}
use Rattle.tomo_base.proofs.Parting.{without_two-in, without_two-to, minus-in, minus-out}

-- P' with the links of P inside it and the link between a and b; P goes on at a and b alone
pub record Part (N N' : Network) (P P' : ℕ → Bool) (a b : ℕ) : Type 0 where
  pub sub : Within P' P
  pub at_a : IsTrue (P' a)
  pub at_b : IsTrue (P' b)
  pub pair : linked N' a b ≡ true
  pub keep : (u v : ℕ) → IsTrue (P' u) → IsTrue (P' v) → linked N u v ≡ true → linked N' u v ≡ true
  pub gate : (u v : ℕ) → IsTrue (P' u) → IsTrue (P v) → P' v ≡ false → linked N u v ≡ true → (u ≡ a) ⊎ (u ≡ b)

module _
    (N N' : Network) (P P' : ℕ → Bool) (a b : ℕ) (part : Part N N' P P' a b)
    (c d : ℕ) (X : ℕ → Bool) (h : IsClosedIn N' (without_two P' c d) X) where
  -- X, cut down to what is left
  abbrev cut : (ℕ → Bool)
  cut v = X v && without_two P' c d v

  -- X holds a or b
  abbrev touched : Bool
  touched = cut a || cut b

  -- and then all of P outside the part
  abbrev wide : (ℕ → Bool)
  wide v = cut v || (minus P P' v && touched)

  -- the cut set is closed
  cut-closed : (u v : ℕ) → IsTrue (cut u) → linked N' u v ≡ true → IsTrue (without_two P' c d v) → IsTrue (cut v)
  cut-closed u v m l w = and_from (X v) (without_two P' c d v) (h u v ((and_parts (X u) (without_two P' c d u) m).0) l w) w

  -- and lies in the part
  cut-inside : (u : ℕ) → IsTrue (cut u) → IsTrue (P' u)
  cut-inside u m = without_two-in P' c d u (and_parts (X u) (without_two P' c d u) m).1

  -- a node of it that is a or b touches
  touch-by : (u : ℕ) → IsTrue (cut u) → (u ≡ a) ⊎ (u ≡ b) → touched ≡ true
  touch-by u m e = elim e [
    | inl q ↦ or_left (cut a) (cut b) (subst (λ z. IsTrue (cut z)) q m)
    | inr q ↦ or_right (cut a) (cut b) (subst (λ z. IsTrue (cut z)) q m)
  ]

  -- where it touches it holds what is left of a and b
  at-pair : (v : ℕ) → IsTrue (without_two P' c d v) → touched ≡ true → (v ≡ a) ⊎ (v ≡ b) → IsTrue (cut v)
  at-pair v w t e = elim (or_cases (cut a) (cut b) t) [
    | inl ca ↦ elim e [
      | inl q ↦ subst (λ z. IsTrue (cut z)) (sym q) ca
      | inr q ↦ cut-closed a v ca (subst (λ z. linked N' a z ≡ true) (sym q) part.pair) w
    ]
    | inr cb ↦ elim e [
      | inl q ↦ cut-closed b v cb (subst (λ z. linked N' b z ≡ true) (sym q) (linked_comm N' a b part.pair)) w
      | inr q ↦ subst (λ z. IsTrue (cut z)) (sym q) cb
    ]
  ]

  -- the wide set is closed in the piece
  wide-closed : IsClosedIn N (without_two P c d) wide
  wide-closed u v m l w =
      elim (cases_Bool (P' v)) [
        | inl iv ↦ or_left (cut v) (minus P P' v && touched)
            (elim (or_cases (cut u) (minus P P' u && touched) m) [
              | inl cu ↦ cut-closed u v cu (part.keep u v (cut-inside u cu) iv l) (without_two-to P' P c d v w iv)
              | inr o ↦
                  let p = and_parts (minus P P' u) touched o in
                  let q = minus-out P P' u p.0 in
                  at-pair v (without_two-to P' P c d v w iv) p.1 (part.gate v u iv q.0 q.1 (linked_comm N u v l))
            ])
        | inr ov ↦
            let pv = without_two-in P c d v w in
            or_right (cut v) (minus P P' v && touched)
            (and_from (minus P P' v) touched (minus-in P P' v pv ov)
            (elim (or_cases (cut u) (minus P P' u && touched) m) [
              | inl cu ↦ touch-by u cu (part.gate u v (cut-inside u cu) pv ov l)
              | inr o ↦ (and_parts (minus P P' u) touched o).1
            ]))
      ]

  -- and holds no more of the part
  wide-back : (y : ℕ) → IsTrue (P' y) → IsTrue (wide y) → IsTrue (X y)
  wide-back y iy m = elim (or_cases (cut y) (minus P P' y && touched) m) [
    | inl cy ↦ (and_parts (X y) (without_two P' c d y) cy).0
    | inr o ↦ absurd (both_ways (P' y) ((minus-out P P' y (and_parts (minus P P' y) touched o).0).1) iy)
  ]

-- joined in the piece, and so in the part
pub joined-part : (N N' : Network) (P P' : ℕ → Bool) (a b : ℕ) → Part N N' P P' a b → (c d x y : ℕ)
    → IsTrue (without_two P' c d x) → IsTrue (P' y) → AreJoinedIn N (without_two P c d) x y → AreJoinedIn N' (without_two P' c d) x y
joined-part N N' P P' a b part c d x y ix iy p X h mx =
    wide-back N N' P P' a b part c d X h y iy
    (p (wide N N' P P' a b part c d X h) (wide-closed N N' P P' a b part c d X h)
    (or_left (X x && without_two P' c d x) (minus P P' x && ((X a && without_two P' c d a) || (X b && without_two P' c d b))) (and_from (X x) (without_two P' c d x) mx ix)))
