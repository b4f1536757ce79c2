-- two parts of a piece are parted in the block by their pair
use Rattle.std.proofs.Common.{◌≡◌, ℕ, Bool, true, false, ◌&&◌, ◌||◌, ◌⊎◌, IsTrue, sym, subst, inl, inr}
use Rattle.std.proofs.lemmas.Bool.{cases_Bool, both_ways, and_parts, and_from, or_cases, or_left, or_right}
use Rattle.tomo_base.specs.Network.{Network, linked}
use Rattle.tomo_base.specs.Sets.{minus, Within}
use Rattle.tomo_base.proofs.Links.{linked_comm}
use Rattle.tomo_base.specs.Parting.{without_two, IsClosedIn, AreJoinedIn}
use Rattle.tomo_base.proofs.Parting.{without_two-in, without_two-to, minus-in, minus-out}
use Rattle.split_tree.proofs.Rigid.{Owned}

module _ (G N : Network) (B P : ℕ → Bool) (o1 o2 : ℕ → ℕ) (own : Owned G N B P o1 o2) (a b : ℕ)
    (K : ℕ → Bool) (kp : Within K P) (kc : IsClosedIn N (without_two P a b) K) where
  -- an end of the owner of v is in K
  abbrev owns : ℕ → Bool
  owns v = K (o1 v) || K (o2 v)

  -- K and the nodes owned from it
  abbrev reachK : (ℕ → Bool)
  reachK v = K v || (minus B P v && owns v)

  -- an end of such an owner that is left is in K
  from-owner : (d v : ℕ) → IsTrue (B d) → P d ≡ false → owns d ≡ true → IsTrue (without_two P a b v) → (v ≡ o1 d) ⊎ (v ≡ o2 d) → IsTrue (K v)
  from-owner d v bd pd od iv e =
      let l = own.owner d bd pd in
      elim (or_cases (K (o1 d)) (K (o2 d)) od) [
        | inl k1 ↦ elim e [
          | inl q ↦ subst (λ z. IsTrue (K z)) (sym q) k1
          | inr q ↦ kc (o1 d) v k1 (subst (λ z. linked N (o1 d) z ≡ true) (sym q) l) iv
        ]
        | inr k2 ↦ elim e [
          | inl q ↦ kc (o2 d) v k2 (subst (λ z. linked N (o2 d) z ≡ true) (sym q) (linked_comm N (o1 d) (o2 d) l)) iv
          | inr q ↦ subst (λ z. IsTrue (K z)) (sym q) k2
        ]
      ]

  -- this set is closed in the block
  reachK-closed : IsClosedIn G (without_two B a b) reachK
  reachK-closed u v m g iv =
      let bv = without_two-in B a b v iv in
      elim (cases_Bool (P v)) [
        | inl pv ↦
            let jv = without_two-to P B a b v iv pv in
            or_left (K v) (minus B P v && owns v) (elim (or_cases (K u) (minus B P u && owns u) m) [
              | inl ku ↦ kc u v ku (own.kept u v (kp u ku) pv g) jv
              | inr o ↦ let s = and_parts (minus B P u) (owns u) o in let t = minus-out B P u s.0 in
                  from-owner u v t.0 t.1 s.1 jv (own.touch u v t.0 t.1 pv g)
            ])
        | inr pv ↦ or_right (K v) (minus B P v && owns v) (and_from (minus B P v) (owns v) (minus-in B P v bv pv)
            (elim (or_cases (K u) (minus B P u && owns u) m) [
              | inl ku ↦ elim (own.touch v u bv pv (kp u ku) (linked_comm G u v g)) [
                | inl q ↦ or_left (K (o1 v)) (K (o2 v)) (subst (λ z. IsTrue (K z)) q ku)
                | inr q ↦ or_right (K (o1 v)) (K (o2 v)) (subst (λ z. IsTrue (K z)) q ku)
              ]
              | inr o ↦ let s = and_parts (minus B P u) (owns u) o in let t = minus-out B P u s.0 in
                  let e = own.same u v t.0 t.1 bv pv g in
                  elim (or_cases (K (o1 u)) (K (o2 u)) s.1) [
                    | inl k1 ↦ or_left (K (o1 v)) (K (o2 v)) (subst (λ z. IsTrue (K z)) e.0 k1)
                    | inr k2 ↦ or_right (K (o1 v)) (K (o2 v)) (subst (λ z. IsTrue (K z)) e.1 k2)
                  ]
            ]))
      ]

  -- a node of K and another node of the piece are parted by the pair
  pub parts-parted : (x y : ℕ) → IsTrue (K x) → IsTrue (P y) → K y ≡ false → AreJoinedIn G (without_two B a b) x y → ⊥
  parts-parted x y kx py ky t = elim (or_cases (K y) (minus B P y && owns y) (t reachK reachK-closed (or_left (K x) (minus B P x && owns x) kx))) [
    | inl k ↦ both_ways (K y) ky k
    | inr o ↦ both_ways (P y) ((minus-out B P y (and_parts (minus B P y) (owns y) o).0).1) py
  ]
