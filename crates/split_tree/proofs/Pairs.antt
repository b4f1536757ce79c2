-- Two different nodes of a set that no single node cuts are all that has to be tried to part it.
use Rattle.std.proofs.Common.{◌≡◌, ◌≢◌, ℕ, Bool, false, ◌⊎◌, IsTrue, subst, inl, inr}
use Rattle.std.proofs.lemmas.Bool.{cases_Bool, both_ways, cases_eq}
use Rattle.tomo_base.specs.Network.{Network}
use Rattle.tomo_base.specs.Sets.{without}
use Rattle.tomo_base.specs.Parting.{without_two, AreJoinedIn, IsJoinedIn, IsJoinedWithoutOne}
use Rattle.tomo_base.proofs.Parting.{without-from, without-parts, without_two-in, without_two-from, without_two-ne, flip, joined-more, joined-same, without-twice}
use Rattle.blocks.proofs.Unparted.{Unparted}

-- a number outside takes nothing away
pub firm-out : (N : Network) (P : ℕ → Bool) (c d : ℕ) → IsJoinedWithoutOne N P → (P c ≡ false) ⊎ (P d ≡ false) → IsJoinedIn N (without_two P c d)
firm-out N P c d firm e = elim e [
  | inl n ↦ joined-same N (without P d) (without_two P c d)
      (λ v i. let p = without-parts P d v i in without_two-from P c d v p.0 (λ k. both_ways (P c) n (subst (λ z. IsTrue (P z)) k p.0)) p.1)
      (λ v i. without-from P d v (without_two-in P c d v i) (without_two-ne P c d v i).1) (firm d)
  | inr n ↦ joined-same N (without P c) (without_two P c d)
      (λ v i. let p = without-parts P c v i in without_two-from P c d v p.0 p.1 (λ k. both_ways (P d) n (subst (λ z. IsTrue (P z)) k p.0)))
      (λ v i. without-from P c v (without_two-in P c d v i) (without_two-ne P c d v i).0) (firm c)
]

-- in a nonseparable set two different nodes of it are all that has to be tried
pub unparted-pairs : (N : Network) (B : ℕ → Bool) → IsJoinedWithoutOne N B → (x y : ℕ) → IsTrue (B x) → IsTrue (B y)
    → ((c d : ℕ) → IsTrue (B c) → IsTrue (B d) → (c ≢ d) → (c ≢ x) → (c ≢ y) → (d ≢ x) → (d ≢ y) → AreJoinedIn N (without_two B c d) x y) → Unparted N B x y
unparted-pairs N B firm x y bx by h c d cx cy dx dy =
    let ix = without_two-from B c d x bx (flip cx) (flip dx) in
    let iy = without_two-from B c d y by (flip cy) (flip dy) in
    elim (cases_Bool (B c)) [
      | inr n ↦ firm-out N B c d firm (inl n) x y ix iy
      | inl bc ↦ elim (cases_Bool (B d)) [
        | inr n ↦ firm-out N B c d firm (inr n) x y ix iy
        | inl bd ↦ elim (cases_eq c d) [
          | inr ne ↦ h c d bc bd ne cx cy dx dy
          | inl e ↦ subst (λ z. AreJoinedIn N (without_two B c z) x y) e (joined-more N (without B c) (without_two B c c) (without-twice B c) x y
              (firm c x y (without-from B c x bx (flip cx)) (without-from B c y by (flip cy))))
        ]
      ]
    ]
