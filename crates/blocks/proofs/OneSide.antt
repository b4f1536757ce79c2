-- the two sides of a cut vertex: each is connected with it, and a set that it does not cut lies on one
use Rattle.std.proofs.Common.{◌≢◌, ℕ, Bool, ◌&&◌, ◌||◌, ◌==◌, IsTrue, refl, sym, subst, inl, inr}
use Rattle.std.proofs.lemmas.Bool.{cases_Bool, both_ways, and_parts, and_from, eqb-true, eq-eqb, or_cases, or_left, or_right}
use Rattle.tomo_base.specs.Network.{Network}
use Rattle.tomo_base.specs.Sets.{without, minus, Within}
use Rattle.tomo_base.proofs.Links.{linked_comm}
use Rattle.tomo_base.specs.Parting.{with_one, IsClosedIn, AreJoinedIn, IsJoinedIn}
use Rattle.tomo_base.proofs.Parting.{without-from, without-parts, minus-in, minus-out}

-- one side of a cut vertex, with the cut vertex, is connected
pub side-firm : (N : Network) (S K : ℕ → Bool) (w : ℕ) → IsJoinedIn N S → IsTrue (S w) → Within K (without S w) → IsClosedIn N (without S w) K
    → (v : ℕ) → IsTrue (with_one K w v) → AreJoinedIn N (with_one K w) w v
side-firm N S K w firm sw ks kc v iv X h xw =
    let sub : Within (with_one K w) S = λ z m. elim (or_cases (K z) (z == w) m) [
      | inl k ↦ (without-parts S w z (ks z k)).0
      | inr e ↦ subst (λ y. IsTrue (S y)) (sym (eqb-true z w e)) sw
    ] in
    let Y : ℕ → Bool = λ z. (X z && with_one K w z) || minus S (with_one K w) z in
    let cl : IsClosedIn N S Y = λ u z m l sz. elim (cases_Bool (with_one K w z)) [
      | inl iz ↦ or_left (X z && with_one K w z) (minus S (with_one K w) z) (and_from (X z) (with_one K w z)
          (elim (or_cases (X u && with_one K w u) (minus S (with_one K w) u) m) [
            | inl xu ↦ h u z (and_parts (X u) (with_one K w u) xu).0 l iz
            | inr mu ↦
                let o = minus-out S (with_one K w) u mu in
                elim (or_cases (K z) (z == w) iz) [
                  | inl kz ↦ absurd (both_ways (with_one K w u) o.1 (or_left (K u) (u == w) (kc z u kz (linked_comm N u z l)
                      (without-from S w u o.0 (λ e. both_ways (with_one K w u) o.1 (or_right (K u) (u == w) (eq-eqb u w e)))))))
                  | inr e ↦ subst (λ y. IsTrue (X y)) (sym (eqb-true z w e)) xw
                ]
          ]) iz)
      | inr oz ↦ or_right (X z && with_one K w z) (minus S (with_one K w) z) (minus-in S (with_one K w) z sz oz)
    ] in
    let iw : IsTrue (with_one K w w) = or_right (K w) (w == w) (eq-eqb w w refl) in
    elim (or_cases (X v && with_one K w v) (minus S (with_one K w) v)
    (firm w v sw (sub v iv) Y cl (or_left (X w && with_one K w w) (minus S (with_one K w) w) (and_from (X w) (with_one K w w) xw iw)))) [
      | inl x ↦ (and_parts (X v) (with_one K w v) x).0
      | inr o ↦ absurd (both_ways (with_one K w v) (minus-out S (with_one K w) v o).1 iv)
    ]

-- a set that stays connected without w lies on one side
pub one-side : (N : Network) (S T K : ℕ → Bool) (w : ℕ) → IsJoinedIn N (without T w) → Within T S → IsClosedIn N (without S w) K
    → (k q : ℕ) → IsTrue (T k) → IsTrue (K k) → (k ≢ w) → IsTrue (T q) → (q ≢ w) → IsTrue (K q)
one-side N S T K w firm ts kc k q tk kk kw tq qw =
    firm k q (without-from T w k tk kw) (without-from T w q tq qw) K
    (λ u v m l iv. let i = without-parts T w v iv in kc u v m l (without-from S w v (ts v i.0) i.1)) kk
