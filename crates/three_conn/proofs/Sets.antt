-- Numbers of a set beside those of a list.
use Rattle.std.proofs.Common.{◌≡◌, ◌≢◌, ℕ, ◌<◌, ◌≤◌, Bool, true, false, not, ◌&&◌, ◌==◌, List, [], ◌∷◌, length, sym, arith, inl, inr}
use Rattle.std.proofs.lemmas.Bool.{cases_Bool, both_ways, and_parts, and_from, or_left, not_from_false, not-true, eq-eqb}
use Rattle.tomo_base.specs.Sets.{count, has}
use Rattle.tomo_base.proofs.Counts.{find, count-mono}
use Rattle.tomo_base.proofs.Members.{count_has-le}

-- a set with more numbers than a list has one that does not stand there
pub one_beside : (n : ℕ) (w : ℕ → Bool) (xs : List ℕ) → length xs < count n w → (z : ℕ) × (z < n) × (w z ≡ true) × (has xs z ≡ false)
one_beside n w xs more = elim (find n (λ z. w z && not (has xs z))) [
  | inl r ↦ let parts = and_parts (w r.0) (not (has xs r.0)) r.2 in (r.0, r.1, parts.0, not-true (has xs r.0) parts.1)
  | inr none ↦
      let few : count n w ≤ count n (has xs) = count-mono n w (has xs) (λ v l t. elim (cases_Bool (has xs v)) [
        | inl h ↦ h
        | inr f ↦ absurd (both_ways (w v && not (has xs v)) (none v l) (and_from (w v) (not (has xs v)) t (not_from_false (has xs v) f)))
      ]) in
      absurd (omega (arith, few, more, count_has-le n xs))
]

-- a set of two numbers has one other than this
pub one_beside_one : (n : ℕ) (w : ℕ → Bool) (a : ℕ) → 2 ≤ count n w → (z : ℕ) × (z < n) × (w z ≡ true) × (z ≢ a)
unfolding has
one_beside_one n w a two =
    let r = one_beside n w (a ∷ []) (omega (arith, two)) in
    (r.0, r.1, r.2, λ same. both_ways (has (a ∷ []) r.0) r.3 (or_left (a == r.0) false (eq-eqb a r.0 (sym same))))
