-- The numbers below a bound that pass a test, found one after the other.
use Rattle.std.proofs.Common.{◌≡◌, ℕ, ◌+◌, ◌≤◌, Bool, true, false, ◌||◌, ◌&&◌, ◌==◌, nat_lt, [], lt-ltb, ne_eqb, refl, sym, ap, inl, inr, arith}
use Rattle.std.proofs.lemmas.Bool.{cases_lt, cases_eq, eq-eqb}
use Rattle.std.proofs.lemmas.Bool.Decides.{nat_tests}
use Rattle.tomo_base.specs.Sets.{has}

-- a number other than v is below v just where it is below the next
same_below : (v w : ℕ) → (v ≡ w → ⊥) → nat_lt w v ≡ nat_lt w (v + 1)
same_below v w ne = grind (arith, nat_tests)

-- a set with the first of the numbers from v on that pass
pub below-more : (found p : ℕ → Bool) (v w : ℕ) → found w ≡ (nat_lt w v && p w) → p v ≡ true → ((v == w) || found w) ≡ (nat_lt w (v + 1) && p w)
below-more found p v w before passes = rw before (elim (cases_eq v w) [
  | inl same ↦ rw (eq-eqb v w same, lt-ltb w (v + 1) (omega (arith, same)), ap p (sym same), passes) refl
  | inr ne ↦ rw (ne_eqb v w ne) (ap (λ b. b && p w) (same_below v w ne))
])

-- a set without the first of them, which does not pass
pub below-less : (found p : ℕ → Bool) (v w : ℕ) → found w ≡ (nat_lt w v && p w) → p v ≡ false → found w ≡ (nat_lt w (v + 1) && p w)
below-less found p v w before fails = rw before (elim (cases_eq v w) [
  | inl same ↦ rw (ap p (sym same), fails) (grind arith)
  | inr ne ↦ ap (λ b. b && p w) (same_below v w ne)
])

-- a set without nodes, and the numbers below 0
pub below-none : (p : ℕ → Bool) (w : ℕ) → has [] w ≡ (nat_lt w 0 && p w)
unfolding has
below-none p w = grind (arith, nat_tests)

-- a test that no number from n on passes is found whole below n
pub below-all : (p : ℕ → Bool) (n w : ℕ) → (n ≤ w → p w ≡ false) → (nat_lt w n && p w) ≡ p w
below-all p n w out = elim (cases_lt w n) [ inl lt ↦ rw (lt-ltb w n lt) refl | inr ge ↦ rw (out ge) (grind arith) ]
