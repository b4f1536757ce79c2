-- Terms with equal sums of coefficients weigh the same, whatever the paths weigh.
use Rattle.std.proofs.Common.{◌≡◌, ℕ, zero, suc, ◌+◌, ◌*◌, ◌<◌, ◌≤◌, ◌==◌, cond, List, [], ◌∷◌, ℤ, pos, negsuc, ◌+ℤ◌, refl, sym, ap, ap₂, ◌∙◌, inl, inr, arith, All}
use Rattle.std.proofs.lemmas.Bool.{cases_Bool, cases_eq, cases_order, ne_eqb, eq-eqb}
use Rattle.std.proofs.lemmas.Int.{ints}
use Rattle.std.proofs.lemmas.List.Elements.{All-head, All-tail}
use Rattle.tomo_base.specs.Recipes.{gain_of, loss_of}
use Rattle.simple_path.specs.declared.recipe.Term.{Term}
use Rattle.simple_path.specs.Terms.{weighted_by}
use Rattle.plan_form.specs.Building.{sum_at}

-- the sum of h k over the numbers k below n
unfoldable sum_below : ℕ → (ℕ → ℕ) → ℕ
sum_below zero h = 0
sum_below (suc k) h = h k + sum_below k h

-- the weights of the terms of path k
unfoldable weight_at : (ℤ → ℕ) → List Term → ℕ → ℕ
weight_at w [] k = 0
weight_at w (t ∷ ts) k = cond (t.path == k) (w t.coef) 0 + weight_at w ts k

-- a sum of nothing
none_below : (f : ℕ → ℕ) (n : ℕ) → sum_below n (λ k. 0 * f k) ≡ 0
unfolding sum_below
none_below f zero = refl
none_below f (suc n) = omega (arith, none_below f n)

-- a number outside has no part in a sum, and one inside has one
past_below : (f h : ℕ → ℕ) (x j n : ℕ) → n ≤ j → sum_below n (λ k. (cond (j == k) x 0 + h k) * f k) ≡ sum_below n (λ k. h k * f k)
unfolding sum_below
past_below f h x j zero le = refl
past_below f h x j (suc n) le = rw (ne_eqb j n (λ e. absurd (omega (arith, e, le)))) (omega (arith, past_below f h x j n (omega (arith, le))))

-- a sum with more at one place
one_below : (f h : ℕ → ℕ) (x j n : ℕ) → j < n → sum_below n (λ k. (cond (j == k) x 0 + h k) * f k) ≡ x * f j + sum_below n (λ k. h k * f k)
unfolding sum_below
one_below f h x j zero lt = absurd (omega (arith, lt))
one_below f h x j (suc n) lt = elim (cases_eq j n) [
  | inl e ↦ rw (e, eq-eqb n n refl) (omega (arith, past_below f h x n n (omega arith)))
  | inr ne ↦ rw (ne_eqb j n ne) (omega (arith, one_below f h x j n (below j n lt ne)))
]
  where
    below : (j n : ℕ) → j < suc n → (j ≡ n → ⊥) → j < n
    below j n lt ne = elim (cases_order j n) [ inl e ↦ absurd (ne e) | inr rest ↦ elim rest [ inl l ↦ l | inr g ↦ absurd (omega (arith, g, lt)) ] ]

-- a weighted sum, path by path
spread : (w : ℤ → ℕ) (f : ℕ → ℕ) (n : ℕ) (ts : List Term) → All (λ t. t.path < n) ts → weighted_by w f ts ≡ sum_below n (λ k. weight_at w ts k * f k)
unfolding weighted_by weight_at
spread w f n [] all = sym (none_below f n)
spread w f n (t ∷ ts) all =
    let rest = spread w f n ts (All-tail (λ (t : Term). t.path < n) t ts all) in
    ap (λ r. w t.coef * f t.path + r) rest ∙ sym (one_below f (weight_at w ts) (w t.coef) t.path n (All-head (λ (t : Term). t.path < n) t ts all))

-- a sum of coefficients is what is gained less what is lost
gained : (z : ℤ) → z +ℤ pos (loss_of z) ≡ pos (gain_of z)
gained (pos n) = omega (arith, ints)
gained (negsuc n) = omega (arith, ints)

-- a sum of coefficients is what is gained less what is lost
sum_is : (ts : List Term) (k : ℕ) → sum_at ts k +ℤ pos (weight_at loss_of ts k) ≡ pos (weight_at gain_of ts k)
unfolding sum_at weight_at
sum_is [] k = refl
sum_is (t ∷ ts) k = elim (cases_Bool (t.path == k))
    [ inl e ↦ rw e (omega (arith, ints, gained t.coef, sum_is ts k)) | inr e ↦ rw e (omega (arith, ints, sum_is ts k)) ]

-- equal sums are balanced at each number
balanced_at : (old new : List Term) (k : ℕ) → sum_at new k ≡ sum_at old k → weight_at gain_of new k + weight_at loss_of old k ≡ weight_at loss_of new k + weight_at gain_of old k
balanced_at old new k e = omega (arith, ints, sum_is old k, sum_is new k, e)

-- so in a weighted sum over all numbers
balanced_below : (f a b c d : ℕ → ℕ) → ((k : ℕ) → a k + b k ≡ c k + d k) → (n : ℕ) → sum_below n (λ k. a k * f k) + sum_below n (λ k. b k * f k) ≡ sum_below n (λ k. c k * f k) + sum_below n (λ k. d k * f k)
unfolding sum_below
balanced_below f a b c d h zero = refl
balanced_below f a b c d h (suc n) = omega (arith, balanced_below f a b c d h n, times (a n) (b n) (c n) (d n) (f n) (h n))
  where
    times : (a b c d x : ℕ) → a + b ≡ c + d → a * x + b * x ≡ c * x + d * x
    times a b c d x e = let h : (a + b) * x ≡ (c + d) * x = ap (λ s. s * x) e in omega (arith, h)

-- terms with the same sums weigh the same
pub merged_weight : (f : ℕ → ℕ) (n : ℕ) (old new : List Term) → All (λ t. t.path < n) old → All (λ t. t.path < n) new → ((k : ℕ) → sum_at new k ≡ sum_at old k)
    → weighted_by gain_of f new + weighted_by loss_of f old ≡ weighted_by loss_of f new + weighted_by gain_of f old
merged_weight f n old new in_old in_new same =
    ap₂ ◌+◌ (spread gain_of f n new in_new) (spread loss_of f n old in_old)
    ∙ (balanced_below f (weight_at gain_of new) (weight_at loss_of old) (weight_at loss_of new) (weight_at gain_of old) (λ k. balanced_at old new k (same k)) n
    ∙ sym (ap₂ ◌+◌ (spread loss_of f n new in_new) (spread gain_of f n old in_old)))
