-- Drawn numbers: how many there are, and that they are delays.
use Rattle.std.proofs.Common.{◌≡◌, ℕ, zero, suc, ◌+◌, ◌<◌, List, [], ◌∷◌, ◌++◌, length, refl, sym, ap, ◌∙◌, subst, arith, All}
use Rattle.std.proofs.lemmas.List.{length_push}
use Rattle.std.proofs.lemmas.List.Elements.{All-nil, All-push}
use Rattle.tomo_base.specs.Network.{Network}
use Rattle.tomo_base.specs.Identify.{IsAssignment}
use Rattle.drill.specs.Draws.{draw, state, draws, drawn_delay_limit}
use Rattle.drill.proofs.Growth.{draw_below}

-- one draw more
pub draws_more : (seed k i : ℕ) → draws seed k (i + 1) ≡ draws seed k i ++ draw k (state seed i) ∷ []
unfolding draws
draws_more seed k i =
    let next : suc i ≡ i + 1 = omega arith in
    subst (λ j. draws seed k j ≡ draws seed k i ++ draw k (state seed i) ∷ []) next refl

-- there are as many as were made
pub length-draws : (seed k i : ℕ) → length (draws seed k i) ≡ i
unfolding draws
length-draws seed k zero = refl
length-draws seed k (suc i) = length_push (draws seed k i) (draw k (state seed i)) ∙ omega (arith, length-draws seed k i)

-- and each is below k
pub draws_below : (seed k i : ℕ) → 0 < k → All (λ x. x < k) (draws seed k i)
unfolding draws
draws_below seed k zero some = All-nil (λ x. x < k)
draws_below seed k (suc i) some = All-push (λ x. x < k) (draws seed k i) (draw k (state seed i)) (draws_below seed k i some) (draw_below k (state seed i) some)

-- so a million as the bound gives each link a delay
pub drawn_assignment : (g : Network) (seed l : ℕ) (delays : List ℕ) → length g.links ≡ l → delays ≡ draws seed drawn_delay_limit l → IsAssignment g delays
drawn_assignment g seed l delays count is = record {
  one_each = ap (λ xs. length xs) is ∙ (length-draws seed drawn_delay_limit l ∙ sym count);
  in_range = rw is (λ i d lt. omega (arith, draws_below seed drawn_delay_limit l (omega arith) i d lt));
}
