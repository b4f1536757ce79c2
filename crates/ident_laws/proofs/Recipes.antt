-- The sum over a recipe is twice the number of its link, so paths with a recipe for each link identify every link.
use Rattle.std.proofs.Common.{◌≡◌, ℕ, zero, suc, ◌+◌, ◌*◌, ◌<◌, ◌==◌, false, List, [], ◌∷◌, ℤ, length, get_or, inl, inr, All, slice_get, Some, arith, refl, sym, ap, ap₂, ◌∙◌, ext_get_or, add-zero}
use Rattle.std.proofs.lemmas.Bool.{cases_Bool, ne_eqb}
use Rattle.std.proofs.lemmas.Bool.Decides.{nat_tests}
use Rattle.std.proofs.lemmas.List.Elements.{All-tail, All-contains}
use Rattle.tomo_base.specs.declared.graph.Link.{Link}
use Rattle.ident_laws.specs.Laws.{RecipesIdentify}
use Rattle.tomo_base.specs.Network.{joins}
use Rattle.tomo_base.specs.Sets.{one_if}
use Rattle.tomo_base.specs.Identify.{sum_over, sum_from, sum_along, delay_between}
use Rattle.tomo_base.specs.Recipes.{uses_of, weighted, gain_of, loss_of, gains, losses, IsRecipe}

-- the first link's part of a sum
from_head : (l : Link) (ls : List Link) (x : ℕ) (d : List ℕ) (a : ℕ) (p : List ℕ) → sum_from (delay_between (l ∷ ls) (x ∷ d)) a p ≡ x * sum_from (λ a b. one_if (joins l a b)) a p + sum_from (delay_between ls d) a p
unfolding sum_from delay_between
from_head l ls x d a [] = omega arith
from_head l ls x d a (b ∷ p) = let rest = from_head l ls x d b p in elim (cases_Bool (joins l a b))
    [ inl e ↦ rw e (omega (arith, rest)) | inr e ↦ rw e (omega (arith, rest)) ]

-- so along a path
sum_along-head : (l : Link) (ls : List Link) (x : ℕ) (d : List ℕ) (path : List ℕ) → sum_over (delay_between (l ∷ ls) (x ∷ d)) path ≡ x * uses_of l path + sum_over (delay_between ls d) path
unfolding uses_of
sum_along-head l ls x d [] = omega arith
sum_along-head l ls x d (a ∷ p) = from_head l ls x d a p

-- so in a weighted sum over paths
weighted-head : (w : ℤ → ℕ) (l : Link) (ls : List Link) (x : ℕ) (d : List ℕ) (terms : List (ℤ × List ℕ)) → weighted w (sum_over (delay_between (l ∷ ls) (x ∷ d))) terms ≡ x * weighted w (uses_of l) terms + weighted w (sum_over (delay_between ls d)) terms
unfolding weighted
weighted-head w l ls x d [] = omega arith
weighted-head w l ls x d (t ∷ ts) =
    let rest = weighted-head w l ls x d ts in
    rw (sum_along-head l ls x d t.1, rest) (regroup (w t.0) x (uses_of l t.1) (sum_over (delay_between ls d) t.1) (weighted w (uses_of l) ts) (weighted w (sum_over (delay_between ls d)) ts))
  where
    regroup : (c x u s v r : ℕ) → c * (x * u + s) + (x * v + r) ≡ x * (c * u + v) + (c * s + r)
    regroup c x u s v r = omega arith

-- without links every sum is 0
no_sum : (d : List ℕ) (path : List ℕ) → sum_over (delay_between [] d) path ≡ 0
unfolding delay_between sum_from
no_sum d [] = refl
no_sum d (a ∷ []) = refl
no_sum d (a ∷ b ∷ p) = omega (arith, no_sum d (b ∷ p))

-- and every weighted sum
weighted-nil : (w : ℤ → ℕ) (d : List ℕ) (terms : List (ℤ × List ℕ)) → weighted w (sum_over (delay_between [] d)) terms ≡ 0
unfolding weighted
weighted-nil w d [] = refl
weighted-nil w d (t ∷ ts) = rw (no_sum d t.1, weighted-nil w d ts) (omega arith)

-- terms in which gains and losses agree at each link
none_left : (links : List Link) (d : List ℕ) (terms : List (ℤ × List ℕ)) → length d ≡ length links → ((k : ℕ) (l : Link) → slice_get links k ≡ Some l → gains l terms ≡ losses l terms)
    → weighted gain_of (sum_over (delay_between links d)) terms ≡ weighted loss_of (sum_over (delay_between links d)) terms
none_left [] d terms len even = weighted-nil gain_of d terms ∙ sym (weighted-nil loss_of d terms)
none_left (l ∷ ls) [] terms len even = absurd (omega arith)
none_left (l ∷ ls) (x ∷ d) terms len even =
    let rest = none_left ls d terms (omega arith) (λ k m h. even (suc k) m h) in
    let here = even 0 l refl in
    weighted-head gain_of l ls x d terms ∙ (ap₂ (λ u v. x * u + v) here rest ∙ sym (weighted-head loss_of l ls x d terms))

-- a later link is not the first
later : (k : ℕ) → (suc k == 0) ≡ false
later k = ne_eqb (suc k) 0 (λ e. absurd (omega (arith, e)))

-- and the first is not a later one
first : (i : ℕ) → (0 == suc i) ≡ false
first i = ne_eqb 0 (suc i) (λ e. absurd (omega (arith, e)))

-- two later links are the same where their places are
after : (k i : ℕ) → (suc k == suc i) ≡ (k == i)
after k i = grind (arith, nat_tests)

-- the sum over a recipe of coefficient times sum along the path is twice the number of its link
pub recipe_sum : (links : List Link) (i : ℕ) (d : List ℕ) (terms : List (ℤ × List ℕ)) → length d ≡ length links → i < length links → IsRecipe links i terms
    → weighted gain_of (sum_over (delay_between links d)) terms ≡ weighted loss_of (sum_over (delay_between links d)) terms + 2 * get_or d i 0
recipe_sum [] i d terms len lt recipe = absurd (omega arith)
recipe_sum (l ∷ ls) i [] terms len lt recipe = absurd (omega arith)
recipe_sum (l ∷ ls) zero (x ∷ d) terms len lt recipe =
    let rest = none_left ls d terms (omega arith) (λ k m h. rw (later k) at (recipe (suc k) m h) ∙ add-zero (losses m terms)) in
    let here : gains l terms ≡ losses l terms + 2 = recipe 0 l refl in
    weighted-head gain_of l ls x d terms ∙ (ap₂ (λ u v. x * u + v) here rest ∙ (twice x (losses l terms) _ ∙ sym (ap (λ u. u + 2 * x) (weighted-head loss_of l ls x d terms))))
  where
    twice : (x u v : ℕ) → x * (u + 2) + v ≡ x * u + v + 2 * x
    twice x u v = omega arith
recipe_sum (l ∷ ls) (suc i) (x ∷ d) terms len lt recipe =
    let rest = recipe_sum ls i d terms (omega arith) (omega arith) (λ k m h. rw (after k i) at (recipe (suc k) m h)) in
    let here : gains l terms ≡ losses l terms = rw (first i) at (recipe 0 l refl) ∙ add-zero (losses l terms) in
    weighted-head gain_of l ls x d terms ∙ (ap₂ (λ u v. x * u + v) here rest ∙ (omega (arith, weighted-head loss_of l ls x d terms)))

-- paths with equal sums have equal weighted sums
pub same_weighted : (w : ℤ → ℕ) (f h : List ℕ → ℕ) (terms : List (ℤ × List ℕ)) → All (λ t. f t.1 ≡ h t.1) terms → weighted w f terms ≡ weighted w h terms
unfolding weighted
same_weighted w f h [] same = refl
same_weighted w f h (t ∷ ts) same = ap₂ ◌+◌ (ap (λ n. w t.0 * n) (same 0 t (omega arith))) (same_weighted w f h ts (All-tail (λ (t : ℤ × List ℕ). f t.1 ≡ h t.1) t ts same))

-- a list of paths over which each link has a recipe identifies every link
pub recipes_identify : RecipesIdentify
recipes_identify g paths recipes = λ d e da ea sums. ext_get_or 0 d e (da.one_each ∙ sym ea.one_each) (λ i l.
    let lt : i < length g.links = omega (arith, da.one_each) in
    let r = recipes i lt in
    let same : All (λ (t : ℤ × List ℕ). sum_along g d t.1 ≡ sum_along g e t.1) r.0 = λ k t b. All-contains (λ (p : List ℕ). sum_along g d p ≡ sum_along g e p) paths (get_or r.0 k t).1 sums (r.1 k t b) in
    let up = same_weighted gain_of (sum_along g d) (sum_along g e) r.0 same in
    let down = same_weighted loss_of (sum_along g d) (sum_along g e) r.0 same in
    let at_d = recipe_sum g.links i d r.0 da.one_each lt r.2 in
    let at_e = recipe_sum g.links i e r.0 ea.one_each lt r.2 in
    omega (arith, up, down, at_d, at_e))
