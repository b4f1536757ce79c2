-- What the loops keep.
use Rattle.std.proofs.Common.{◌≡◌, ℕ, ◌+◌, ◌*◌, ◌^◌, ◌<◌, ◌≤◌, List, [], length, get_or, set, drop, None, sym, ap, ◌∙◌, arith, inl, inr, ext_get_or}
use Rattle.std.proofs.lemmas.Bool.{cases_eq}
use Rattle.std.proofs.lemmas.List.{drop_more, drop_all, get_or-set_same, get_or-set_other, length-set, get_or-map, length-map, get_or_default}
use Rattle.tomo_base.specs.Recipes.{gain_of, loss_of}
use Rattle.simple_path.specs.declared.recipe.Term.{Term}
use Rattle.simple_path.specs.Terms.{weighted_by}
use Rattle.link_solver.specs.Verdict.{given, gain, loss, refusal, half_of, halves, AllHaveDelays}

-- after k terms: what is gained and lost, and that it is not much
pub record IsDoubledTo (sums : List ℕ) (terms : List Term) (k g l : ℕ) : Type 0 where
  pub gained : g + gain sums (drop k terms) ≡ gain sums terms
  pub lost : l + loss sums (drop k terms) ≡ loss sums terms
  pub small : (g ≤ k * 2 ^ 71) × (l ≤ k * 2 ^ 71)

-- one term more
pub doubled_more : (sums : List ℕ) (terms : List Term) (k g l g' l' : ℕ) (d : Term) → k < length terms
    → g' ≡ g + gain_of (get_or terms k d).coef * given sums (get_or terms k d).path → l' ≡ l + loss_of (get_or terms k d).coef * given sums (get_or terms k d).path
    → (g' ≤ g + 2 ^ 71) × (l' ≤ l + 2 ^ 71) → IsDoubledTo sums terms k g l → IsDoubledTo sums terms (k + 1) g' l'
unfolding weighted_by
doubled_more sums terms k g l g' l' d lt up down few to =
    let gains : gain sums (drop k terms) ≡ gain_of (get_or terms k d).coef * given sums (get_or terms k d).path + gain sums (drop (k + 1) terms) = ap (gain sums) (drop_more terms k d lt) in
    let losses : loss sums (drop k terms) ≡ loss_of (get_or terms k d).coef * given sums (get_or terms k d).path + loss sums (drop (k + 1) terms) = ap (loss sums) (drop_more terms k d lt) in
    record {
      gained = omega (arith, gains, up, to.gained);
      lost = omega (arith, losses, down, to.lost);
      small = omega (arith, few.0, few.1, to.small.0, to.small.1);
    }

-- after all terms nothing is left
pub doubled_all : (sums : List ℕ) (terms : List Term) (k g l : ℕ) → length terms ≤ k → IsDoubledTo sums terms k g l → (g ≡ gain sums terms) × (l ≡ loss sums terms)
unfolding weighted_by
doubled_all sums terms k g l le to =
    let no_gain : gain sums (drop k terms) ≡ 0 = ap (gain sums) (drop_all k terms le) in
    let no_loss : loss sums (drop k terms) ≡ 0 = ap (loss sums) (drop_all k terms le) in
    (omega (arith, no_gain, to.gained), omega (arith, no_loss, to.lost))

-- the first i links have delays, and these stand at their places
pub record AreFilledTo (sums : List ℕ) (recipes : List (List Term)) (n i : ℕ) (out : List ℕ) : Type 0 where
  pub same_length : length out ≡ n
  pub fine : (k : ℕ) → k < i → refusal sums (get_or recipes k []) ≡ None
  pub filled : (k : ℕ) → k < i → get_or out k 0 ≡ half_of sums (get_or recipes k [])

-- one link more
pub filled_more : (sums : List ℕ) (recipes : List (List Term)) (n i : ℕ) (out : List ℕ) (delay : ℕ) → i < n → refusal sums (get_or recipes i []) ≡ None → delay ≡ half_of sums (get_or recipes i [])
    → AreFilledTo sums recipes n i out → AreFilledTo sums recipes n (i + 1) (set out i delay)
filled_more sums recipes n i out delay lt fine is to = record {
  same_length = length-set out i delay ∙ to.same_length;
  fine = λ k l. elim (cases_eq k i) [ inl e ↦ rw e fine | inr ne ↦ to.fine k (omega (arith, l, ne)) ];
  filled = λ k l. elim (cases_eq k i) [
    | inl e ↦ rw e (get_or-set_same out i delay 0 (omega (arith, lt, to.same_length)) ∙ is)
    | inr ne ↦ get_or-set_other out i k delay 0 ne ∙ to.filled k (omega (arith, l, ne))
  ];
}

-- all links
pub filled_all : (sums : List ℕ) (recipes : List (List Term)) (i : ℕ) (out : List ℕ) → length recipes ≤ i → AreFilledTo sums recipes (length recipes) i out → AllHaveDelays sums recipes × (out ≡ halves sums recipes)
filled_all sums recipes i out le to = (
  (λ k d l. rw (get_or_default recipes k d [] l) (to.fine k (omega (arith, l, le)))),
  ext_get_or 0 out (halves sums recipes) (to.same_length ∙ sym (length-map recipes (half_of sums))) (λ k l.
      let below : k < length recipes = omega (arith, l, to.same_length) in
      to.filled k (omega (arith, below, le)) ∙ sym (get_or-map (half_of sums) recipes k [] 0 below)),
)
