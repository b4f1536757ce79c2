-- Tied plans, told by weights: the recipes along a path gain what they lose, and twice what the path weighs.
use Rattle.std.proofs.Common.{◌≡◌, ℕ, ◌+◌, ◌*◌, ◌<◌, ◌==◌, true, cond, if◌then◌else◌, List, [], ◌∷◌, ◌++◌, length, get_or, reverse, ℤ, pos, negsuc, ◌+ℤ◌, refl, sym, ap, ◌∙◌, inl, inr, arith, All, IsTrue}
use Rattle.std.proofs.lemmas.Bool.{cases_Bool, cases_eq, eq-eqb, eqb-true, ne_eqb, or_cases, false≢true, both_ways}
use Rattle.std.proofs.lemmas.Int.{ints}
use Rattle.std.proofs.lemmas.List.Elements.{All-append, All-cons}
use Rattle.tomo_base.specs.declared.graph.Link.{Link}
use Rattle.tomo_base.specs.Network.{Network, IsGraph, joins, any_joins, linked}
use Rattle.tomo_base.specs.Table.{JoinsAt}
use Rattle.tomo_base.specs.Sets.{one_if}
use Rattle.tomo_base.specs.Identify.{sum_from, sum_over}
use Rattle.tomo_base.specs.Recipes.{gain_of, loss_of}
use Rattle.tomo_base.proofs.Links.{joins_comm}
use Rattle.tomo_base.proofs.Places.{only_joins}
use Rattle.simple_path.specs.declared.recipe.Term.{Term}
use Rattle.simple_path.specs.Terms.{weighted_by}
use Rattle.plan_form.specs.Building.{sum_at, turned}
use Rattle.plan_form.specs.Tied.{place_between, recipe_between, terms_from, terms_along, AreTied}
use Rattle.plan_form.proofs.Merging.{merged_weight}
use Rattle.plan_form.proofs.Turning.{back, back_is, turned_keeps, sum_over-back}

-- ---- the number of the link between two nodes

-- the ends may be exchanged
pub place_comm : (ls : List Link) (a b : ℕ) → place_between ls a b ≡ place_between ls b a
unfolding place_between
place_comm [] a b = refl
place_comm (l ∷ ls) a b = rw (joins_comm l a b, place_comm ls a b) refl

-- where a link joins them, the one with that number does
pub place_joins : (ls : List Link) (a b : ℕ) → any_joins ls a b ≡ true → JoinsAt ls (place_between ls a b) a b
unfolding place_between any_joins
place_joins [] a b h = absurd (false≢true h)
place_joins (l ∷ ls) a b h = elim (cases_Bool (joins l a b)) [
  | inl e ↦ rw e (l, refl, e)
  | inr e ↦ (let k = place_joins ls a b (elim (or_cases (joins l a b) (any_joins ls a b) h) [ inl j ↦ absurd (both_ways (joins l a b) e j) | inr j ↦ j ]) in rw e (k.0, k.1, k.2))
]

-- in a graph, the number of the link between two nodes is that of the one link that joins them
pub place_is : (g : Network) (a b i : ℕ) → IsGraph g → JoinsAt g.links i a b → IsTrue (linked g a b) → place_between g.links a b ≡ i
place_is g a b i graph at joined =
    let k = place_joins g.links a b joined in
    eqb-true (place_between g.links a b) i (sym (only_joins g i a b graph at (place_between g.links a b) k.0 k.1) ∙ k.2)

-- so the recipe is that of the link
pub recipe_comm : (ls : List Link) (recipes : List (List Term)) (a b : ℕ) → recipe_between ls recipes a b ≡ recipe_between ls recipes b a
recipe_comm ls recipes a b = ap (λ k. get_or recipes k []) (place_comm ls a b)

-- ---- weights of terms along a path

-- terms one after the other
pub weighted_by-append : (w : ℤ → ℕ) (f : ℕ → ℕ) (xs ys : List Term) → weighted_by w f (xs ++ ys) ≡ weighted_by w f xs + weighted_by w f ys
unfolding weighted_by
weighted_by-append w f [] ys = omega arith
weighted_by-append w f (t ∷ ts) ys = omega (arith, weighted_by-append w f ts ys)

weighted_from : (w : ℤ → ℕ) (f : ℕ → ℕ) (r : ℕ → ℕ → List Term) (a : ℕ) (p : List ℕ) → weighted_by w f (terms_from r a p) ≡ sum_from (λ x y. weighted_by w f (r x y)) a p
unfolding terms_from sum_from weighted_by
weighted_from w f r a [] = refl
weighted_from w f r a (b ∷ p) = weighted_by-append w f (r a b) (terms_from r b p) ∙ ap (λ n. weighted_by w f (r a b) + n) (weighted_from w f r b p)

-- the terms along a path weigh what the recipes of its links weigh
pub weighted_along : (w : ℤ → ℕ) (f : ℕ → ℕ) (ls : List Link) (recipes : List (List Term)) (p : List ℕ) → weighted_by w f (terms_along ls recipes p) ≡ sum_over (λ x y. weighted_by w f (recipe_between ls recipes x y)) p
unfolding weighted_by
weighted_along w f ls recipes [] = refl
weighted_along w f ls recipes (a ∷ p) = weighted_from w f (recipe_between ls recipes) a p

-- what each recipe's terms have, those along a path have
within_from : (P : Term → Type 0) (r : ℕ → ℕ → List Term) → ((a b : ℕ) → All P (r a b)) → (a : ℕ) (p : List ℕ) → All P (terms_from r a p)
unfolding terms_from
within_from P r each a [] = λ k d l. absurd (omega (arith, l))
within_from P r each a (b ∷ p) = All-append P (r a b) (terms_from r b p) (each a b) (within_from P r each b p)

pub within_along : (P : Term → Type 0) (ls : List Link) (recipes : List (List Term)) → ((i : ℕ) → All P (get_or recipes i [])) → (p : List ℕ) → All P (terms_along ls recipes p)
within_along P ls recipes each [] = λ k d l. absurd (omega (arith, l))
within_along P ls recipes each (a ∷ p) = within_from P (recipe_between ls recipes) (λ x y. each (place_between ls x y)) a p

-- ---- tied, by weights

-- the recipes along a path gain what they lose and twice what the path weighs, whatever paths weigh
abbrev pub Balances : List Link → List (List Term) → List ℕ → ℕ → Type 0
Balances ls recipes p i = (f : ℕ → ℕ) → weighted_by gain_of f (terms_along ls recipes p) ≡ weighted_by loss_of f (terms_along ls recipes p) + 2 * f i

-- a sum of coefficients is what is gained less what is lost by the path alone
pub sum_alone : (ts : List Term) (k : ℕ) → sum_at ts k +ℤ pos (weighted_by loss_of (λ j. one_if (j == k)) ts) ≡ pos (weighted_by gain_of (λ j. one_if (j == k)) ts)
unfolding sum_at weighted_by
sum_alone [] k = refl
sum_alone (t ∷ ts) k = elim (cases_Bool (t.path == k))
    [ inl e ↦ rw e (omega (arith, ints, split t.coef, sum_alone ts k)) | inr e ↦ rw e (omega (arith, ints, sum_alone ts k)) ]
  where
    split : (z : ℤ) → z +ℤ pos (loss_of z) ≡ pos (gain_of z)
    split (pos n) = omega (arith, ints)
    split (negsuc n) = omega (arith, ints)

-- so balanced paths are tied
pub tied_from_balances : (ls : List Link) (paths : List (List ℕ)) (recipes : List (List Term)) → ((i : ℕ) → i < length paths → Balances ls recipes (get_or paths i []) i) → AreTied ls paths recipes
tied_from_balances ls paths recipes each i k l =
    let ts = terms_along ls recipes (get_or paths i []) in
    let f : ℕ → ℕ = λ j. one_if (j == k) in
    let is = sum_alone ts k in
    let balance : weighted_by gain_of f ts ≡ weighted_by loss_of f ts + 2 * one_if (i == k) = each i l f in
    elim (cases_eq k i) [
      | inl e ↦ rw (eq-eqb k i e) (omega (arith, ints, is, balance, ap one_if (eq-eqb i k (sym e))))
      | inr ne ↦ rw (ne_eqb k i ne) (omega (arith, ints, is, balance, ap one_if (ne_eqb i k (λ e. ne (sym e)))))
    ]

-- and tied paths are balanced, where the terms name paths below n
pub tied_balances : (n : ℕ) (ls : List Link) (paths : List (List ℕ)) (recipes : List (List Term)) → ((i : ℕ) → All (λ t. t.path < n) (get_or recipes i [])) → AreTied ls paths recipes → length paths ≡ n
    → (i : ℕ) → i < length paths → Balances ls recipes (get_or paths i []) i
unfolding weighted_by sum_at
tied_balances n ls paths recipes names tied size i l f =
    let ts = terms_along ls recipes (get_or paths i []) in
    let twice : List Term = record { coef = pos 2; path = i } ∷ [] in
    let below : i < n = omega (arith, l, size) in
    let same : (k : ℕ) → sum_at twice k ≡ sum_at ts k = λ k. one k ∙ sym (tied i k l) in
    let balance = merged_weight f n ts twice (within_along (λ t. t.path < n) ls recipes names (get_or paths i []))
    (All-cons (λ (t : Term). t.path < n) (record { coef = pos 2; path = i }) [] below (λ k d h. absurd (omega (arith, h)))) same in
    omega (arith, balance)
  where
    one : (k : ℕ) → cond (i == k) (pos 2) (pos 0) +ℤ pos 0 ≡ (if k == i then pos 2 else pos 0)
    one k = elim (cases_eq k i) [
      | inl e ↦ rw (eq-eqb k i e, eq-eqb i k (sym e)) refl
      | inr ne ↦ rw (ne_eqb k i ne, ne_eqb i k (λ e. ne (sym e))) refl
    ]

-- ---- turned paths

-- what the recipes along a path weigh does not depend on its direction
weighted_back : (w : ℤ → ℕ) (f : ℕ → ℕ) (ls : List Link) (recipes : List (List Term)) (p : List ℕ) → weighted_by w f (terms_along ls recipes (back p)) ≡ weighted_by w f (terms_along ls recipes p)
weighted_back w f ls recipes p =
    weighted_along w f ls recipes (back p)
    ∙ (sum_over-back (λ x y. weighted_by w f (recipe_between ls recipes x y)) (λ x y. ap (weighted_by w f) (recipe_comm ls recipes x y)) p ∙ sym (weighted_along w f ls recipes p))

-- so the reverse of a balanced path is balanced
pub balances_reverse : (ls : List Link) (recipes : List (List Term)) (p : List ℕ) (i : ℕ) → Balances ls recipes p i → Balances ls recipes (reverse p) i
balances_reverse ls recipes p i balances f =
    rw (← back_is p) (weighted_back gain_of f ls recipes p ∙ (balances f ∙ ap (λ n. n + 2 * f i) (sym (weighted_back loss_of f ls recipes p))))

-- and the path turned
pub balances_turned : (ls : List Link) (recipes : List (List Term)) (p : List ℕ) (i : ℕ) → Balances ls recipes p i → Balances ls recipes (turned p) i
balances_turned ls recipes p i balances f =
    turned_keeps (λ q. weighted_by gain_of f (terms_along ls recipes q)) (weighted_back gain_of f ls recipes) p
    ∙ (balances f ∙ ap (λ n. n + 2 * f i) (sym (turned_keeps (λ q. weighted_by loss_of f (terms_along ls recipes q)) (weighted_back loss_of f ls recipes) p)))

-- a path is balanced for one number alone
pub balances_one : (ls : List Link) (recipes : List (List Term)) (p : List ℕ) (i j : ℕ) → Balances ls recipes p i → Balances ls recipes p j → i ≡ j
balances_one ls recipes p i j for_i for_j = elim (cases_eq i j) [
  | inl e ↦ e
  | inr ne ↦
      let f : ℕ → ℕ = λ k. one_if (k == i) in
      let one : one_if (i == i) ≡ 1 = ap one_if (eq-eqb i i refl) in
      let none : one_if (j == i) ≡ 0 = ap one_if (ne_eqb j i (λ e. ne (sym e))) in
      absurd (omega (arith, for_i f, for_j f, one, none))
]
