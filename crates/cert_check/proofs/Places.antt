-- Lists that are looked through place by place.
use Rattle.std.proofs.Common.{refl, ◌≡◌, ◌≤◌, ◌<◌, ◌+◌, ◌-◌, ◌⊎◌, ◌∷◌, [], ℕ, zero, suc, Bool, true, false, not, min, List, length, get_or, slice_get, Option, Some, None, All, AllPairs, sym, ap, subst, ◌∙◌, inl, inr, arith}
use Rattle.std.specs.Option.{is_some, IfNone}
use Rattle.std.proofs.lemmas.Bool.{cases_eq, cases_lt, both_ways}
use Rattle.simple_path.specs.declared.recipe.Term.{Term}
use Rattle.std.proofs.lemmas.Option.{slice_get-get_or}
use Rattle.std.specs.List.Sorted.{IsStrictlyIncreasing}
use Rattle.cert_check.specs.Faults.{AgreeAt, AscendsAt, AllPlaces, IsChosenAt}

-- lists of one length that agree at each place are the same
pub same_items : {A : Type 0} (xs ys : List A) → length xs ≡ length ys → ((j : ℕ) → j < length xs → AgreeAt xs ys j) → xs ≡ ys
same_items [] [] long agree = refl
same_items [] (y ∷ ys) long agree = absurd (omega (arith, long))
same_items (x ∷ xs) [] long agree = absurd (omega (arith, long))
same_items (x ∷ xs) (y ∷ ys) long agree = both x y xs ys (one x y (agree 0 (omega arith))) (same_items xs ys (omega (arith, long)) (λ j l. agree (suc j) (omega (arith, l))))
  where
    one : {A : Type 0} (x y : A) → Some x ≡ Some y → x ≡ y
    one x y e = cc

    both : {A : Type 0} (x y : A) (xs ys : List A) → x ≡ y → xs ≡ ys → (x ∷ xs) ≡ (y ∷ ys)
    both x y xs ys e f = cc

-- a list that has ended differs from one that goes on
shorter_apart : {A : Type 0} (xs ys : List A) (k : ℕ) → length xs ≤ k → k < length ys → AgreeAt xs ys k → ⊥
shorter_apart xs [] k ended on agree = omega (arith, on)
shorter_apart [] (y ∷ ys) zero ended on agree = none y agree
  where
    none : {A : Type 0} (y : A) → None ≡ Some y → ⊥
    none y e = cc
shorter_apart [] (y ∷ ys) (suc k) ended on agree = shorter_apart [] ys k (omega arith) (omega (arith, on)) agree
shorter_apart (x ∷ xs) (y ∷ ys) zero ended on agree = omega (arith, ended)
shorter_apart (x ∷ xs) (y ∷ ys) (suc k) ended on agree = shorter_apart xs ys k (omega (arith, ended)) (omega (arith, on)) agree

-- so do lists of different lengths where the shorter ends
pub ends_apart : {A : Type 0} (xs ys : List A) (k : ℕ) → k ≡ min (length xs) (length ys) → (length xs ≡ length ys → ⊥) → AgreeAt xs ys k → ⊥
ends_apart xs ys k at other agree = elim (cases_lt (length xs) (length ys)) [
  | inl less ↦ shorter_apart xs ys k (omega (arith, at, less)) (omega (arith, at, less)) agree
  | inr more ↦ shorter_apart ys xs k (omega (arith, at, more)) (omega (arith, at, more, other)) (sym agree)
]

-- one place more
pub one_more : (P : ℕ → Type 0) (i : ℕ) → ((j : ℕ) → j < i → P j) → P i → (j : ℕ) → j < i + 1 → P j
one_more P i before here j l = elim (cases_eq j i) [ inl same ↦ subst P (sym same) here | inr other ↦ before j (omega (arith, l, other)) ]

-- the lists agree where both have the same item
pub agree_here : {A : Type 0} (xs ys : List A) (i : ℕ) (d x y : A) → i < length xs → x ≡ get_or xs i d → slice_get ys i ≡ Some y → (AgreeAt xs ys i → x ≡ y) × (x ≡ y → AgreeAt xs ys i)
agree_here xs ys i d x y l at there =
    let here : slice_get xs i ≡ Some x = rw at (slice_get-get_or xs i d l) in
    (λ agree. one x y (sym here ∙ (agree ∙ there)), λ same. here ∙ (ap Some same ∙ sym there))
  where
    one : {A : Type 0} (x y : A) → Some x ≡ Some y → x ≡ y
    one x y e = cc

-- the first i numbers ascend, and all are below the least that may stand next
pub record AscendTo (n : ℕ) (numbers : List ℕ) (i least : ℕ) : Type 0 where
  pub each : (j : ℕ) → j < i → AscendsAt n numbers j
  pub first : i ≡ 0 → least ≡ 0
  pub last : 0 < i → least ≡ get_or numbers (i - 1) 0 + 1
  pub few : i ≤ least
  pub within : least ≤ n

-- the first i terms name paths, ascending, all below the least that may stand next
pub record NamesTo (n : ℕ) (terms : List Term) (i least : ℕ) : Type 0 where
  pub each : (j : ℕ) (d : Term) → j < i → (get_or terms j d).path < least
  pub pairs : (j k : ℕ) (d : Term) → j < k → k < i → (get_or terms j d).path < (get_or terms k d).path
  pub first : i ≡ 0 → least ≡ 0
  pub last : (d : Term) → 0 < i → least ≡ (get_or terms (i - 1) d).path + 1
  pub within : least ≤ n

-- a number below the least, or not below n, does not ascend
pub not_ascending : (n : ℕ) (numbers : List ℕ) (i least : ℕ) → AscendTo n numbers i least → (get_or numbers i 0 < least) ⊎ ((least ≤ get_or numbers i 0) × (n ≤ get_or numbers i 0)) → AscendsAt n numbers i → ⊥
not_ascending n numbers i least to either at = elim either [
  | inl low ↦ elim (cases_eq i 0) [
    | inl start ↦ absurd (omega (arith, low, to.first start))
    | inr later ↦ let some : 0 < i = omega (arith, later) in absurd (omega (arith, low, to.last some, at.above some))
  ]
  | inr high ↦ absurd (omega (arith, high.1, at.below))
]

-- a number that does not ascend, or is not in the set as is asked, is not chosen
pub not_chosen : (n : ℕ) (set : ℕ → Bool) (inside : Bool) (numbers : List ℕ) (i least : ℕ) → AscendTo n numbers i least
    → ((get_or numbers i 0 < least) ⊎ ((least ≤ get_or numbers i 0) × (n ≤ get_or numbers i 0))) ⊎ (set (get_or numbers i 0) ≡ inside → ⊥) → IsChosenAt n set inside numbers i → ⊥
not_chosen n set inside numbers i least to (inl low) at = not_ascending n numbers i least to low at.ascends
not_chosen n set inside numbers i least to (inr other) at = other at.as_asked

-- nor do terms with such a number
pub no_names : (n : ℕ) (terms : List Term) (i least : ℕ) (d : Term) → i < length terms → NamesTo n terms i least → ((get_or terms i d).path < least) ⊎ ((least ≤ (get_or terms i d).path) × (n ≤ (get_or terms i d).path)) →
    All (λ t. t.path < n) terms → AllPairs (λ t u. t.path < u.path) terms → ⊥
no_names n terms i least d l to either below up = elim either [
  | inl low ↦ elim (cases_eq i 0) [
    | inl start ↦ absurd (omega (arith, low, to.first start))
    | inr later ↦ let some : 0 < i = omega (arith, later) in absurd (omega (arith, low, to.last d some, up (i - 1) i d (omega (arith, some)) l))
  ]
  | inr high ↦ absurd (omega (arith, high.1, below i d l))
]

-- numbers that ascend at each place are numbers below n, ascending
pub ascending_from : (n : ℕ) (numbers : List ℕ) → AllPlaces (length numbers) (AscendsAt n numbers) → All (λ v. v < n) numbers × IsStrictlyIncreasing numbers
ascending_from n numbers each = (
  λ k d l. subst (λ x. x < n) (default numbers k d l) (each k l).below,
  λ k l. let e : k + 1 - 1 ≡ k = omega arith in rw e at ((each (k + 1) l).above (omega arith)),
)
  where
    default : (xs : List ℕ) (k d : ℕ) → k < length xs → get_or xs k 0 ≡ get_or xs k d
    default [] k d l = absurd (omega (arith, l))
    default (x ∷ xs) zero d l = refl
    default (x ∷ xs) (suc k) d l = default xs k d (omega (arith, l))

-- and such numbers ascend at each place
pub ascending_at : (n : ℕ) (numbers : List ℕ) → All (λ v. v < n) numbers → IsStrictlyIncreasing numbers → AllPlaces (length numbers) (AscendsAt n numbers)
ascending_at n numbers below up i l = record {
  below = below i 0 l;
  above = λ some. let e : i - 1 + 1 ≡ i = omega (arith, some) in rw e at (up (i - 1) (omega (arith, e, l)));
}

-- a test that was turned
pub not_true : (b : Bool) → not b ≡ true → b ≡ false
not_true true e = absurd (both_ways false refl e)
not_true false e = refl

pub not_false : (b : Bool) → not b ≡ false → b ≡ true
not_false true e = refl
not_false false e = absurd (both_ways true e refl)

-- what holds where there is none
pub none_some : {A : Type 0} (o : Option A) (P : Type 0) → is_some o ≡ false → IfNone o P → P
none_some None P never holds = holds
none_some (Some x) P never holds = absurd (both_ways true never refl)

pub if_none : {A : Type 0} (o : Option A) (P : Type 0) → ((x : A) → o ≡ Some x → ⊥) → IfNone o P → P
if_none None P never holds = holds
if_none (Some x) P never holds = absurd (never x refl)
