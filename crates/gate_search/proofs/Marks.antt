-- What setting a mark, or taking it away, does to the set of marked nodes.
use Rattle.std.proofs.Common.{◌≡◌, ℕ, ◌<◌, Bool, true, false, ◌||◌, List, length, set, refl, sym, ap, ◌∙◌, inl, inr, get_or-set_same, get_or-set_other}
use Rattle.std.proofs.lemmas.Bool.{cases_eq, cases_lt, both_ways, or_right, eq-eqb, ne_eqb}
use Rattle.std.proofs.lemmas.List.{get_or_past}
use Rattle.tomo_base.specs.Sets.{count}
use Rattle.tomo_base.specs.Search.{mark_of}
use Rattle.tomo_base.specs.Parting.{with_one}
use Rattle.tomo_base.proofs.Counts.{count-less}

-- only places of the list have marks
pub mark_below : (xs : List Bool) (v : ℕ) → mark_of xs v ≡ true → v < length xs
mark_below xs v t = elim (cases_lt v (length xs)) [
  | inl l ↦ l
  | inr past ↦ absurd (both_ways (mark_of xs v) (get_or_past xs v false past) t)
]

-- the set of the marked nodes gets one more
pub mark_more : (xs : List Bool) (u v : ℕ) → u < length xs → mark_of (set xs u true) v ≡ with_one (mark_of xs) u v
mark_more xs u v l = elim (cases_eq v u) [
  | inl same ↦ rw (eq-eqb v u same) (ap (mark_of (set xs u true)) same ∙ (get_or-set_same xs u true false l ∙ sym (or_right (mark_of xs v) true refl)))
  | inr other ↦ rw (ne_eqb v u other) (get_or-set_other xs u v true false other ∙ last (mark_of xs v))
]
  where
    last : (b : Bool) → b ≡ (b || false)
    last true = refl
    last false = refl

-- marks that are gone stay away
pub still_gone : (xs : List Bool) (u v : ℕ) → u < length xs → mark_of xs v ≡ false → mark_of (set xs u false) v ≡ false
still_gone xs u v l out = elim (cases_eq v u) [
  | inl same ↦ ap (mark_of (set xs u false)) same ∙ get_or-set_same xs u false false l
  | inr other ↦ get_or-set_other xs u v false false other ∙ out
]

-- one mark fewer
pub fewer_marks : (n : ℕ) (xs : List Bool) (u : ℕ) → u < n → u < length xs → mark_of xs u ≡ true → count n (mark_of (set xs u false)) < count n (mark_of xs)
fewer_marks n xs u l k t = count-less n (mark_of (set xs u false)) (mark_of xs) u l (get_or-set_same xs u false false k) t (λ v m h. elim (cases_eq v u) [
  | inl same ↦ rw same t
  | inr other ↦ sym (get_or-set_other xs u v false false other) ∙ h
])
