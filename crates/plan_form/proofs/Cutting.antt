-- A text is cut where a byte stands first.
use Rattle.std.proofs.Common.{◌≡◌, ℕ, ◌+◌, ◌-◌, ◌≤◌, Bool, cond, nat_lt, List, [], ◌∷◌, sym, length, take, drop, Some, None, refl, ◌∙◌, inl, inr, arith, length-drop, nat_eq, IfNone, IfSome, Bor, Option}
use Rattle.std.specs.List.{slice_split, position_or_len}
use Rattle.std.proofs.lemmas.Bool.{cases_Bool, cases_lt, lt-ltb, le-ltb}
use Rattle.std.proofs.lemmas.List.{take_all}
use Rattle.std.proofs.lemmas.Option.{none-some, same_Some}
use Rattle.std.proofs.lemmas.List.Splits.{slice_split_first, slice_split-cons_no}
use Rattle.plan_form.specs.Values.{parts}

-- where no item passes, the list is the one part
unsplit : {A : Type 0} (p : A → Bool) (xs : List A) → length xs ≤ position_or_len p xs → slice_split p xs ≡ xs ∷ []
unsplit p [] h = refl
unsplit p (x ∷ xs) h = elim (cases_Bool (p x)) [
  | inl e ↦ absurd (omega (arith, rw e at h))
  | inr e ↦ slice_split-cons_no p x xs e ∙ rw (unsplit p xs (omega (arith, rw e at h)))
]

-- where the byte was not found
pub uncut : (byte : ℕ) (text : List ℕ) → None ≡ cond (nat_lt (position_or_len (λ b. nat_eq b byte) text) (length text)) (Some (position_or_len (λ b. nat_eq b byte) text)) None → parts byte text ≡ text ∷ []
uncut byte text h = elim (cases_lt (position_or_len (λ b. nat_eq b byte) text) (length text)) [
  | inl l ↦ absurd (none-some _ (rw (lt-ltb _ _ l) at h))
  | inr l ↦ unsplit (λ b. nat_eq b byte) text l
]

-- where it was found
pub cut_at : (byte : ℕ) (text : List ℕ) (i : ℕ) → Some i ≡ cond (nat_lt (position_or_len (λ b. nat_eq b byte) text) (length text)) (Some (position_or_len (λ b. nat_eq b byte) text)) None
    → parts byte text ≡ take i text ∷ parts byte (take (length text - (i + 1)) (drop (i + 1) text))
cut_at byte text i h = elim (cases_lt (position_or_len (λ b. nat_eq b byte) text) (length text)) [
  | inl l ↦
      let found : i ≡ position_or_len (λ b. nat_eq b byte) text = same_Some _ _ (rw (lt-ltb _ _ l) at h) in
      let rest : take (length text - (i + 1)) (drop (i + 1) text) ≡ drop (i + 1) text = take_all (length text - (i + 1)) (drop (i + 1) text) (omega (arith, length-drop (i + 1) text)) in
      rw (rest, found) (slice_split_first (λ b. nat_eq b byte) text 0 l)
  | inr l ↦ absurd (none-some i (sym (rw (le-ltb _ _ l) at h)))
]

-- however a text is cut, it has a first part
pub first_part : (byte : ℕ) (text first : List ℕ) (rest : Option (Bor (List ℕ))) → IfNone rest (parts byte text ≡ first ∷ []) → IfSome rest (λ r. parts byte text ≡ first ∷ parts byte r.now) → (more : List (List ℕ)) × (parts byte text ≡ first ∷ more)
first_part byte text first None last more = ([], last)
first_part byte text first (Some r) last more = (parts byte r.now, more)
