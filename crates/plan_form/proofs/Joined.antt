-- Items joined by a byte that none of them has: cutting at the byte gives the items back, one after the other.
use Rattle.std.proofs.Common.{◌≡◌, ℕ, ◌<◌, true, false, nat_eq, List, [], ◌∷◌, length, map, refl, sym, ap, ap₂, ◌∙◌, arith, All}
use Rattle.std.specs.List.{join_with_byte}
use Rattle.std.proofs.lemmas.List.Elements.{All-head, All-tail}
use Rattle.std.proofs.lemmas.List.Splits.{slice_split_none, slice_split_at}
use Rattle.std.proofs.lemmas.Bool.Decides.{nat_tests}
use Rattle.plan_form.specs.Values.{parts}

-- the byte does not stand in the text
abbrev pub Lacks : ℕ → List ℕ → Type 0
Lacks byte text = All (λ b. nat_eq b byte ≡ false) text

-- a byte is equal to itself
same_byte : (byte : ℕ) → nat_eq byte byte ≡ true
same_byte byte = grind (arith, nat_tests)

-- equal lists have equal first items
pub heads : {A : Type 0} {x y : A} {xs ys : List A} → x ∷ xs ≡ y ∷ ys → x ≡ y
heads e = cc

-- and equal rests
pub tails : {A : Type 0} {x y : A} {xs ys : List A} → x ∷ xs ≡ y ∷ ys → xs ≡ ys
tails e = cc

-- lists are equal where an injective spelling of their items gives equal lists
pub map_injective : {A B : Type 0} (f : A → B) (Fits : A → Type 0) → ((x y : A) → Fits x → Fits y → f x ≡ f y → x ≡ y) → (xs ys : List A) → All Fits xs → All Fits ys → map f xs ≡ map f ys → xs ≡ ys
map_injective f Fits inj [] [] hx hy e = refl
map_injective f Fits inj [] (y ∷ ys) hx hy e = absurd (omega (arith, ap (length {A = _}) e))
map_injective f Fits inj (x ∷ xs) [] hx hy e = absurd (omega (arith, ap (length {A = _}) e))
map_injective f Fits inj (x ∷ xs) (y ∷ ys) hx hy e =
    ap₂ (λ v vs. v ∷ vs) (inj x y (All-head Fits x xs hx) (All-head Fits y ys hy) (heads e)) (map_injective f Fits inj xs ys (All-tail Fits x xs hx) (All-tail Fits y ys hy) (tails e))

module _ {A : Type 0} (byte : ℕ) (f : A → List ℕ) (Fits : A → Type 0) (lack : (x : A) → Fits x → Lacks byte (f x)) where
  -- the items joined
  abbrev pub joined : List A → List ℕ
  joined xs = join_with_byte byte (map f xs)

  -- what was joined is cut into the items
  pub parts_joined : (xs : List A) → 0 < length xs → All Fits xs → parts byte (joined xs) ≡ map f xs
  parts_joined [] some fits = absurd (omega (arith, some))
  parts_joined (x ∷ []) some fits = slice_split_none (λ b. nat_eq b byte) (f x) (lack x (All-head Fits x [] fits))
  parts_joined (x ∷ y ∷ xs) some fits =
      slice_split_at (λ b. nat_eq b byte) (f x) byte (joined (y ∷ xs)) (lack x (All-head Fits x (y ∷ xs) fits)) (same_byte byte)
      ∙ ap (λ ps. f x ∷ ps) (parts_joined (y ∷ xs) (omega arith) (All-tail Fits x (y ∷ xs) fits))

  -- so equal texts are joined of equal items
  pub joined_injective : ((x y : A) → Fits x → Fits y → f x ≡ f y → x ≡ y) → (xs ys : List A) → 0 < length xs → 0 < length ys → All Fits xs → All Fits ys → joined xs ≡ joined ys → xs ≡ ys
  joined_injective inj xs ys sx sy hx hy e = map_injective f Fits inj xs ys hx hy (sym (parts_joined xs sx hx) ∙ (ap (parts byte) e ∙ parts_joined ys sy hy))
