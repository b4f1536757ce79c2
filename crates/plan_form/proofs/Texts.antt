-- The texts of numbers, coefficients and terms: the bytes that they lack, and that each is the text of one value.
use Rattle.std.proofs.Common.{inl, inr, ◌⊎◌, ◌≡◌, ℕ, zero, suc, ◌<◌, false, nat_eq, List, [], ◌∷◌, length, get_or, refl, sym, ap, ap₂, subst, ◌∙◌, arith, ℤ, pos, negsuc, Option, Some, None, rules, SFits, w8}
use Rattle.std.specs.Prelude.{bytes_eq}
use Rattle.std.specs.Fmt.{decimal, signed_decimal, digits}
use Rattle.std.specs.Int.{IsInRange}
use Rattle.std.specs.List.{join_with_byte}
use Rattle.std.specs.Str.Parse.{AllDigits}
use Rattle.std.proofs.lemmas.Bool.{cases_Bool}
use Rattle.std.proofs.lemmas.Bool.Decides.{nat_tests}
use Rattle.std.proofs.lemmas.Fmt.{decimal_is_IsNumeral, decimal_injective}
use Rattle.std.proofs.lemmas.List.{get_or_default}
use Rattle.std.proofs.lemmas.List.Elements.{All-cons, All-append}
use Rattle.std.proofs.lemmas.List.Splits.{join_with_byte-slice_split, slice_split_at, slice_split_none}
use Rattle.std.proofs.lemmas.Option.{none-some, same_Some}
use Rattle.std.proofs.lemmas.Slice.Eq.{bytes_eq-Decides}
use Rattle.std.proofs.lemmas.Str.Parse.{digit_at}
use Rattle.simple_path.specs.declared.recipe.Term.{Term}
use Rattle.plan_form.specs.Parts.{IsSmall, IsCoefficient, IsNodeList, IsTermList, IsTerm}
use Rattle.plan_form.specs.Spelling.{space, colon, numbers_text, term_text, terms_text}
use Rattle.plan_form.specs.Values.{Spells, coefficients, listed, parts}
use Rattle.plan_form.proofs.Joined.{Lacks, heads, joined_injective, tails}

-- a text of digits has no byte but digits
digits_lack : (byte : ℕ) (text : List ℕ) → (byte < 48) ⊎ (57 < byte) → AllDigits 10 text → Lacks byte text
digits_lack byte text out all k d l = outside byte (get_or text k d) out (subst (IsInRange 48 57) (get_or_default text k 0 d l) (digit_at text k all l))
  where
    outside : (byte b : ℕ) → (byte < 48) ⊎ (57 < byte) → IsInRange 48 57 b → nat_eq b byte ≡ false
    outside byte b out h = grind (arith, nat_tests)

-- so the text of a number has none
pub decimal_lacks : (byte n : ℕ) → (byte < 48) ⊎ (57 < byte) → IsSmall n → Lacks byte (decimal n)
decimal_lacks byte n out small = digits_lack byte (decimal n) out (decimal_is_IsNumeral n (omega (arith, small))).0.1

-- a signed number's text may have a minus sign besides
signed_lacks : (byte : ℕ) (z : ℤ) → (byte < 45) ⊎ (57 < byte) → IsCoefficient z → Lacks byte (signed_decimal z)
signed_lacks byte (pos n) out h = decimal_lacks byte n (narrow byte out) (omega (arith, h.1))
  where
    narrow : (byte : ℕ) → (byte < 45) ⊎ (57 < byte) → (byte < 48) ⊎ (57 < byte)
    narrow byte (inl l) = inl (omega (arith, l))
    narrow byte (inr l) = inr l
signed_lacks byte (negsuc n) out h = All-cons (λ b. nat_eq b byte ≡ false) 45 (decimal (suc n)) (minus byte out) (decimal_lacks byte (suc n) (narrow byte out) (omega (arith, h)))
  where
    minus : (byte : ℕ) → (byte < 45) ⊎ (57 < byte) → nat_eq 45 byte ≡ false
    minus byte out = grind (arith, nat_tests)

    narrow : (byte : ℕ) → (byte < 45) ⊎ (57 < byte) → (byte < 48) ⊎ (57 < byte)
    narrow byte (inl l) = inl (omega (arith, l))
    narrow byte (inr l) = inr l

-- different numbers have different texts
pub number_injective : (m n : ℕ) → IsSmall m → IsSmall n → decimal m ≡ decimal n → m ≡ n
number_injective m n hm hn e = decimal_injective m n (omega (arith, hm)) (omega (arith, hn)) e

-- each coefficient is listed with its text
listed_coefficient : (z : ℤ) → IsCoefficient z → listed (signed_decimal z) coefficients ≡ Some z
unfolding digits
listed_coefficient (pos zero) h = absurd (omega (arith, h.0))
listed_coefficient (pos (suc zero)) h = refl
listed_coefficient (pos (suc (suc zero))) h = refl
listed_coefficient (pos (suc (suc (suc zero)))) h = refl
listed_coefficient (pos (suc (suc (suc (suc zero))))) h = refl
listed_coefficient (pos (suc (suc (suc (suc (suc n)))))) h = absurd (omega (arith, h.1))
listed_coefficient (negsuc zero) h = refl
listed_coefficient (negsuc (suc zero)) h = refl
listed_coefficient (negsuc (suc (suc zero))) h = refl
listed_coefficient (negsuc (suc (suc (suc zero)))) h = refl
listed_coefficient (negsuc (suc (suc (suc (suc n))))) h = absurd (omega (arith, h))

-- so different coefficients have different texts
coefficient_injective : (y z : ℤ) → IsCoefficient y → IsCoefficient z → signed_decimal y ≡ signed_decimal z → y ≡ z
coefficient_injective y z hy hz e = same_Some y z (sym (listed_coefficient y hy) ∙ (ap (λ t. listed t coefficients) e ∙ listed_coefficient z hz))

-- a coefficient fits eight bits
pub coefficient_fits : (z : ℤ) → IsCoefficient z → SFits w8 z
coefficient_fits (pos n) h = search rules
coefficient_fits (negsuc n) h = search rules

-- each text of the list is that of its value
abbrev AreSpelled : List (List ℕ × ℤ) → Type 0
AreSpelled [] = Unit {0}
AreSpelled (e ∷ es) = IsCoefficient e.1 × (e.0 ≡ signed_decimal e.1) × AreSpelled es

-- what is found in such a list is spelled so
listed_spelled : (text : List ℕ) (z : ℤ) (es : List (List ℕ × ℤ)) → AreSpelled es → listed text es ≡ Some z → IsCoefficient z × (text ≡ signed_decimal z)
listed_spelled text z [] spelled e = absurd (none-some z e)
listed_spelled text z ((spelling, y) ∷ es) spelled e = elim (cases_Bool (bytes_eq text spelling)) [
  | inl b ↦
      let same : y ≡ z = same_Some y z (rw b at e) in
      (subst IsCoefficient same spelled.0, (bytes_eq-Decides text spelling).0 b ∙ (spelled.1 ∙ ap signed_decimal same))
  | inr b ↦ listed_spelled text z es spelled.2 (rw b at e)
]

-- the list of coefficients is such a list
are_spelled : AreSpelled coefficients
unfolding digits
are_spelled = search rules

-- what is found in the list is the coefficient that is spelled so, and else there is none
pub coefficient_spelled : (text : List ℕ) → Spells IsCoefficient signed_decimal text (listed text coefficients)
coefficient_spelled text = by_answer (listed text coefficients) refl
  where
    by_answer : (o : Option ℤ) → listed text coefficients ≡ o → Spells IsCoefficient signed_decimal text o
    by_answer (Some z) e = listed_spelled text z coefficients are_spelled e
    by_answer None e = λ z h same. none-some z (sym e ∙ (ap (λ t. listed t coefficients) same ∙ listed_coefficient z h))

-- a term's text has two parts
term_parts : (t : Term) → IsTerm t → parts colon (term_text t) ≡ signed_decimal t.coef ∷ decimal t.path ∷ []
term_parts t h =
    slice_split_at (λ b. nat_eq b colon) (signed_decimal t.coef) colon (decimal t.path) (signed_lacks colon t.coef (inr (omega arith)) h.0) refl
    ∙ ap (λ ps. signed_decimal t.coef ∷ ps) (slice_split_none (λ b. nat_eq b colon) (decimal t.path) (decimal_lacks colon t.path (inr (omega arith)) h.1))

-- the parts of a text that is that of a term
parts_same : (text : List ℕ) (first : List ℕ) (more : List (List ℕ)) (t : Term) → parts colon text ≡ first ∷ more → IsTerm t → text ≡ term_text t → first ∷ more ≡ signed_decimal t.coef ∷ decimal t.path ∷ []
parts_same text first more t cut h e = sym cut ∙ (ap (parts colon) e ∙ term_parts t h)

-- a text whose first part is no coefficient is no term
pub no_coefficient : (text first : List ℕ) (more : List (List ℕ)) → parts colon text ≡ first ∷ more → Spells IsCoefficient signed_decimal first None → Spells IsTerm term_text text None
no_coefficient text first more cut none t h e = none t.coef h.0 (heads (parts_same text first more t cut h e))

-- nor is one without a colon
pub no_colon : (text first : List ℕ) → parts colon text ≡ first ∷ [] → Spells IsTerm term_text text None
no_colon text first cut t h e = absurd (omega (arith, ap (length {A = List ℕ}) (parts_same text first [] t cut h e)))

-- nor one whose rest is no number
pub no_path : (text first rest : List ℕ) → parts colon text ≡ first ∷ parts colon rest → Spells IsSmall decimal rest None → Spells IsTerm term_text text None
no_path text first rest cut none t h e =
    none t.path h.1 (sym (join_with_byte-slice_split colon rest) ∙ ap (join_with_byte colon) (tails (parts_same text first (parts colon rest) t cut h e)))

-- a coefficient, a colon and a number are a term
pub term_spelled : (text first rest : List ℕ) (t : Term) → parts colon text ≡ first ∷ parts colon rest → Spells IsCoefficient signed_decimal first (Some t.coef) → Spells IsSmall decimal rest (Some t.path) → Spells IsTerm term_text text (Some t)
term_spelled text first rest t cut coef path =
    let is : IsTerm t = (coef.0, path.0) in
    let same : parts colon text ≡ parts colon (term_text t) = cut ∙ (ap₂ (λ p ps. p ∷ ps) coef.1 (ap (parts colon) path.1 ∙ slice_split_none (λ b. nat_eq b colon) (decimal t.path) (decimal_lacks colon t.path (inr (omega arith)) path.0)) ∙ sym (term_parts t is)) in
    (is, sym (join_with_byte-slice_split colon text) ∙ (ap (join_with_byte colon) same ∙ join_with_byte-slice_split colon (term_text t)))

-- different terms have different texts
pub term_injective : (t u : Term) → IsTerm t → IsTerm u → term_text t ≡ term_text u → t ≡ u
term_injective t u ht hu e =
    let both : signed_decimal t.coef ∷ decimal t.path ∷ [] ≡ signed_decimal u.coef ∷ decimal u.path ∷ [] = sym (term_parts t ht) ∙ (ap (parts colon) e ∙ term_parts u hu) in
    ap₂ (λ a b. record { coef = a; path = b }) (coefficient_injective t.coef u.coef ht.0 hu.0 (heads both)) (number_injective t.path u.path ht.1 hu.1 (heads (tails both)))

-- the text of a term has no space
pub term_lacks : (t : Term) → IsTerm t → Lacks space (term_text t)
term_lacks t h =
    All-append (λ b. nat_eq b space ≡ false) (signed_decimal t.coef) (colon ∷ decimal t.path) (signed_lacks space t.coef (inl (omega arith)) h.0)
    (All-cons (λ b. nat_eq b space ≡ false) colon (decimal t.path) refl (decimal_lacks space t.path (inl (omega arith)) h.1))

-- nor has the text of a node
pub node_lacks : (n : ℕ) → IsSmall n → Lacks space (decimal n)
node_lacks n small = decimal_lacks space n (inl (omega arith)) small

-- different lists of nodes have different texts
pub numbers_injective : (p q : List ℕ) → IsNodeList p → IsNodeList q → numbers_text p ≡ numbers_text q → p ≡ q
numbers_injective p q hp hq e = joined_injective space decimal IsSmall node_lacks number_injective p q hp.0 hq.0 hp.1 hq.1 e

-- so have different lists of terms
pub terms_injective : (p q : List Term) → IsTermList p → IsTermList q → terms_text p ≡ terms_text q → p ≡ q
terms_injective p q hp hq e = joined_injective space term_text IsTerm term_lacks term_injective p q hp.0 hq.0 hp.2 hq.2 e
