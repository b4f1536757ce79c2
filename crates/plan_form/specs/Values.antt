-- Texts as spellings of values.
use Rattle.std.specs.Prelude.{ℕ, ◌≡◌, List, [], ◌∷◌, Option, Some, None, Bool, true, false, nat_eq, ℤ, pos, negsuc, cond, codes, bytes_eq}
use Rattle.std.specs.List.{slice_split}

-- the text is the spelling of the fitting value x, or of none
abbrev pub Spells : {A : Type 0} → (A → Type 0) → (A → List ℕ) → List ℕ → Option A → Type 0
Spells Fits spelling text (Some x) = Fits x × (text ≡ spelling x)
Spells {A} Fits spelling text None = (x : A) → Fits x → text ≡ spelling x → ⊥

-- the same, where the value stands elsewhere, and a test tells whether it is one
abbrev pub SpellsIn : {A : Type 0} → (A → Type 0) → (A → List ℕ) → List ℕ → A → Bool → Type 0
SpellsIn Fits spelling text x true = Spells Fits spelling text (Some x)
SpellsIn Fits spelling text x false = Spells Fits spelling text None

-- the coefficients, each with its spelling
abbrev pub coefficients : List (List ℕ × ℤ)
coefficients =
    (codes "1", pos 1) ∷ (codes "2", pos 2) ∷ (codes "3", pos 3) ∷ (codes "4", pos 4)
    ∷ (codes "-1", negsuc 0) ∷ (codes "-2", negsuc 1) ∷ (codes "-3", negsuc 2) ∷ (codes "-4", negsuc 3) ∷ []

-- the value that is listed with this spelling
abbrev pub listed : List ℕ → List (List ℕ × ℤ) → Option ℤ
listed text [] = None
listed text ((spelling, z) ∷ rest) = cond (bytes_eq text spelling) (Some z) (listed text rest)

-- the parts between the places where the byte stands
abbrev pub parts : ℕ → List ℕ → List (List ℕ)
parts byte text = slice_split (λ b. nat_eq b byte) text
