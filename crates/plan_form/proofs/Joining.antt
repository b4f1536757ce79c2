-- Texts that are joined by a byte, one item more at a time.
use Rattle.std.proofs.Common.{◌≡◌, ◌∙◌, ℕ, zero, suc, ◌+◌, ◌<◌, ◌≤◌, List, [], ◌∷◌, ◌++◌, map, length, take, get_or, refl, sym, ap, arith, append_assoc, add-one}
use Rattle.std.specs.List.{join_with_byte}
use Rattle.std.proofs.lemmas.List.{take_more, map-append}

-- a text more at the end
join_push : (c : ℕ) (first : List ℕ) (rest : List (List ℕ)) (more : List ℕ) → join_with_byte c (first ∷ rest ++ more ∷ []) ≡ join_with_byte c (first ∷ rest) ++ c ∷ more
join_push c first [] more = refl
join_push c first (next ∷ rest) more = ap (λ t. first ++ (c ∷ t)) (join_push c next rest more) ∙ sym (append_assoc first (c ∷ join_with_byte c (next ∷ rest)) (c ∷ more))

-- each later item comes after the byte
join_later : {A : Type 0} (c : ℕ) (f : A → List ℕ) (xs : List A) (i : ℕ) (d : A) → 0 < i → i < length xs
    → join_with_byte c (map f (take (i + 1) xs)) ≡ join_with_byte c (map f (take i xs)) ++ c ∷ f (get_or xs i d)
join_later c f [] i d some l = absurd (omega (arith, l))
join_later c f (x ∷ xs) zero d some l = absurd (omega (arith, some))
join_later c f (x ∷ xs) (suc i) d some l =
    let rest : take (suc i) xs ≡ take i xs ++ get_or xs i d ∷ [] = rw add-one at (take_more xs i d (omega (arith, l))) in
    rw (add-one, rest, map-append f (take i xs) (get_or xs i d ∷ [])) (join_push c (f x) (map f (take i xs)) (f (get_or xs i d)))

-- the text after the first item
pub join_start : {A : Type 0} (c : ℕ) (f : A → List ℕ) (xs : List A) (i : ℕ) (d : A) → i ≤ 0 → i < length xs → join_with_byte c (map f (take i xs)) ++ f (get_or xs i d) ≡ join_with_byte c (map f (take (i + 1) xs))
join_start c f [] i d none l = absurd (omega (arith, l))
join_start c f (x ∷ xs) zero d none l = refl
join_start c f (x ∷ xs) (suc i) d none l = absurd (omega (arith, none))

-- the text after each later item
pub join_on : {A : Type 0} (c : ℕ) (f : A → List ℕ) (xs : List A) (i : ℕ) (d : A) → 0 < i → i < length xs → (join_with_byte c (map f (take i xs)) ++ c ∷ []) ++ f (get_or xs i d) ≡ join_with_byte c (map f (take (i + 1) xs))
join_on c f xs i d some l = append_assoc (join_with_byte c (map f (take i xs))) (c ∷ []) (f (get_or xs i d)) ∙ sym (join_later c f xs i d some l)
