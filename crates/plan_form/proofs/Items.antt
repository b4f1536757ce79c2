-- A text read item after item, up to the byte that joins them.
use Rattle.std.proofs.Common.{◌≡◌, ℕ, ◌<◌, List, [], ◌∷◌, ◌++◌, length, map, refl, sym, ap, ◌∙◌, arith, All, Some, None, append_assoc, length-append}
use Rattle.std.specs.List.{join_with_byte}
use Rattle.std.proofs.lemmas.List.{map-append}
use Rattle.std.proofs.lemmas.List.Elements.{All-head, All-tail, All-push}
use Rattle.std.proofs.lemmas.List.Splits.{join_with_byte-slice_split}
use Rattle.plan_form.specs.Values.{Spells, parts}
use Rattle.plan_form.proofs.Joined.{Lacks, heads, parts_joined, tails}

-- an item of ys stands where the items xs end, and is spelled by the part there
pub record IsAfter {A : Type 0} (f : A → List ℕ) (Fits : A → Type 0) (xs ys : List A) (part : List ℕ) : Type 0 where
  pub item : A
  pub fits : Fits item
  pub is : part ≡ f item
  pub longer : length xs < length ys

-- such an item there is, where the texts of ys are those of xs, the part and more
after : {A : Type 0} (f : A → List ℕ) (Fits : A → Type 0) (xs ys : List A) (part : List ℕ) (more : List (List ℕ)) → All Fits ys → map f ys ≡ map f xs ++ part ∷ more → IsAfter f Fits xs ys part
after {A} f Fits [] [] part more fits e = absurd (omega (arith, ap (length {A = List ℕ}) e))
after {A} f Fits [] (y ∷ ys) part more fits e = record { item = y; fits = All-head Fits y ys fits; is = sym (heads e); longer = omega arith }
after {A} f Fits (x ∷ xs) [] part more fits e = absurd (omega (arith, ap (length {A = List ℕ}) e))
after {A} f Fits (x ∷ xs) (y ∷ ys) part more fits e =
    let rest = after f Fits xs ys part more (All-tail Fits y ys fits) (tails e) in
    record { item = rest.item; fits = rest.fits; is = rest.is; longer = (let l = rest.longer in omega (arith, l)) }

-- the items xs were read, and the rest is still to be read
pub record ReadTo {A : Type 0} (byte : ℕ) (f : A → List ℕ) (Fits : A → Type 0) (text rest : List ℕ) (xs : List A) : Type 0 where
  pub fits : All Fits xs
  pub parts : parts byte text ≡ map f xs ++ parts byte rest

-- nothing was read
pub read_none : {A : Type 0} (byte : ℕ) (f : A → List ℕ) (Fits : A → Type 0) (text : List ℕ) → ReadTo byte f Fits text text []
read_none byte f Fits text = record { fits = λ k d l. absurd (omega (arith, l)); parts = refl }

module _ {A : Type 0} (byte : ℕ) (f : A → List ℕ) (Fits : A → Type 0) (text rest part : List ℕ) (xs : List A) (r : ReadTo byte f Fits text rest xs) where
  -- one item more
  pub read_more : (x : A) (later : List ℕ) → parts byte rest ≡ part ∷ parts byte later → Spells Fits f part (Some x) → ReadTo byte f Fits text later (xs ++ x ∷ [])
  read_more x later cut is = record {
    fits = All-push Fits xs x r.fits is.0;
    parts = r.parts ∙ (ap (λ ps. map f xs ++ ps) (cut ∙ ap (λ p. p ∷ parts byte later) is.1) ∙ (sym (append_assoc (map f xs) (f x ∷ []) (parts byte later)) ∙ ap (λ ps. ps ++ parts byte later) (sym (map-append f xs (x ∷ [])))));
  }

  -- the last item: the text is that of all
  pub read_last : (x : A) → parts byte rest ≡ part ∷ [] → Spells Fits f part (Some x) → All Fits (xs ++ x ∷ []) × (text ≡ join_with_byte byte (map f (xs ++ x ∷ [])))
  read_last x cut is = (
    All-push Fits xs x r.fits is.0,
    sym (join_with_byte-slice_split byte text) ∙ ap (join_with_byte byte) (r.parts ∙ (ap (λ ps. map f xs ++ ps) (cut ∙ ap (λ p. p ∷ []) is.1) ∙ sym (map-append f xs (x ∷ [])))),
  )

  -- items of which the text is joined go on after those that were read
  pub goes_on : ((x : A) → Fits x → Lacks byte (f x)) → (more : List (List ℕ)) → parts byte rest ≡ part ∷ more → (ys : List A) → 0 < length ys → All Fits ys → text ≡ join_with_byte byte (map f ys) → IsAfter f Fits xs ys part
  goes_on lack more cut ys some fits e = after f Fits xs ys part more fits (sym (parts_joined byte f Fits lack ys some fits) ∙ (ap (parts byte) (sym e) ∙ (r.parts ∙ ap (λ ps. map f xs ++ ps) cut)))

  -- so a part that spells no item shows that the text is joined of none
  pub read_not : ((x : A) → Fits x → Lacks byte (f x)) → (more : List (List ℕ)) → parts byte rest ≡ part ∷ more → Spells Fits f part None → (ys : List A) → 0 < length ys → All Fits ys → text ≡ join_with_byte byte (map f ys) → ⊥
  read_not lack more cut none ys some fits e = let next = goes_on lack more cut ys some fits e in none next.item next.fits next.is

  -- and it is joined of more than were read
  pub read_longer : ((x : A) → Fits x → Lacks byte (f x)) → (more : List (List ℕ)) → parts byte rest ≡ part ∷ more → (ys : List A) → 0 < length ys → All Fits ys → text ≡ join_with_byte byte (map f ys) → length xs < length ys
  read_longer lack more cut ys some fits e = (goes_on lack more cut ys some fits e).longer

-- a list to which an item was added is not empty
pub some_pushed : {A : Type 0} (xs : List A) (x : A) → 0 < length (xs ++ x ∷ [])
some_pushed xs x = omega (arith, length-append xs (x ∷ []))
