-- what holds of each, of some, and of any two different places of a list of sets
use Rattle.std.proofs.Common.{ℕ, Bool, List, [], ◌∷◌, ◌++◌, inl, inr}
use Rattle.blocks.specs.Cutting.{Each, Some, Pairs}

-- what follows from P holds of each
pub each-map : (P Q : (ℕ → Bool) → Type 0) → ((x : ℕ → Bool) → P x → Q x) → (xs : List (ℕ → Bool)) → Each P xs → Each Q xs
each-map P Q f [] h = tt
each-map P Q f (x ∷ xs) h = (f x h.0, each-map P Q f xs h.1)

-- what holds of any set holds of each
pub each-all : (P : (ℕ → Bool) → Type 0) → ((x : ℕ → Bool) → P x) → (xs : List (ℕ → Bool)) → Each P xs
each-all P f [] = tt
each-all P f (x ∷ xs) = (f x, each-all P f xs)

-- each of two lists, joined
pub each-join : (P : (ℕ → Bool) → Type 0) (xs ys : List (ℕ → Bool)) → Each P xs → Each P ys → Each P (xs ++ ys)
each-join P [] ys h k = k
each-join P (x ∷ xs) ys h k = (h.0, each-join P xs ys h.1 k)

-- what follows from P holds of some
pub some-map : (P Q : (ℕ → Bool) → Type 0) → ((x : ℕ → Bool) → P x → Q x) → (xs : List (ℕ → Bool)) → Some P xs → Some Q xs
some-map P Q f [] h = h
some-map P Q f (x ∷ xs) h = elim h [ inl p ↦ inl (f x p) | inr r ↦ inr (some-map P Q f xs r) ]

-- some of the first of two lists
pub some-left : (P : (ℕ → Bool) → Type 0) (xs ys : List (ℕ → Bool)) → Some P xs → Some P (xs ++ ys)
some-left P [] ys h = absurd h
some-left P (x ∷ xs) ys h = elim h [ inl p ↦ inl p | inr r ↦ inr (some-left P xs ys r) ]

-- some of the second of two lists
pub some-right : (P : (ℕ → Bool) → Type 0) (xs ys : List (ℕ → Bool)) → Some P ys → Some P (xs ++ ys)
some-right P [] ys h = h
some-right P (x ∷ xs) ys h = inr (some-right P xs ys h)

-- a set of which P holds, with what holds of each
pub some-each : (P Q : (ℕ → Bool) → Type 0) (xs : List (ℕ → Bool)) → Some P xs → Each Q xs → (x : ℕ → Bool) × P x × Q x
some-each P Q [] h e = absurd h
some-each P Q (x ∷ xs) h e = elim h [ inl p ↦ (x, p, e.0) | inr r ↦ some-each P Q xs r e.1 ]

-- the pairs of two lists, joined
pub pairs-join : (R : (ℕ → Bool) → (ℕ → Bool) → Type 0) (xs ys : List (ℕ → Bool)) → Pairs R xs → Pairs R ys → Each (λ x. Each (R x) ys) xs → Pairs R (xs ++ ys)
pairs-join R [] ys h k c = k
pairs-join R (x ∷ xs) ys h k c = (each-join (R x) xs ys h.0 c.0, pairs-join R xs ys h.1 k c.1)

-- where no guest has its home at another place, each guest is at home
pub at-home : (R : (ℕ → Bool) → (ℕ → Bool) → Type 0) (Guest Home : (ℕ → Bool) → Type 0)
    → ((x y : ℕ → Bool) → R x y → Guest x → Home y → ⊥) → ((x y : ℕ → Bool) → R x y → Home x → Guest y → ⊥)
    → (xs : List (ℕ → Bool)) → Pairs R xs → Some Home xs → Each (λ x. Guest x → Home x) xs
at-home R Guest Home f g [] p h = tt
at-home R Guest Home f g (x ∷ xs) p h = elim h [
  | inl hx ↦ ((λ q. hx), each-map (R x) (λ y. Guest y → Home y) (λ y r q. absurd (g x y r hx q)) xs p.0)
  | inr r ↦ ((λ q. let s = some-each Home (R x) xs r p.0 in absurd (f x s.0 s.2 q s.1)), at-home R Guest Home f g xs p.1 r)
]

-- two facts of each
pub each-both : (P Q : (ℕ → Bool) → Type 0) (xs : List (ℕ → Bool)) → Each P xs → Each Q xs → Each (λ x. P x × Q x) xs
each-both P Q [] h k = tt
each-both P Q (x ∷ xs) h k = ((h.0, k.0), each-both P Q xs h.1 k.1)

-- a fact of each for any value
pub each-every : (A : Type 0) (P : A → (ℕ → Bool) → Type 0) (xs : List (ℕ → Bool)) → ((a : A) → Each (P a) xs) → Each (λ x. (a : A) → P a x) xs
each-every A P [] h = tt
each-every A P (x ∷ xs) h = ((λ a. (h a).0), each-every A P xs (λ a. (h a).1))

-- some of which P holds, with what holds of each
pub some-with : (P Q R : (ℕ → Bool) → Type 0) → ((x : ℕ → Bool) → P x → Q x → R x) → (xs : List (ℕ → Bool)) → Some P xs → Each Q xs → Some R xs
some-with P Q R f [] h e = absurd h
some-with P Q R f (x ∷ xs) h e = elim h [ inl p ↦ inl (f x p e.0) | inr r ↦ inr (some-with P Q R f xs r e.1) ]

-- pairs with a fact of the earlier place
pub pairs-each : (R : (ℕ → Bool) → (ℕ → Bool) → Type 0) (P : (ℕ → Bool) → Type 0) (Q : (ℕ → Bool) → (ℕ → Bool) → Type 0) → ((x y : ℕ → Bool) → R x y → P x → Q x y)
    → (xs : List (ℕ → Bool)) → Pairs R xs → Each P xs → Pairs Q xs
pairs-each R P Q f [] h e = tt
pairs-each R P Q f (x ∷ xs) h e = (each-map (R x) (Q x) (λ y r. f x y r e.0) xs h.0, pairs-each R P Q f xs h.1 e.1)

-- what holds of any two sets with P holds of any two places
pub pairs-all : (R : (ℕ → Bool) → (ℕ → Bool) → Type 0) (P : (ℕ → Bool) → Type 0) → ((x y : ℕ → Bool) → P x → P y → R x y) → (xs : List (ℕ → Bool)) → Each P xs → Pairs R xs
pairs-all R P f [] h = tt
pairs-all R P f (x ∷ xs) h = (each-map P (R x) (λ y py. f x y h.0 py) xs h.1, pairs-all R P f xs h.1)
