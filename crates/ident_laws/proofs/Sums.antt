-- Sums along walks: what they say of a number for each step, and of a number for each link.
use Rattle.std.proofs.Common.{◌≡◌, ℕ, ◌+◌, ◌⊎◌, Bool, true, false, ◌||◌, List, [], ◌∷◌, map, IsTrue, refl, ap₂, inl, inr, arith}
use Rattle.std.proofs.lemmas.Bool.{cases_Bool, or_parts, false≢true}
use Rattle.tomo_base.specs.declared.graph.Link.{Link}
use Rattle.tomo_base.specs.Network.{Network, joins, any_joins, linked, AreLinks}
use Rattle.tomo_base.specs.Walks.{StepsFrom}
use Rattle.tomo_base.specs.Identify.{sum_from, delay_between}
use Rattle.tomo_base.proofs.Links.{any_joins_comm, joins_gives}

-- two functions that agree on the links have equal sums along a walk
pub sum_from-same : (g : Network) (f h : ℕ → ℕ → ℕ) (a : ℕ) (p : List ℕ) → StepsFrom g a p → ((x y : ℕ) → IsTrue (linked g x y) → f x y ≡ h x y) → sum_from f a p ≡ sum_from h a p
unfolding sum_from
sum_from-same g f h a [] s e = refl
sum_from-same g f h a (b ∷ p) s e = ap₂ ◌+◌ (e a b s.0) (sum_from-same g f h b p s.1 e)

-- the sum of two functions is the sum of their sums
pub sum_from-add : (f h : ℕ → ℕ → ℕ) (a : ℕ) (p : List ℕ) → sum_from (λ x y. f x y + h x y) a p ≡ sum_from f a p + sum_from h a p
unfolding sum_from
sum_from-add f h a [] = omega arith
sum_from-add f h a (b ∷ p) = omega (arith, sum_from-add f h b p)

-- the numbers that u gives to the ends of the links
abbrev pub weights : (ℕ → ℕ → ℕ) → List Link → List ℕ
weights u ls = map (λ l. u l.a l.b) ls

-- between two nodes without a link there is no number
none_between : (u : ℕ → ℕ → ℕ) (ls : List Link) (a b : ℕ) → any_joins ls a b ≡ false → delay_between ls (weights u ls) a b ≡ 0
unfolding any_joins delay_between
none_between u [] a b h = refl
none_between u (l ∷ ls) a b h = let parts : (joins l a b ≡ false) × (any_joins ls a b ≡ false) = or_parts _ _ h in
    let rest : delay_between ls (weights u ls) a b ≡ 0 = none_between u ls a b parts.1 in
    rw (parts.0, rest) refl

-- the ends of a link may be exchanged in a list of links
same_ends : (ls : List Link) (x y a b : ℕ) → ((x ≡ a) × (y ≡ b)) ⊎ ((x ≡ b) × (y ≡ a)) → any_joins ls x y ≡ false → any_joins ls a b ≡ false
same_ends ls x y a b e h = grind (arith, any_joins_comm ls a b)

-- and in a number that does not ask for their order
same_number : (u : ℕ → ℕ → ℕ) (x y a b : ℕ) → ((v w : ℕ) → u v w ≡ u w v) → ((x ≡ a) × (y ≡ b)) ⊎ ((x ≡ b) × (y ≡ a)) → u x y ≡ u a b
same_number u x y a b c e = grind (arith, c a b)

-- where the first is false, the second is true
right_of : (x y : Bool) → x ≡ false → (x || y) ≡ true → y ≡ true
right_of x y e h = grind arith

-- the number of the one link between a and b
pub delay_between-weights : (n : ℕ) (u : ℕ → ℕ → ℕ) (ls : List Link) (a b : ℕ) → ((x y : ℕ) → u x y ≡ u y x) → AreLinks n ls → any_joins ls a b ≡ true → delay_between ls (weights u ls) a b ≡ u a b
unfolding any_joins delay_between
delay_between-weights n u [] a b c w h = absurd (false≢true h)
delay_between-weights n u (l ∷ ls) a b c w h = elim (cases_Bool (joins l a b)) [
  | inl e ↦
      let ends : ((l.a ≡ a) × (l.b ≡ b)) ⊎ ((l.a ≡ b) × (l.b ≡ a)) = joins_gives l a b e in
      let rest : delay_between ls (weights u ls) a b ≡ 0 = none_between u ls a b (same_ends ls l.a l.b a b ends w.2) in
      let here : u l.a l.b ≡ u a b = same_number u l.a l.b a b c ends in
      rw (e, rest, here) (omega arith)
  | inr e ↦
      let rest : delay_between ls (weights u ls) a b ≡ u a b = delay_between-weights n u ls a b c w.3 (right_of _ _ e h) in
      rw (e, rest) (omega arith)
]
