-- A path and its reverse run over the same links, and one is a monitor path where the other is.
use Rattle.std.proofs.Common.{◌≡◌, ℕ, ◌+◌, ◌-◌, ◌<◌, ◌≤◌, ◌==◌, ◌||◌, nat_lt, Bool, false, List, [], ◌∷◌, ◌++◌, length, map, get_or, reverse, IsTrue, refl, sym, ap, subst, ◌∙◌, inl, inr, arith, length-append}
use Rattle.std.proofs.lemmas.Bool.{cases_Bool, cases_lt, or_parts, or_from, lt-ltb, le-ltb}
use Rattle.std.proofs.lemmas.List.{reverse-append, length-reverse}
use Rattle.std.proofs.lemmas.Bool.Decides.{nat_tests}
use Rattle.tomo_base.specs.declared.graph.Link.{Link}
use Rattle.tomo_base.specs.Network.{Network, joins, linked}
use Rattle.tomo_base.specs.Sets.{has, one_if}
use Rattle.tomo_base.specs.Walks.{StepsFrom, IsWalk, EndsIn, NoneTwice, end_of}
use Rattle.tomo_base.specs.Identify.{sum_from, sum_over, IsMonitorPath}
use Rattle.tomo_base.specs.Recipes.{uses_of}
use Rattle.tomo_base.proofs.Links.{joins_comm, linked_comm}
use Rattle.tomo_base.proofs.Members.{has-append}
use Rattle.simple_path.specs.Pools.{nodes_in}
use Rattle.plan_form.specs.Building.{turned}
use Rattle.plan_form.specs.Good.{EndsAscend}

-- the reverse, by recursion
abbrev pub back : List ℕ → List ℕ
back [] = []
back (a ∷ p) = back p ++ a ∷ []

-- it is the reverse of std
pub back_is : (p : List ℕ) → back p ≡ reverse p
back_is [] = refl
back_is (a ∷ p) = ap (λ t. t ++ a ∷ []) (back_is p) ∙ sym (reverse-append (a ∷ []) p)

-- the last node after one more
pub end_push : (d : ℕ) (xs : List ℕ) (y : ℕ) → end_of d (xs ++ y ∷ []) ≡ y
end_push d [] y = refl
end_push d (x ∷ xs) y = end_push x xs y

-- a sum over one step more
sum_from-push : (f : ℕ → ℕ → ℕ) (a : ℕ) (xs : List ℕ) (y : ℕ) → sum_from f a (xs ++ y ∷ []) ≡ sum_from f a xs + f (end_of a xs) y
unfolding sum_from
sum_from-push f a [] y = omega arith
sum_from-push f a (x ∷ xs) y = omega (arith, sum_from-push f x xs y)

-- so along a path
sum_over-push : (f : ℕ → ℕ → ℕ) (xs : List ℕ) (y : ℕ) → 0 < length xs → sum_over f (xs ++ y ∷ []) ≡ sum_over f xs + f (end_of y xs) y
sum_over-push f [] y some = absurd (omega (arith, some))
sum_over-push f (x ∷ xs) y some = sum_from-push f x xs y

-- a list with one item more has an item
some_push : (xs : List ℕ) (y : ℕ) → 0 < length (xs ++ y ∷ [])
some_push xs y = omega (arith, length-append xs (y ∷ []))

-- a sum along the reverse, where the order of the ends is without effect
pub sum_over-back : (f : ℕ → ℕ → ℕ) → ((x y : ℕ) → f x y ≡ f y x) → (p : List ℕ) → sum_over f (back p) ≡ sum_over f p
unfolding sum_from
sum_over-back f comm [] = refl
sum_over-back f comm (a ∷ []) = refl
sum_over-back f comm (a ∷ b ∷ q) =
    sum_over-push f (back q ++ b ∷ []) a (some_push (back q) b)
    ∙ rw (sum_over-back f comm (b ∷ q), end_push a (back q) b, comm b a) (omega arith)

-- a path and its reverse run over a link equally often
pub uses_back : (l : Link) (p : List ℕ) → uses_of l (back p) ≡ uses_of l p
unfolding uses_of
uses_back l p = sum_over-back (λ a b. one_if (joins l a b)) (λ x y. ap one_if (joins_comm l x y)) p

-- turning keeps what does not depend on the direction
pub turned_keeps : {A : Type 0} (f : List ℕ → A) → ((p : List ℕ) → f (back p) ≡ f p) → (p : List ℕ) → f (turned p) ≡ f p
turned_keeps f same [] = refl
turned_keeps f same (a ∷ p) = elim (cases_Bool (nat_lt (end_of a p) a)) [ inl e ↦ rw (e, ← back_is (a ∷ p)) (same (a ∷ p)) | inr e ↦ rw e refl ]

-- so does the path turned
pub uses_turned : (l : Link) (p : List ℕ) → uses_of l (turned p) ≡ uses_of l p
uses_turned l = turned_keeps (uses_of l) (uses_back l)

-- they have the same nodes
pub has_back : (p : List ℕ) (v : ℕ) → has (back p) v ≡ has p v
unfolding has
has_back [] v = refl
has_back (x ∷ p) v = has-append (back p) (x ∷ []) v ∙ rw (has_back p v) (swap (x == v) (has p v))
  where
    swap : (a b : Bool) → (b || (a || false)) ≡ (a || b)
    swap a b = grind arith

-- one node more that is new
none_push : (xs : List ℕ) (y : ℕ) → NoneTwice xs → has xs y ≡ false → NoneTwice (xs ++ y ∷ [])
unfolding has
none_push [] y once out = (refl, tt)
none_push (x ∷ xs) y once out =
    let parts : ((x == y) ≡ false) × (has xs y ≡ false) = or_parts (x == y) (has xs y) out in
    (has-append xs (y ∷ []) x ∙ or_from (has xs x) ((y == x) || false) once.0 (other x y parts.0), none_push xs y once.1 parts.1)
  where
    other : (x y : ℕ) → (x == y) ≡ false → ((y == x) || false) ≡ false
    other x y e = grind (arith, nat_tests)

-- the reverse visits no node twice either
pub none_back : (p : List ℕ) → NoneTwice p → NoneTwice (back p)
none_back [] once = tt
none_back (x ∷ p) once = none_push (back p) x (none_back p once.1) (has_back p x ∙ once.0)

-- one step more of a walk
steps_push : (g : Network) (a : ℕ) (xs : List ℕ) (y : ℕ) → StepsFrom g a xs → IsTrue (linked g (end_of a xs) y) → StepsFrom g a (xs ++ y ∷ [])
steps_push g a [] y steps last = (last, tt)
steps_push g a (x ∷ xs) y steps last = (steps.0, steps_push g x xs y steps.1 last)

-- so of a path
walk_push : (g : Network) (xs : List ℕ) (y : ℕ) → 0 < length xs → IsWalk g xs → IsTrue (linked g (end_of y xs) y) → IsWalk g (xs ++ y ∷ [])
walk_push g [] y some walk last = absurd (omega (arith, some))
walk_push g (x ∷ xs) y some walk last = steps_push g x xs y walk last

-- the reverse of a walk is a walk
pub walk_back : (g : Network) (p : List ℕ) → IsWalk g p → IsWalk g (back p)
walk_back g [] walk = tt
walk_back g (a ∷ []) walk = tt
walk_back g (a ∷ b ∷ q) walk =
    walk_push g (back q ++ b ∷ []) a (some_push (back q) b) (walk_back g (b ∷ q) walk.1)
    (subst (λ e. IsTrue (linked g e a)) (sym (end_push a (back q) b)) (linked_comm g a b walk.0))

-- the first node, d for none
abbrev pub head_of : ℕ → List ℕ → ℕ
head_of d [] = d
head_of d (x ∷ xs) = x

-- the first node, whatever stands for none
head_default : (d e : ℕ) (xs : List ℕ) → 0 < length xs → head_of d xs ≡ head_of e xs
head_default d e [] some = absurd (omega (arith, some))
head_default d e (x ∷ xs) some = refl

-- the first of two lists
head_append : (d : ℕ) (xs ys : List ℕ) → 0 < length xs → head_of d (xs ++ ys) ≡ head_of d xs
head_append d [] ys some = absurd (omega (arith, some))
head_append d (x ∷ xs) ys some = refl

-- the reverse begins where the path ends
pub head_back : (a : ℕ) (p : List ℕ) → head_of a (back (a ∷ p)) ≡ end_of a p
head_back a [] = refl
head_back a (b ∷ q) = head_append a (back q ++ b ∷ []) (a ∷ []) (some_push (back q) b) ∙ (head_default a b (back q ++ b ∷ []) (some_push (back q) b) ∙ head_back b q)

-- ends in the set, from the first and the last node
ends_from : (q : ℕ → Bool) (d : ℕ) (p : List ℕ) → 0 < length p → IsTrue (q (head_of d p)) → IsTrue (q (end_of d p)) → EndsIn q p
ends_from q d [] some first last = absurd (omega (arith, some))
ends_from q d (a ∷ p) some first last = (first, last)

-- the ends of the reverse are in the set too
ends_back : (q : ℕ → Bool) (p : List ℕ) → EndsIn q p → EndsIn q (back p)
ends_back q [] ends = ends
ends_back q (a ∷ p) ends = ends_from q a (back (a ∷ p)) (some_push (back p) a)
    (subst (λ x. IsTrue (q x)) (sym (head_back a p)) ends.1) (subst (λ x. IsTrue (q x)) (sym (end_push a (back p) a)) ends.0)

-- the reverse of a monitor path is one
pub path_back : (g : Network) (m : ℕ → Bool) (p : List ℕ) → IsMonitorPath g m p → IsMonitorPath g m (back p)
path_back g m p h = record {
  two = subst (λ n. 2 ≤ n) (sym (ap (length {A = ℕ}) (back_is p) ∙ length-reverse p)) h.two;
  different = none_back p h.different;
  linked = walk_back g p h.linked;
  ends = ends_back m p h.ends;
}

-- a monitor path, turned, is one
pub path_turned : (g : Network) (m : ℕ → Bool) (p : List ℕ) → IsMonitorPath g m p → IsMonitorPath g m (turned p)
path_turned g m [] h = h
path_turned g m (a ∷ p) h = elim (cases_Bool (nat_lt (end_of a p) a)) [ inl e ↦ rw (e, ← back_is (a ∷ p)) (path_back g m (a ∷ p) h) | inr e ↦ rw e h ]

-- the ends of a path of two nodes or more differ
ends_apart : (a : ℕ) (p : List ℕ) → 0 < length p → has p a ≡ false → (a ≡ end_of a p) → ⊥
unfolding has
ends_apart a [] some out e = absurd (omega (arith, some))
ends_apart a (b ∷ p) some out e = apart a b p out e
  where
    apart : (a b : ℕ) (p : List ℕ) → has (b ∷ p) a ≡ false → a ≡ end_of b p → ⊥
    apart a b [] out e = absurd (last a b out e)
      where
        last : (a b : ℕ) → ((b == a) || false) ≡ false → a ≡ b → ⊥
        last a b out e = grind (arith, nat_tests)
    apart a b (c ∷ p) out e = apart a c p (or_parts (b == a) (has (c ∷ p) a) out).1 e

-- two numbers that differ, one at most the other
below_unless : (a b : ℕ) → a ≤ b → (a ≡ b → ⊥) → a < b
below_unless a b le ne = elim (cases_lt a b) [ inl l ↦ l | inr g ↦ absurd (ne (omega (arith, g, le))) ]

-- the ends ascend, told by the first and the last node
ends_ascend : (d : ℕ) (p : List ℕ) → 0 < length p → head_of d p < end_of d p → EndsAscend p
ends_ascend d [] some lt = absurd (omega (arith, some))
ends_ascend d (x ∷ xs) some lt = lt

-- and begins with the lower of its ends
pub turned_ascends : (g : Network) (m : ℕ → Bool) (p : List ℕ) → IsMonitorPath g m p → EndsAscend (turned p)
turned_ascends g m [] h = absurd (omega (arith, h.two))
turned_ascends g m (a ∷ p) h = elim (cases_lt (end_of a p) a) [
  | inl lt ↦ rw (lt-ltb (end_of a p) a lt, ← back_is (a ∷ p)) (ends_ascend a (back (a ∷ p)) (some_push (back p) a) (rw (head_back a p, end_push a (back p) a) lt))
  | inr le ↦ rw (le-ltb (end_of a p) a le) (below_unless a (end_of a p) le (ends_apart a p (omega (arith, h.two)) h.different.0))
]

-- the last node, by its place
pub end_at : (a : ℕ) (p : List ℕ) (d : ℕ) → get_or (a ∷ p) (length p) d ≡ end_of a p
end_at a [] d = refl
end_at a (b ∷ p) d = end_at b p d

-- ---- how many nodes

-- as long as the path
length-back : (p : List ℕ) → length (back p) ≡ length p
length-back p = ap (length {A = ℕ}) (back_is p) ∙ length-reverse p

-- turned paths have as many
pub nodes_in-turned : (ps : List (List ℕ)) → nodes_in (map turned ps) ≡ nodes_in ps
nodes_in-turned [] = refl
nodes_in-turned (p ∷ ps) = omega (arith, turned_keeps (length {A = ℕ}) length-back p, nodes_in-turned ps)

-- ---- the ends, read by their places

-- the last entry is the end
ends_at : (a : ℕ) (p : List ℕ) (last : ℕ) → last ≡ get_or (a ∷ p) (length (a ∷ p) - 1) last → last ≡ end_of a p
ends_at a p last is =
    let place : length (a ∷ p) - 1 ≡ length p = omega arith in
    is ∙ (ap (λ i. get_or (a ∷ p) i last) place ∙ end_at a p last)

-- the last node is less than the first
pub turned_reverse : (p : List ℕ) (first last : ℕ) → 0 < length p → first ≡ get_or p 0 first → last ≡ get_or p (length p - 1) last → last < first → reverse p ≡ turned p
turned_reverse [] first last some f e lt = absurd (omega (arith, some))
turned_reverse (a ∷ p) first last some f e lt =
    let less : end_of a p < a = omega (arith, f, ends_at a p last e, lt) in
    rw (lt-ltb (end_of a p) a less) refl

-- it is not
pub turned_same : (p : List ℕ) (first last : ℕ) → 0 < length p → first ≡ get_or p 0 first → last ≡ get_or p (length p - 1) last → first ≤ last → p ≡ turned p
turned_same [] first last some f e le = absurd (omega (arith, some))
turned_same (a ∷ p) first last some f e le =
    let most : a ≤ end_of a p = omega (arith, f, ends_at a p last e, le) in
    rw (le-ltb (end_of a p) a most) refl

-- there is none
pub turned_none : (p : List ℕ) → length p ≤ 0 → p ≡ turned p
turned_none [] none = refl
turned_none (a ∷ p) none = absurd (omega (arith, none))
