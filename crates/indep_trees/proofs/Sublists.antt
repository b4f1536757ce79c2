-- Nodes in order within a list: sublists, what an insertion keeps, and the place of a node in a list without repetition.
use Rattle.std.proofs.Common.{◌≡◌, ◌⊎◌, ℕ, zero, suc, ◌<◌, List, [], ◌∷◌, ◌++◌, length, get_or, Bool, true, false, cond, eqb, refl, sym, subst, ap, ◌∙◌, inl, inr, arith}
use Rattle.std.specs.List.{filter}
use Rattle.std.proofs.lemmas.Bool.{cases_eq, eq-eqb, ne_eqb}
use Rattle.indep_trees.specs.Placing.{Sub, In, Distinct}
use Rattle.indep_trees.specs.Numbers.{spot}

-- a proof by the two values of a test, with the equation
pub split : (b : Bool) → (A : Type 0) → (b ≡ true → A) → (b ≡ false → A) → A
split true A f g = f refl
split false A f g = g refl

-- the empty list stands in each
pub sub_nil : (l : List ℕ) → Sub [] l
sub_nil [] = tt
sub_nil (c ∷ l) = tt

-- a node more in front
pub sub_skip : (s : List ℕ) (c : ℕ) (l : List ℕ) → Sub s l → Sub s (c ∷ l)
sub_skip [] c l a = tt
sub_skip (x ∷ s) c l a = inl a

-- a list stands in itself
pub sub_refl : (l : List ℕ) → Sub l l
sub_refl [] = tt
sub_refl (c ∷ l) = inr (refl, sub_refl l)

-- in order within what is in order
pub sub_trans : (s l m : List ℕ) → Sub s l → Sub l m → Sub s m
sub_trans [] l m a b = sub_nil m
sub_trans (x ∷ s) [] m a b = absurd a
sub_trans (x ∷ s) (y ∷ l) [] a b = absurd b
sub_trans (x ∷ s) (y ∷ l) (z ∷ m) a (inl b) = inl (sub_trans (x ∷ s) (y ∷ l) m a b)
sub_trans (x ∷ s) (y ∷ l) (z ∷ m) (inl a) (inr b) = inl (sub_trans (x ∷ s) l m a b.1)
sub_trans (x ∷ s) (y ∷ l) (z ∷ m) (inr a) (inr b) = inr (a.0 ∙ b.0, sub_trans s l m a.1 b.1)

-- one after the other
pub sub_append : (s l s2 l2 : List ℕ) → Sub s l → Sub s2 l2 → Sub (s ++ s2) (l ++ l2)
sub_append [] [] s2 l2 a b = b
sub_append (x ∷ s) [] s2 l2 a b = absurd a
sub_append [] (c ∷ l) s2 l2 a b = sub_skip s2 c (l ++ l2) (sub_append [] l s2 l2 (sub_nil l) b)
sub_append (x ∷ s) (c ∷ l) s2 l2 (inl a) b = inl (sub_append (x ∷ s) l s2 l2 a b)
sub_append (x ∷ s) (c ∷ l) s2 l2 (inr a) b = inr (a.0, sub_append s l s2 l2 a.1 b)

-- an insertion keeps the order
pub sub_insert : (s l m l2 : List ℕ) → Sub s (l ++ l2) → Sub s (l ++ (m ++ l2))
sub_insert s l m l2 a =
    sub_trans s (l ++ l2) (l ++ (m ++ l2)) a
    (sub_append l l l2 (m ++ l2) (sub_refl l) (sub_append [] m l2 l2 (sub_nil m) (sub_refl l2)))

-- what is inserted after x stands between x and each node behind
pub sub_between : (l : List ℕ) (x : ℕ) (mid : List ℕ) (y : ℕ) (l2 : List ℕ) → In y l2 → Sub (x ∷ (mid ++ y ∷ [])) (l ++ x ∷ (mid ++ l2))
sub_between l x mid y l2 a =
    sub_append [] l (x ∷ (mid ++ y ∷ [])) (x ∷ (mid ++ l2)) (sub_nil l) (inr (refl, sub_append mid mid (y ∷ []) l2 (sub_refl mid) a))

-- two places next to each other
pub sub_pair : (e : List ℕ) (i : ℕ) → suc i < length e → Sub (get_or e i 0 ∷ get_or e (suc i) 0 ∷ []) e
sub_pair [] i h = absurd (omega arith)
sub_pair (x ∷ []) i h = absurd (omega arith)
sub_pair (x ∷ y ∷ e) zero h = inr (refl, inr (refl, sub_nil e))
sub_pair (x ∷ y ∷ e) (suc i) h = inl (sub_pair (y ∷ e) i (omega arith))

-- the node at a place is in the list
pub in_at : (l : List ℕ) (i : ℕ) → i < length l → In (get_or l i 0) l
in_at [] i h = absurd (omega arith)
in_at (x ∷ l) zero h = inr (refl, sub_nil l)
in_at (x ∷ l) (suc i) h = inl (in_at l i (omega arith))

-- a node of the list has a place
pub in_gives : (v : ℕ) (l : List ℕ) → In v l → (i : ℕ) × (i < length l) × (get_or l i 0 ≡ v)
in_gives v [] a = absurd a
in_gives v (x ∷ l) (inl a) = let i = in_gives v l a in (suc i.0, omega (arith, i.1), i.2)
in_gives v (x ∷ l) (inr a) = (0, omega arith, sym a.0)

-- a node of two lists one after the other
pub in_cases : (v : ℕ) (l m : List ℕ) → In v (l ++ m) → In v l ⊎ In v m
in_cases v [] m a = inr a
in_cases v (c ∷ l) m (inl a) = elim (in_cases v l m a) [ inl b ↦ inl (inl b) | inr b ↦ inr b ]
in_cases v (c ∷ l) m (inr a) = inl (inr (a.0, sub_nil l))

-- of two different nodes one stands before the other
pub in_order : (x y : ℕ) (l : List ℕ) → In x l → In y l → (x ≡ y → ⊥) → Sub (x ∷ y ∷ []) l ⊎ Sub (y ∷ x ∷ []) l
in_order x y [] a b differ = absurd a
in_order x y (c ∷ l) (inl a) (inl b) differ = elim (in_order x y l a b differ) [ inl s ↦ inl (inl s) | inr s ↦ inr (inl s) ]
in_order x y (c ∷ l) (inl a) (inr b) differ = inr (inr (b.0, a))
in_order x y (c ∷ l) (inr a) (inl b) differ = inl (inr (a.0, b))
in_order x y (c ∷ l) (inr a) (inr b) differ = absurd (differ (a.0 ∙ sym b.0))

-- a list in which x stands before y is parted at x
pub cut_at : (x y : ℕ) (l : List ℕ) → Sub (x ∷ y ∷ []) l → (front : List ℕ) × (back : List ℕ) × (l ≡ front ++ x ∷ back) × In y back
cut_at x y [] a = absurd a
cut_at x y (c ∷ l) (inl a) = let k = cut_at x y l a in (c ∷ k.0, k.1, ap (λ m. c ∷ m) k.2, k.3)
cut_at x y (c ∷ l) (inr a) = ([], l, ap (λ z. z ∷ l) (sym a.0), a.1)

-- two lists that share nothing, one after the other
pub distinct_append : (l m : List ℕ) → Distinct l → Distinct m → ((v : ℕ) → In v l → In v m → ⊥) → Distinct (l ++ m)
distinct_append [] m a b apart = b
distinct_append (c ∷ l) m a b apart = (
  λ s. elim (in_cases c l m s) [ inl x ↦ a.0 x | inr x ↦ apart c (inr (refl, sub_nil l)) x ],
  distinct_append l m a.1 b (λ v x y. apart v (inl x) y),
)

-- a list without repetition has two parts without, which share nothing
pub distinct_parts : (l m : List ℕ) → Distinct (l ++ m) → Distinct l × Distinct m × ((v : ℕ) → In v l → In v m → ⊥)
distinct_parts [] m a = (tt, a, λ v x y. x)
distinct_parts (c ∷ l) m a =
    let rest = distinct_parts l m a.1 in
    ((λ s. a.0 (sub_left c l m s), rest.0), rest.1, shares rest.2)
  where
    sub_left : (v : ℕ) (l m : List ℕ) → In v l → In v (l ++ m)
    sub_left v [] m s = absurd s
    sub_left v (x ∷ l) m (inl s) = inl (sub_left v l m s)
    sub_left v (x ∷ l) m (inr s) = inr (s.0, sub_nil (l ++ m))

    sub_right : (v : ℕ) (l m : List ℕ) → In v m → In v (l ++ m)
    sub_right v [] m s = s
    sub_right v (x ∷ l) m s = inl (sub_right v l m s)

    shares : ((v : ℕ) → In v l → In v m → ⊥) → (v : ℕ) → In v (c ∷ l) → In v m → ⊥
    shares f v (inl x) y = f v x y
    shares f v (inr x) y = a.0 (sub_right c l m (subst (λ k. In k m) x.0 y))

-- new nodes put in after x
pub distinct_insert : (l : List ℕ) (x : ℕ) (mid l2 : List ℕ) → Distinct (l ++ x ∷ l2) → Distinct mid → ((v : ℕ) → In v mid → In v (l ++ x ∷ l2) → ⊥)
    → Distinct (l ++ x ∷ (mid ++ l2))
distinct_insert l x mid l2 a b fresh =
    let p = distinct_parts l (x ∷ l2) a in
    distinct_append l (x ∷ (mid ++ l2)) p.0 (
      λ s. elim (in_cases x mid l2 s) [ inl h ↦ fresh x h (behind x (inr (refl, sub_nil l2))) | inr h ↦ (p.1).0 h ],
      distinct_append mid l2 b (p.1).1 (λ v s h. fresh v s (behind v (inl h))),
    )
    (λ v s h. meets v s h p.2)
  where
    behind : (v : ℕ) → In v (x ∷ l2) → In v (l ++ x ∷ l2)
    behind v s = sub_append [] l (v ∷ []) (x ∷ l2) (sub_nil l) s

    before : (v : ℕ) (l m : List ℕ) → In v l → In v (l ++ m)
    before v [] m s = absurd s
    before v (c ∷ l) m (inl s) = inl (before v l m s)
    before v (c ∷ l) m (inr s) = inr (s.0, sub_nil (l ++ m))

    meets : (v : ℕ) → In v l → In v (x ∷ (mid ++ l2)) → ((v : ℕ) → In v l → In v (x ∷ l2) → ⊥) → ⊥
    meets v s (inr h) apart = apart v s (inr (h.0, sub_nil l2))
    meets v s (inl h) apart = elim (in_cases v mid l2 h) [ inl k ↦ fresh v k (before v l (x ∷ l2) s) | inr k ↦ apart v s (inl k) ]

-- a node of the list has a place below its length
pub spot_below : (v : ℕ) (l : List ℕ) → In v l → spot v l < length l
unfolding spot
spot_below v [] a = absurd a
spot_below v (c ∷ l) (inr a) = rw (eq-eqb c v (sym a.0)) (omega arith)
spot_below v (c ∷ l) (inl a) =
    let known : spot v l < length l = spot_below v l a in
    split (eqb c v) (cond (eqb c v) 0 (suc (spot v l)) < suc (length l)) (λ y. rw y (omega arith)) (λ off. rw off (omega arith))

-- without repetition the place of the node that stands before is lower
pub spot_before : (a b : ℕ) (l : List ℕ) → Distinct l → Sub (a ∷ b ∷ []) l → spot a l < spot b l
unfolding spot
spot_before a b [] d s = absurd s
spot_before a b (c ∷ l) d (inr s) =
    let off : eqb c b ≡ false = ne_eqb c b (λ e. d.0 (subst (λ k. In k l) (sym e) s.1)) in
    rw (eq-eqb c a (sym s.0), off) (omega arith)
spot_before a b (c ∷ l) d (inl s) =
    let known : spot a l < spot b l = spot_before a b l d.1 s in
    let off : eqb c a ≡ false = ne_eqb c a (λ e. d.0 (subst (λ k. In k l) (sym e) (sub_trans (a ∷ []) (a ∷ b ∷ []) l (inr (refl, tt)) s))) in
    let off2 : eqb c b ≡ false = ne_eqb c b (λ e. d.0 (subst (λ k. In k l) (sym e) (sub_trans (b ∷ []) (a ∷ b ∷ []) l (inl (inr (refl, tt))) s))) in
    rw (off, off2) (omega arith)

-- different nodes have different places
pub spot_one : (a b : ℕ) (l : List ℕ) → Distinct l → In a l → In b l → spot a l ≡ spot b l → a ≡ b
spot_one a b l d x y e = elim (cases_eq a b) [
  | inl same ↦ same
  | inr differ ↦ elim (in_order a b l x y differ) [
    | inl s ↦ absurd (omega (arith, spot_before a b l d s))
    | inr s ↦ absurd (omega (arith, spot_before b a l d s))
  ]
]

-- a filter keeps the order
pub sub_filter : (p : ℕ → Bool) (s l : List ℕ) → Sub s l → Sub (filter p s) (filter p l)
sub_filter p [] l a = sub_nil (filter p l)
sub_filter p (x ∷ s) [] a = absurd a
sub_filter p (x ∷ s) (c ∷ l) (inl a) =
    let known : Sub (filter p (x ∷ s)) (filter p l) = sub_filter p (x ∷ s) l a in
    split (p c) (Sub (filter p (x ∷ s)) (cond (p c) (c ∷ filter p l) (filter p l)))
    (λ y. rw y (sub_skip (filter p (x ∷ s)) c (filter p l) known))
    (λ off. rw off known)
sub_filter p (x ∷ s) (c ∷ l) (inr a) =
    let known : Sub (filter p s) (filter p l) = sub_filter p s l a.1 in
    subst (λ k. Sub (filter p (x ∷ s)) (filter p (k ∷ l))) a.0
    (split (p x) (Sub (cond (p x) (x ∷ filter p s) (filter p s)) (cond (p x) (x ∷ filter p l) (filter p l)))
    (λ y. rw y (inr (refl, known)))
    (λ off. rw off known))

-- what a filter keeps was there
pub in_filter : (p : ℕ → Bool) (v : ℕ) (l : List ℕ) → In v (filter p l) → In v l × (p v ≡ true)
in_filter p v [] a = absurd a
in_filter p v (c ∷ l) a = at (p c) refl (λ k. in_filter p v l k) a
  where
    at : (b : Bool) → p c ≡ b → (In v (filter p l) → In v l × (p v ≡ true)) → In v (cond b (c ∷ filter p l) (filter p l)) → In v (c ∷ l) × (p v ≡ true)
    at true e known (inr s) = (inr (s.0, sub_nil l), ap p s.0 ∙ e)
    at true e known (inl s) = let k = known s in (inl k.0, k.1)
    at false e known s = let k = known s in (inl k.0, k.1)

-- a filter of a list without repetition has none
pub distinct_filter : (p : ℕ → Bool) (l : List ℕ) → Distinct l → Distinct (filter p l)
distinct_filter p [] d = tt
distinct_filter p (c ∷ l) d =
    let known : Distinct (filter p l) = distinct_filter p l d.1 in
    split (p c) (Distinct (cond (p c) (c ∷ filter p l) (filter p l)))
    (λ y. rw y (λ s. d.0 (in_filter p c l s).0, known))
    (λ off. rw off known)
