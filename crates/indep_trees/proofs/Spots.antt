-- Places among the nodes of a list that pass a test.
use Rattle.std.proofs.Common.{◌≡◌, ℕ, zero, suc, ◌+◌, ◌<◌, ◌≤◌, List, [], ◌∷◌, ◌++◌, length, get_or, take, set, Bool, true, false, cond, eqb, nat_lt, refl, sym, subst, ap, ◌∙◌, inl, inr, arith, get_or-set_same, get_or-set_other}
use Rattle.std.specs.List.{filter}
use Rattle.std.proofs.lemmas.Bool.{cases_eq, both_ways, eq-eqb, ne_eqb, ltb-true, lt-ltb}
use Rattle.std.proofs.lemmas.List.{take_more, length-append, length-take, get_or_push, get_or_append_left}
use Rattle.tomo_base.specs.Network.{Network, linked}
use Rattle.tomo_base.specs.Search.{entry_at}
use Rattle.indep_trees.specs.Placing.{In, Distinct}
use Rattle.indep_trees.specs.Numbers.{spot}
use Rattle.indep_trees.proofs.Sublists.{split, sub_nil, in_cases, in_filter}
use Rattle.tomo_base.proofs.Lists.{filter_le}

-- a filter of a list with one node more
pub filter_push : (p : ℕ → Bool) (l : List ℕ) (x : ℕ) → filter p (l ++ x ∷ []) ≡ filter p l ++ cond (p x) (x ∷ []) []
filter_push p [] x = refl
filter_push p (c ∷ l) x = split (p c) (filter p ((c ∷ l) ++ x ∷ []) ≡ filter p (c ∷ l) ++ cond (p x) (x ∷ []) [])
    (λ y. rw y (ap (λ z. c ∷ z) (filter_push p l x)))
    (λ off. rw off (filter_push p l x))

-- a node of the front keeps its place
pub spot_front : (v : ℕ) (l m : List ℕ) → In v l → spot v (l ++ m) ≡ spot v l
unfolding spot
spot_front v [] m h = absurd h
spot_front v (c ∷ l) m (inr s) = rw (eq-eqb c v (sym s.0)) refl
spot_front v (c ∷ l) m (inl s) = ap (λ k. cond (eqb c v) 0 (suc k)) (spot_front v l m s)

-- a new node comes last
pub spot_last : (v : ℕ) (l : List ℕ) → (In v l → ⊥) → spot v (l ++ v ∷ []) ≡ length l
unfolding spot
spot_last v [] out = rw (eq-eqb v v refl) refl
spot_last v (c ∷ l) out = rw (ne_eqb c v (λ e. out (inr (sym e, sub_nil l))), spot_last v l (λ s. out (inl s))) refl

-- what passes the test is kept
pub in_kept : (p : ℕ → Bool) (v : ℕ) (l : List ℕ) → In v l → p v ≡ true → In v (filter p l)
in_kept p v [] h y = absurd h
in_kept p v (c ∷ l) (inr s) y = rw (subst (λ z. p z ≡ true) s.0 y) (inr (s.0, sub_nil (filter p l)))
in_kept p v (c ∷ l) (inl s) y =
    let known : In v (filter p l) = in_kept p v l s y in
    split (p c) (In v (filter p (c ∷ l))) (λ h. rw h (inl known)) (λ off. rw off known)

-- the front of a list without repetition does not have the next
pub next_new : (l : List ℕ) (i : ℕ) → Distinct l → i < length l → In (get_or l i 0) (take i l) → ⊥
next_new [] i d h s = omega arith
next_new (x ∷ l) zero d h s = s
next_new (x ∷ l) (suc i) d h (inl s) = next_new l i d.1 (omega (arith, h)) s
next_new (x ∷ l) (suc i) d h (inr s) = d.0 (subst (λ z. In z l) s.0 (at l i (omega (arith, h))))
  where
    at : (l : List ℕ) (i : ℕ) → i < length l → In (get_or l i 0) l
    at [] i h = absurd (omega arith)
    at (y ∷ l) zero h = inr (refl, sub_nil l)
    at (y ∷ l) (suc i) h = inl (at l i (omega (arith, h)))

-- the numbers so far: the place of each node below n among those of the list
abbrev pub AreNumbers : ℕ → List ℕ → List ℕ → Type 0
AreNumbers n order numbers = (v : ℕ) → v < n → In v order → entry_at numbers v ≡ spot v (filter (λ w. nat_lt w n) order)

end : (xs : List ℕ) → xs ++ [] ≡ xs
end [] = refl
end (x ∷ xs) = ap (λ z. x ∷ z) (end xs)

-- the nodes below n, with one node that is not
pub filter_skip : (n : ℕ) (order : List ℕ) (i d : ℕ) → i < length order → nat_lt (get_or order i d) n ≡ false → filter (λ w. nat_lt w n) (take (i + 1) order) ≡ filter (λ w. nat_lt w n) (take i order)
filter_skip n order i d l off =
    ap (filter (λ w. nat_lt w n)) (take_more order i d l) ∙ (filter_push (λ w. nat_lt w n) (take i order) (get_or order i d)
    ∙ (ap (λ b. filter (λ w. nat_lt w n) (take i order) ++ cond b (get_or order i d ∷ []) []) off ∙ end (filter (λ w. nat_lt w n) (take i order))))

-- and with one that is
pub filter_take : (n : ℕ) (order : List ℕ) (i d : ℕ) → i < length order → nat_lt (get_or order i d) n ≡ true → filter (λ w. nat_lt w n) (take (i + 1) order) ≡ filter (λ w. nat_lt w n) (take i order) ++ get_or order i d ∷ []
filter_take n order i d l on =
    ap (filter (λ w. nat_lt w n)) (take_more order i d l) ∙ (filter_push (λ w. nat_lt w n) (take i order) (get_or order i d)
    ∙ ap (λ b. filter (λ w. nat_lt w n) (take i order) ++ cond b (get_or order i d ∷ []) []) on)

-- a node that is not below n has no number
pub number_skip : (n : ℕ) (order numbers : List ℕ) (i d : ℕ) → i < length order → (nat_lt (get_or order i d) n ≡ false) → AreNumbers n (take i order) numbers → AreNumbers n (take (i + 1) order) numbers
number_skip n order numbers i d l off known v small h =
    let more : take (i + 1) order ≡ take i order ++ get_or order i d ∷ [] = take_more order i d l in
    let kept : filter (λ w. nat_lt w n) (take (i + 1) order) ≡ filter (λ w. nat_lt w n) (take i order) = filter_skip n order i d l off in
    elim (in_cases v (take i order) (get_or order i d ∷ []) (subst (In v) more h)) [
      | inl a ↦ known v small a ∙ ap (spot v) (sym kept)
      | inr a ↦ elim a [ inl b ↦ absurd b | inr b ↦ absurd (both_ways (nat_lt v n) (subst (λ z. nat_lt z n ≡ false) (sym b.0) off) (lt-ltb v n small)) ]
    ]

-- a node below n has the next
pub number_more : (n : ℕ) (order numbers : List ℕ) (i next : ℕ) → Distinct order → i < length order → nat_lt (get_or order i 0) n ≡ true → length numbers ≡ n → next ≡ length (filter (λ w. nat_lt w n) (take i order))
    → AreNumbers n (take i order) numbers → AreNumbers n (take (i + 1) order) (set numbers (get_or order i 0) next)
number_more n order numbers i next d l on size next_is known v small h =
    let x : ℕ = get_or order i 0 in
    let more : take (i + 1) order ≡ take i order ++ x ∷ [] = take_more order i 0 l in
    let longer : filter (λ w. nat_lt w n) (take (i + 1) order) ≡ filter (λ w. nat_lt w n) (take i order) ++ x ∷ [] = filter_take n order i 0 l on in
    let fresh : In x (filter (λ w. nat_lt w n) (take i order)) → ⊥ = λ s. next_new order i d l (in_filter (λ w. nat_lt w n) x (take i order) s).0 in
    let last : entry_at (set numbers x next) x ≡ spot x (filter (λ w. nat_lt w n) (take (i + 1) order)) =
    get_or-set_same numbers x next 0 (omega (arith, ltb-true x n on, size)) ∙ (next_is ∙ (sym (spot_last x (filter (λ w. nat_lt w n) (take i order)) fresh) ∙ ap (spot x) (sym longer))) in
    elim (cases_eq v x) [
      | inl same ↦ subst (λ z. entry_at (set numbers x next) z ≡ spot z (filter (λ w. nat_lt w n) (take (i + 1) order))) (sym same) last
      | inr other ↦ elim (in_cases v (take i order) (x ∷ []) (subst (In v) more h)) [
        | inl a ↦ get_or-set_other numbers x v next 0 other ∙ (known v small a ∙ (sym (spot_front v (filter (λ w. nat_lt w n) (take i order)) (x ∷ []) (in_kept (λ w. nat_lt w n) v (take i order) a (lt-ltb v n small))) ∙ ap (spot v) (sym longer)))
        | inr a ↦ elim a [ inl b ↦ absurd b | inr b ↦ absurd (other b.0) ]
      ]
    ]

-- so the next number is below the length
pub next_small : (n : ℕ) (order : List ℕ) (i : ℕ) → i < length order → length (filter (λ w. nat_lt w n) (take i order)) ≤ i
next_small n order i l = omega (arith, filter_le (λ w. nat_lt w n) (take i order), length-take i order)

-- with one node more
pub next_more : (n : ℕ) (order : List ℕ) (i next : ℕ) → i < length order → nat_lt (get_or order i 0) n ≡ true → next ≡ length (filter (λ w. nat_lt w n) (take i order)) → next + 1 ≡ length (filter (λ w. nat_lt w n) (take (i + 1) order))
next_more n order i next l on is = omega (arith, is, ap length (filter_take n order i 0 l on), length-append (filter (λ w. nat_lt w n) (take i order)) (get_or order i 0 ∷ []))

-- the neighbours on later ears, with one more
pub later_more : (g : Network) (ears : List ℕ) (m : ℕ → Bool) (third : List ℕ) (i x : ℕ) → length third ≡ i
    → ((v : ℕ) → v < i → m v ≡ false → (linked g v (entry_at third v) ≡ true) × (entry_at ears v < entry_at ears (entry_at third v)))
    → (m i ≡ false → (linked g i x ≡ true) × (entry_at ears i < entry_at ears x))
    → (v : ℕ) → v < i + 1 → m v ≡ false → (linked g v (entry_at (third ++ x ∷ []) v) ≡ true) × (entry_at ears v < entry_at ears (entry_at (third ++ x ∷ []) v))
later_more g ears m third i x size known here v small free = elim (cases_eq v i) [
  | inl same ↦ rw (get_or_push third x 0 v (size ∙ sym same)) (subst (λ z. (linked g z x ≡ true) × (entry_at ears z < entry_at ears x)) (sym same) (here (subst (λ z. m z ≡ false) same free)))
  | inr other ↦ rw (get_or_append_left third (x ∷ []) 0 v (omega (arith, size))) (known v (omega arith) free)
]
