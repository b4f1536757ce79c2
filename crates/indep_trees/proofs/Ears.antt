-- The ears of an order one after the other, and one more of them put into the order of the nodes.
use Rattle.std.proofs.Common.{◌≡◌, ℕ, zero, suc, ◌+◌, ◌-◌, ◌<◌, ◌≤◌, List, [], ◌∷◌, ◌++◌, length, get_or, take, drop, reverse, Bool, true, false, ◌||◌, refl, sym, subst, ap, ◌∙◌, inl, inr, arith}
use Rattle.std.proofs.lemmas.Bool.{or_cases, or_left, or_right, cases_order}
use Rattle.std.proofs.lemmas.List.{length-reverse}
use Rattle.tomo_base.specs.Network.{Network, linked}
use Rattle.tomo_base.specs.Sets.{has}
use Rattle.tomo_base.specs.Search.{entry_at}
use Rattle.tomo_base.proofs.Ascending.{place_in}
use Rattle.ear_order.specs.Ears.{IsEar, with_ear, AreEarsAfter}
use Rattle.ear_order.specs.Turns.{between, ContinuesWith, IsEither}
use Rattle.ear_order.proofs.Places.{EarAt}
use Rattle.ear_order.proofs.Lists.{ear_at, has_between, between_has}
use Rattle.ear_order.proofs.Turned.{reverse_between, entry_reverse}
use Rattle.tomo_base.proofs.Lists.{same_test}
use Rattle.ear_order.proofs.Spots.{either_ear}
use Rattle.ear_order.proofs.Ordering.{after}
use Rattle.indep_trees.specs.Placing.{Sub, In, Distinct, Numbered, StandsBefore, IsWidened}
use Rattle.indep_trees.proofs.Sublists.{sub_nil, sub_trans, in_at}
use Rattle.indep_trees.proofs.Numbering.{numbered_more}
use Rattle.indep_trees.proofs.LaterEars.{leads, numbered_same}

-- the ear at a place is an ear for those before it, and the order goes on or ends with it
pub ear_in : (g : Network) (u : ℕ) (old : ℕ → Bool) (es : List (List ℕ)) → AreEarsAfter g u old es → (i : ℕ) → i < length es
    → IsEar g (after old (take i es)) (get_or es i []) × ContinuesWith g u (after old (take i es)) (get_or es i [])
unfolding AreEarsAfter after
ear_in g u old [] are i l = absurd (omega arith)
ear_in g u old (e ∷ es) are zero l = (are.0, elim are.1 [ inl more ↦ inl more.0 | inr last ↦ inr last.1 ])
ear_in g u old (e ∷ es) are (suc i) l = elim are.1 [
  | inl more ↦ ear_in g u (with_ear old e) es more.1 i (omega (arith, l))
  | inr last ↦ absurd (let none : length es ≡ 0 = ap length last.0 in omega (arith, none, l))
]

-- one ear more
pub after_more : (old : ℕ → Bool) (es : List (List ℕ)) (i : ℕ) → i < length es → after old (take (suc i) es) ≡ with_ear (after old (take i es)) (get_or es i [])
unfolding after
after_more old [] i l = absurd (omega arith)
after_more old (e ∷ es) zero l = refl
after_more old (e ∷ es) (suc i) l = after_more (with_ear old e) es i (omega (arith, l))

-- two places of a list
pub two_places : (l : List ℕ) (i j : ℕ) → i < j → j < length l → Sub (get_or l i 0 ∷ get_or l j 0 ∷ []) l
two_places [] i j lt h = absurd (omega arith)
two_places (x ∷ l) i zero lt h = absurd (omega arith)
two_places (x ∷ l) zero (suc j) lt h = inr (refl, in_at l j (omega (arith, h)))
two_places (x ∷ l) (suc i) (suc j) lt h = inl (two_places l i j (omega (arith, lt)) (omega (arith, h)))

-- a list at a place: the front, the node, the back
pub split_at : (l : List ℕ) (i : ℕ) → i < length l → (front : List ℕ) × (take (suc i) l ≡ front ++ get_or l i 0 ∷ []) × (l ≡ front ++ get_or l i 0 ∷ drop (suc i) l)
split_at [] i h = absurd (omega arith)
split_at (x ∷ l) zero h = ([], refl, refl)
split_at (x ∷ l) (suc i) h = let k = split_at l i (omega (arith, h)) in (x ∷ k.0, ap (λ z. x ∷ z) k.1, ap (λ z. x ∷ z) k.2)

-- a list of two or more: the first, those between, the last
pub three_parts : (e : List ℕ) → 2 ≤ length e → e ≡ get_or e 0 0 ∷ (take (length e - 2) (drop 1 e) ++ get_or e (length e - 1) 0 ∷ [])
three_parts [] h = absurd (omega arith)
three_parts (x ∷ p) h = by p (omega (arith, h))
  where
    last_of : (p : List ℕ) (k : ℕ) → length p ≡ suc k → p ≡ take k p ++ get_or p k 0 ∷ []
    last_of [] k e = absurd (omega arith)
    last_of (y ∷ []) zero e = refl
    last_of (y ∷ z ∷ p) zero e = absurd (omega arith)
    last_of (y ∷ []) (suc k) e = absurd (omega arith)
    last_of (y ∷ z ∷ p) (suc k) e = ap (λ q. y ∷ q) (last_of (z ∷ p) k (omega (arith, e)))

    by : (p : List ℕ) → 1 ≤ length p → x ∷ p ≡ x ∷ (take (length (x ∷ p) - 2) p ++ get_or (x ∷ p) (length (x ∷ p) - 1) 0 ∷ [])
    by [] h = absurd (omega arith)
    by (y ∷ p) h =
        let two : length (x ∷ y ∷ p) - 2 ≡ length p = omega arith in
        let one : length (x ∷ y ∷ p) - 1 ≡ suc (length p) = omega arith in
        rw (two, one) (ap (λ q. x ∷ q) (last_of (y ∷ p) (length p) (omega arith)))

-- what stands after x in order stands behind it
pub stands_behind : (x y : ℕ) (l l2 : List ℕ) → Distinct (l ++ x ∷ l2) → Sub (x ∷ y ∷ []) (l ++ x ∷ l2) → In y l2
stands_behind x y [] l2 d (inl s) = sub_trans (y ∷ []) (x ∷ y ∷ []) l2 (inl (inr (refl, tt))) s
stands_behind x y [] l2 d (inr s) = s.1
stands_behind x y (c ∷ l) l2 d (inl s) = stands_behind x y l l2 d.1 s
stands_behind x y (c ∷ l) l2 d (inr s) = absurd (d.0 (subst (λ z. In z (l ++ x ∷ l2)) s.0 (middle l)))
  where
    middle : (l : List ℕ) → In x (l ++ x ∷ l2)
    middle [] = inr (refl, sub_nil l2)
    middle (a ∷ l) = inl (middle l)

-- lists one after the other
pub append_assoc : (a b c : List ℕ) → (a ++ b) ++ c ≡ a ++ (b ++ c)
append_assoc [] b c = refl
append_assoc (x ∷ a) b c = ap (λ z. x ∷ z) (append_assoc a b c)

-- the nodes so far with an ear are those with what is between its ends
pub with_between : (g : Network) (D : ℕ → Bool) (e : List ℕ) → IsEar g D e → (v : ℕ) → (D v || between e v) ≡ with_ear D e v
with_between g D e ear v = same_test (D v || between e v) (D v || has e v)
    (λ h. elim (or_cases (D v) (between e v) h) [ inl d ↦ or_left (D v) (has e v) d | inr b ↦ or_right (D v) (has e v) (between_has e v b) ])
    (λ h. elim (or_cases (D v) (has e v) h) [
      | inl d ↦ or_left (D v) (between e v) d
      | inr b ↦ elim (has_between g D e ear v b) [ inl d ↦ or_left (D v) (between e v) d | inr i ↦ or_right (D v) (between e v) i ]
    ])

-- a list or the list turned round has the same nodes between its ends
pub either_between : (e old : List ℕ) → IsEither e old → 3 ≤ length old → (v : ℕ) → between e v ≡ between old v
either_between e old (inl same) long v = ap (λ z. between z v) same
either_between e old (inr turned) long v = ap (λ z. between z v) turned ∙ reverse_between old long v

-- one ear more, which begins with the one of its ends that stands before the other
pub one_more : (g : Network) (r t u : ℕ) (D : ℕ → Bool) (old e : List ℕ) (order wide : List ℕ) (low high ear low' high' ear' : ℕ → ℕ) (k : ℕ)
    → Numbered g r t u D order low high ear k → IsEar g D old → ContinuesWith g u D old → IsEither e old
    → StandsBefore order (entry_at e 0) (entry_at e (length e - 1)) → IsWidened order e wide
    → ((i : ℕ) → suc i < length e - 1 → low' (entry_at e (suc i)) ≡ entry_at e (i + 0))
    → ((i : ℕ) → suc i < length e - 1 → high' (entry_at e (suc i)) ≡ entry_at e (i + 2))
    → ((v : ℕ) → between e v ≡ true → ear' v ≡ k)
    → ((v : ℕ) → between e v ≡ false → low' v ≡ low v) → ((v : ℕ) → between e v ≡ false → high' v ≡ high v) → ((v : ℕ) → between e v ≡ false → ear' v ≡ ear v)
    → Numbered g r t u (with_ear D old) wide low' high' ear' (suc k)
one_more g r t u D old e order wide low high ear low' high' ear' k numbered is_old next either before widened low_set high_set ear_set low_kept high_kept ear_kept =
    numbered_same g r t u (λ v. D v || between e v) (with_ear D old) wide low' high' ear' (suc k)
    (λ v. ap (λ b. D v || b) (either_between e old either is_old.three v) ∙ with_between g D old is_old v)
    (cut cut_place.0 cut_place.1 cut_place.2)
  where
    is_ear : IsEar g D e
    is_ear = either_ear g D e old either is_old

    x : ℕ
    x = entry_at e 0

    y : ℕ
    y = entry_at e (length e - 1)

    mid : List ℕ
    mid = take (length e - 2) (drop 1 e)

    e_is : e ≡ x ∷ (mid ++ y ∷ [])
    e_is = three_parts e (omega (arith, is_ear.three))

    i : ℕ
    i = widened.0

    l2 : List ℕ
    l2 = drop (suc i) order

    cut_place : (front : List ℕ) × (take (suc i) order ≡ front ++ get_or order i 0 ∷ []) × (order ≡ front ++ get_or order i 0 ∷ drop (suc i) order)
    cut_place = split_at order i widened.1

    wide_is : (front : List ℕ) → take (suc i) order ≡ front ++ get_or order i 0 ∷ [] → wide ≡ front ++ x ∷ (mid ++ l2)
    wide_is front h =
        let one : i + 1 ≡ suc i = omega arith in
        widened.3 ∙ (ap (λ j. (take j order ++ mid) ++ drop j order) one ∙ (append_assoc (take (suc i) order) mid l2 ∙ (ap (λ z. z ++ (mid ++ l2)) (h ∙ ap (λ z. front ++ z ∷ []) widened.2) ∙ append_assoc front (x ∷ []) (mid ++ l2))))

    lead : (v : ℕ) → between e v ≡ true → (v ≡ u → ⊥) → (w : ℕ) × (linked g v w ≡ true) × ((D w || between e w) ≡ false)
    lead v b apart =
        let w = leads g u D old next v (sym (either_between e old either is_old.three v) ∙ b) apart in
        (w.0, w.1, ap (λ b. D w.0 || b) (either_between e old either is_old.three w.0) ∙ (with_between g D old is_old w.0 ∙ w.2))

    cut : (front : List ℕ) → take (suc i) order ≡ front ++ get_or order i 0 ∷ [] → order ≡ front ++ get_or order i 0 ∷ drop (suc i) order → Numbered g r t u (λ v. D v || between e v) wide low' high' ear' (suc k)
    cut front h order_is =
        let here : order ≡ front ++ x ∷ l2 = order_is ∙ ap (λ z. front ++ z ∷ l2) widened.2 in
        let known : Numbered g r t u D (front ++ x ∷ l2) low high ear k = subst (λ z. Numbered g r t u D z low high ear k) here numbered in
        let stands : Sub (x ∷ y ∷ []) order = subst (λ z. Sub (z ∷ y ∷ []) order) before.4 (subst (λ z. Sub (entry_at order before.0 ∷ z ∷ []) order) before.5 (two_places order before.0 before.1 before.2 before.3)) in
        let behind : In y l2 = stands_behind x y front l2 known.distinct (subst (λ z. Sub (x ∷ y ∷ []) z) here stands) in
        subst (λ z. Numbered g r t u (λ v. D v || between z v) wide low' high' ear' (suc k)) (sym e_is)
        (subst (λ z. Numbered g r t u (λ v. D v || between (x ∷ (mid ++ y ∷ [])) v) z low' high' ear' (suc k)) (sym (wide_is front h))
        (numbered_more g r t u D x mid y front l2 low high ear k known behind
        (subst (λ z. EarAt g D (entry_at z) (length z - 1)) e_is (ear_at g D e is_ear)) low' high' ear'
        (subst (λ z. (j : ℕ) → suc j < length z - 1 → low' (entry_at z (suc j)) ≡ entry_at z j) e_is (λ j l. low_set j l ∙ (let q : j + 0 ≡ j = omega arith in ap (entry_at e) q)))
        (subst (λ z. (j : ℕ) → suc j < length z - 1 → high' (entry_at z (suc j)) ≡ entry_at z (suc (suc j))) e_is (λ j l. high_set j l ∙ (let q : j + 2 ≡ suc (suc j) = omega arith in ap (entry_at e) q)))
        (subst (λ z. (v : ℕ) → between z v ≡ true → ear' v ≡ k) e_is ear_set)
        (subst (λ z. (v : ℕ) → between z v ≡ false → low' v ≡ low v) e_is low_kept)
        (subst (λ z. (v : ℕ) → between z v ≡ false → high' v ≡ high v) e_is high_kept)
        (subst (λ z. (v : ℕ) → between z v ≡ false → ear' v ≡ ear v) e_is ear_kept)
        (subst (λ z. (v : ℕ) → between z v ≡ true → (v ≡ u → ⊥) → (w : ℕ) × (linked g v w ≡ true) × ((D w || between z w) ≡ false)) e_is lead)))

-- where no place before that of x is one of y, another place of y comes after it
pub stands_first : (order : List ℕ) (i x y : ℕ) → entry_at order i ≡ x → (x ≡ y → ⊥) → ((k : ℕ) → k < i → entry_at order k ≡ y → ⊥) → has order y ≡ true → StandsBefore order x y
stands_first order i x y at differ none is_in =
    let j = place_in order y is_in in
    elim (cases_order i j.0) [
      | inl same ↦ absurd (differ (sym at ∙ (ap (entry_at order) same ∙ j.2)))
      | inr other ↦ elim other [ inl later ↦ (i, j.0, later, j.1, at, j.2) | inr earlier ↦ absurd (none j.0 earlier j.2) ]
    ]

-- an ear that is turned begins with its last node and ends with its first
pub turned_before : (order ear faced : List ℕ) → 1 ≤ length ear → faced ≡ reverse ear → StandsBefore order (entry_at ear (length ear - 1)) (entry_at ear 0) → StandsBefore order (entry_at faced 0) (entry_at faced (length faced - 1))
turned_before order ear faced long is before =
    let front : entry_at (reverse ear) 0 ≡ entry_at ear (length ear - 1) = entry_reverse ear 0 long ∙ (let k : length ear - 1 - 0 ≡ length ear - 1 = omega arith in ap (entry_at ear) k) in
    let back : entry_at (reverse ear) (length (reverse ear) - 1) ≡ entry_at ear 0 =
    (let k : length (reverse ear) - 1 ≡ length ear - 1 = omega (arith, length-reverse ear) in ap (entry_at (reverse ear)) k)
    ∙ (entry_reverse ear (length ear - 1) (omega (arith, long)) ∙ (let k : length ear - 1 - (length ear - 1) ≡ 0 = omega arith in ap (entry_at ear) k)) in
    rw (is, front, back) before
