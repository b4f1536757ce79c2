-- Which bytes of a field stay when the blanks at its ends go.
use Rattle.std.proofs.Common.{◌≡◌, ℕ, ◌+◌, ◌-◌, ◌<◌, ◌≤◌, true, false, List, [], ◌∷◌, length, take, drop, reverse, get_or, refl, sym, ap, ◌∙◌, arith}
use Rattle.std.proofs.lemmas.List.{take_more, take_all, reverse-append, reverse-reverse, take_rest}
use Rattle.rows.specs.Blanks.{is_blank, after_blanks}

-- a blank at the start goes
pub first_goes : (bs : List ℕ) → 1 ≤ length bs → is_blank (get_or bs 0 0) ≡ true → after_blanks (take (length bs - 1) (drop 1 bs)) ≡ after_blanks bs
unfolding after_blanks
first_goes [] some blank = absurd (omega arith)
first_goes (b ∷ bs) some blank = rw (take_rest (b ∷ bs) 1, blank) refl

-- a byte that is no blank stays, and all after it
pub first_stays : (bs : List ℕ) → 1 ≤ length bs → is_blank (get_or bs 0 0) ≡ false → after_blanks bs ≡ bs
unfolding after_blanks
first_stays [] some byte = refl
first_stays (b ∷ bs) some byte = rw byte refl

-- no bytes, no blanks
pub none_stay : (bs : List ℕ) → length bs < 1 → after_blanks bs ≡ bs
unfolding after_blanks
none_stay [] none = refl
none_stay (b ∷ bs) none = absurd (omega arith)

-- a field by its last byte
by_last : (bs : List ℕ) → 1 ≤ length bs → reverse bs ≡ get_or bs (length bs - 1) 0 ∷ reverse (take (length bs - 1) bs)
by_last bs some =
    let last : length bs - 1 < length bs = omega arith in
    let all : length bs ≤ length bs - 1 + 1 = omega arith in
    ap reverse (sym (take_all (length bs - 1 + 1) bs all) ∙ take_more bs (length bs - 1) 0 last) ∙ reverse-append (take (length bs - 1) bs) (get_or bs (length bs - 1) 0 ∷ [])

-- a blank at the end goes
pub last_goes : (bs : List ℕ) → 1 ≤ length bs → is_blank (get_or bs (length bs - 1) 0) ≡ true → after_blanks (reverse (take (length bs - 1) bs)) ≡ after_blanks (reverse bs)
unfolding after_blanks
last_goes bs some blank = rw (by_last bs some, blank) refl

-- a byte that is no blank stays, and all before it
pub last_stays : (bs : List ℕ) → 1 ≤ length bs → is_blank (get_or bs (length bs - 1) 0) ≡ false → reverse (after_blanks (reverse bs)) ≡ bs
unfolding after_blanks
last_stays bs some byte =
    let kept : after_blanks (reverse bs) ≡ reverse bs = rw (by_last bs some, byte) refl in
    ap reverse kept ∙ reverse-reverse bs

-- no bytes, no blanks
pub none_stay_last : (bs : List ℕ) → length bs < 1 → reverse (after_blanks (reverse bs)) ≡ bs
unfolding after_blanks
none_stay_last [] none = refl
none_stay_last (b ∷ bs) none = absurd (omega arith)
