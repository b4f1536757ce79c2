-- Lists that are cut at places.
use Rattle.std.proofs.Common.{◌≡◌, sym, ap, refl, ℕ, ◌+◌, ◌-◌, ◌<◌, ◌≤◌, List, [], ◌∷◌, ◌++◌, length, take, drop, get_or, suc, zero, arith, length-append}
use Rattle.std.proofs.lemmas.Grind.{common_steps}
use Rattle.csv.specs.Records.{Rising, last_end}
use Rattle.csv.proofs.RecordFacts.{rising-last, rising-first, rising-end, rising-more, last-append}
use Rattle.rows.specs.Layout.{cut, view_of, IsLaidOut}
use Rattle.std.proofs.lemmas.List.{take_rest}

-- a part that lies in the front isn't changed by what follows
take-part : {A : Type 0} (xs more : List A) (start n : ℕ) → start ≤ length xs → start + n ≤ length xs → take n (drop start (xs ++ more)) ≡ take n (drop start xs)
take-part xs more start n a b = grind (arith, common_steps)

-- nor are parts that all lie in the front
pub cut-more : {A : Type 0} (start : ℕ) (ends : List ℕ) (xs more : List A) → Rising start ends (length xs) → cut start ends (xs ++ more) ≡ cut start ends xs
unfolding cut Rising
cut-more start [] xs more r = refl
cut-more start (end ∷ ends) xs more r =
    let le = rising-first end ends _ r.1 in
    let le2 : start ≤ length xs = omega (arith, r.0, le) in
    let le3 : start + (end - start) ≤ length xs = omega (arith, r.0, le) in
    rw (take-part xs more start (end - start) le2 le3, cut-more end ends xs more r.1) refl

-- there are as many parts as places
pub cut-length : {A : Type 0} (start : ℕ) (ends : List ℕ) (xs : List A) → length (cut start ends xs) ≡ length ends
unfolding cut
cut-length start [] xs = refl
cut-length start (end ∷ ends) xs = omega (arith, cut-length end ends xs)

-- one more place, at the end, cuts off what is left
pub cut-end : {A : Type 0} (start : ℕ) (ends : List ℕ) (xs : List A)
    → cut start (ends ++ length xs ∷ []) xs ≡ cut start ends xs ++ drop (last_end start ends) xs ∷ []
unfolding cut last_end
cut-end start [] xs = rw (take_rest xs start) refl
cut-end start (end ∷ ends) xs = ap (λ r. take (end - start) (drop start xs) ∷ r) (cut-end end ends xs)

-- what is left after a front
drop-front : (xs ys : List ℕ) → drop (length xs) (xs ++ ys) ≡ ys
drop-front xs ys = grind (arith, common_steps)

drop-kept : {A : Type 0} (xs ys : List A) (n : ℕ) → n ≤ length xs → drop n (xs ++ ys) ≡ drop n xs ++ ys
drop-kept xs ys n le = grind (arith, common_steps)

-- the bytes and the places after a field is added
pub field-view : (bytes ends row_ends more : List ℕ) → IsLaidOut bytes ends row_ends
    → view_of (bytes ++ more) (ends ++ length (bytes ++ more) ∷ []) row_ends ≡ record (view_of bytes ends row_ends) { current = (view_of bytes ends row_ends).current ++ more ∷ [] }
field-view bytes ends row_ends more is =
    let grown : Rising 0 ends (length (bytes ++ more)) = rising-more 0 ends (length bytes) _ is.fields (rw length-append (omega arith)) in
    let fields : cut 0 (ends ++ length (bytes ++ more) ∷ []) (bytes ++ more) ≡ cut 0 ends bytes ++ more ∷ [] =
    rw (cut-end 0 ends (bytes ++ more), cut-more 0 ends bytes more is.fields, is.whole) (ap (λ f. cut 0 ends bytes ++ f ∷ []) (drop-front bytes more)) in
    let rows : Rising 0 row_ends (length (cut 0 ends bytes)) = rw cut-length is.rows in
    let last : last_end 0 row_ends ≤ length (cut 0 ends bytes) = rising-last 0 row_ends _ rows in
    rw (fields, cut-more 0 row_ends (cut 0 ends bytes) (more ∷ []) rows, drop-kept (cut 0 ends bytes) (more ∷ []) (last_end 0 row_ends) last) refl

pub field-cut : (bytes ends row_ends more : List ℕ) → IsLaidOut bytes ends row_ends → IsLaidOut (bytes ++ more) (ends ++ length (bytes ++ more) ∷ []) row_ends
field-cut bytes ends row_ends more is = record {
  fields = rising-end 0 ends _ (rising-more 0 ends (length bytes) _ is.fields (rw length-append (omega arith)));
  whole = last-append 0 ends _;
  rows = rising-more 0 row_ends (length ends) _ is.rows (omega (arith, length-append ends (length (bytes ++ more) ∷ [])));
}

-- the places after a row is closed
pub close-view : (bytes ends row_ends : List ℕ) → IsLaidOut bytes ends row_ends
    → view_of bytes ends (row_ends ++ length ends ∷ []) ≡ record { closed = (view_of bytes ends row_ends).closed ++ (view_of bytes ends row_ends).current ∷ []; current = [] }
close-view bytes ends row_ends is =
    let count : length ends ≡ length (cut 0 ends bytes) = sym (cut-length 0 ends bytes) in
    let none : drop (length (cut 0 ends bytes)) (cut 0 ends bytes) ≡ [] = grind (arith, common_steps) in
    rw (last-append 0 row_ends (length ends), count) (rw (cut-end 0 row_ends (cut 0 ends bytes), none) refl)

pub close-cut : (bytes ends row_ends : List ℕ) → IsLaidOut bytes ends row_ends → IsLaidOut bytes ends (row_ends ++ length ends ∷ [])
close-cut bytes ends row_ends is = record { fields = is.fields; whole = is.whole; rows = rising-end 0 row_ends _ is.rows }

-- no bytes and no places
pub none-cut : IsLaidOut [] [] []
unfolding Rising last_end
none-cut = record { fields = omega arith; whole = refl; rows = omega arith }

pub none-view : view_of [] [] [] ≡ record { closed = []; current = [] }
unfolding cut last_end
none-view = refl

-- there are as many closed rows as places of rows
pub closed-length : (bytes ends row_ends : List ℕ) → length (view_of bytes ends row_ends).closed ≡ length row_ends
closed-length bytes ends row_ends = cut-length 0 row_ends _

-- where the part at a place starts
abbrev pub start_at : List ℕ → ℕ → ℕ
start_at ends i = get_or (0 ∷ ends) i 0

-- the start and the end of a part are in order, and no end is past the last
pub rising-at : (start : ℕ) (ends : List ℕ) (size i : ℕ) → Rising start ends size → i < length ends
    → (get_or (start ∷ ends) i 0 ≤ get_or ends i 0) × (get_or ends i 0 ≤ size)
unfolding Rising
rising-at start [] size i r lt = absurd (omega arith)
rising-at start (end ∷ ends) size zero r lt = (r.0, rising-first end ends size r.1)
rising-at start (end ∷ ends) size (suc i) r lt = rising-at end ends size i r.1 (omega arith)

-- the part at a place
pub cut-at : {A : Type 0} (start : ℕ) (ends : List ℕ) (xs : List A) (i : ℕ) → i < length ends
    → get_or (cut start ends xs) i [] ≡ take (get_or ends i 0 - get_or (start ∷ ends) i 0) (drop (get_or (start ∷ ends) i 0) xs)
unfolding cut
cut-at start [] xs i lt = absurd (omega arith)
cut-at start (end ∷ ends) xs zero lt = refl
cut-at start (end ∷ ends) xs (suc i) lt = cut-at end ends xs i (omega arith)

-- an element of a part, and how long a part is
part-at : {A : Type 0} (xs : List A) (m n k : ℕ) (d : A) → k < n → get_or (take n (drop m xs)) k d ≡ get_or xs (m + k) d
part-at xs m n k d lt = grind (arith, common_steps)

part-length : {A : Type 0} (xs : List A) (m n : ℕ) → m + n ≤ length xs → length (take n (drop m xs)) ≡ n
part-length xs m n le = grind (arith, common_steps)

-- how many fields a row has
pub row-width : (bytes ends row_ends : List ℕ) (i : ℕ) → IsLaidOut bytes ends row_ends → i < length row_ends
    → length (get_or (view_of bytes ends row_ends).closed i []) ≡ get_or row_ends i 0 - start_at row_ends i
row-width bytes ends row_ends i is lt =
    let (low, high) = rising-at 0 row_ends (length ends) i is.rows lt in
    let count = cut-length 0 ends bytes in
    rw (cut-at 0 row_ends (cut 0 ends bytes) i lt) (part-length (cut 0 ends bytes) (start_at row_ends i) _ (omega (arith, low, high, count)))

-- the bytes of a field of a row
pub row-field : (bytes ends row_ends : List ℕ) (i k : ℕ) → IsLaidOut bytes ends row_ends → i < length row_ends → start_at row_ends i + k < get_or row_ends i 0
    → get_or (get_or (view_of bytes ends row_ends).closed i []) k []
    ≡ take (get_or ends (start_at row_ends i + k) 0 - start_at ends (start_at row_ends i + k)) (drop (start_at ends (start_at row_ends i + k)) bytes)
row-field bytes ends row_ends i k is lt lt2 =
    let (low, high) = rising-at 0 row_ends (length ends) i is.rows lt in
    rw (cut-at 0 row_ends (cut 0 ends bytes) i lt, part-at (cut 0 ends bytes) (start_at row_ends i) (get_or row_ends i 0 - start_at row_ends i) k [] (omega arith))
    (cut-at 0 ends bytes (start_at row_ends i + k) (omega (arith, high)))

-- the place of a field is one of the places
pub place-below : (bytes ends row_ends : List ℕ) (i k : ℕ) → IsLaidOut bytes ends row_ends → i < length row_ends → start_at row_ends i + k < get_or row_ends i 0 → start_at row_ends i + k < length ends
place-below bytes ends row_ends i k is lt lt2 =
    let high = (rising-at 0 row_ends (length ends) i is.rows lt).1 in
    omega (arith, high)
