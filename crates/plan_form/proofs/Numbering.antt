-- Rows with their numbers, one row more at a time.
use Rattle.std.proofs.Common.{◌≡◌, ◌∙◌, ℕ, suc, ◌+◌, ◌<◌, ◌≤◌, List, [], ◌∷◌, ◌++◌, length, take, get_or, refl, sym, ap, arith, append_assoc, length-append}
use Rattle.std.proofs.lemmas.List.{take_more, length-take-le, take_all, append-nil}
use Rattle.rows.specs.Rows.{Row, RowList}
use Rattle.plan_form.specs.PlanRows.{numbered, AddsRows, AreRowsOf, rows_in, row_count}
use Rattle.plan_form.specs.Parts.{PlanParts}

-- a row more at the end has the next number
pub numbered-push : {A : Type 0} (f : ℕ → A → Row) (i : ℕ) (xs : List A) (x : A) → numbered f i (xs ++ x ∷ []) ≡ numbered f i xs ++ f (i + length xs) x ∷ []
unfolding numbered
numbered-push f i [] x = (let e : i + 0 ≡ i = omega arith in rw e refl)
numbered-push f i (y ∷ ys) x =
    let e : (i + 1) + length ys ≡ i + suc (length ys) = omega arith in
    ap (λ rs. f i y ∷ rs) (numbered-push f (i + 1) ys x ∙ ap (λ n. numbered f (i + 1) ys ++ f n x ∷ []) e)

-- how many there are
pub length-numbered : {A : Type 0} (f : ℕ → A → Row) (i : ℕ) (xs : List A) → length (numbered f i xs) ≡ length xs
unfolding numbered
length-numbered f i [] = refl
length-numbered f i (x ∷ xs) = omega (arith, length-numbered f (i + 1) xs)

-- the rows of the first i items were added
pub record Added {A : Type 0} (f : ℕ → A → Row) (xs : List A) (old : RowList) (i : ℕ) (now : RowList) : Type 0 where
  pub closed : now.closed ≡ old.closed ++ numbered f 0 (take i xs)
  pub current : now.current ≡ []
  pub count : length now.closed ≡ length old.closed + i

-- none yet
pub added_none : {A : Type 0} (f : ℕ → A → Row) (xs : List A) (old : RowList) → old.current ≡ [] → Added f xs old 0 old
unfolding numbered
added_none f xs old none = record { closed = sym (append-nil old.closed); current = none; count = omega arith }

-- one more
pub added_more : {A : Type 0} (f : ℕ → A → Row) (xs : List A) (old now new : RowList) (i : ℕ) (d : A) → i < length xs → Added f xs old i now → AddsRows now new (f i (get_or xs i d) ∷ []) → Added f xs old (i + 1) new
added_more f xs old now new i d l added adds =
    let number : 0 + length (take i xs) ≡ i = omega (arith, length-take-le i xs (omega (arith, l))) in
    let more : numbered f 0 (take (i + 1) xs) ≡ numbered f 0 (take i xs) ++ f i (get_or xs i d) ∷ [] = rw (take_more xs i d l, numbered-push f 0 (take i xs) (get_or xs i d), number) refl in
    record {
      closed = adds.0 ∙ (ap (λ rs. rs ++ f i (get_or xs i d) ∷ []) added.closed ∙ (append_assoc old.closed (numbered f 0 (take i xs)) (f i (get_or xs i d) ∷ []) ∙ ap (λ rs. old.closed ++ rs) (sym more)));
      current = adds.1;
      count = omega (arith, ap length adds.0, length-append now.closed (f i (get_or xs i d) ∷ []), added.count);
    }

-- all
pub added_all : {A : Type 0} (f : ℕ → A → Row) (xs : List A) (old : RowList) (i : ℕ) (now : RowList) → length xs ≤ i → Added f xs old i now → AddsRows old now (numbered f 0 xs)
added_all f xs old i now l added = (added.closed ∙ ap (λ ys. old.closed ++ numbered f 0 ys) (take_all i xs l), added.current)

-- rows that were added after rows
pub added_both : (r s t : RowList) (xs ys : List Row) → AddsRows r s xs → AddsRows s t ys → AddsRows r t (xs ++ ys)
added_both r s t xs ys first second = (second.0 ∙ (ap (λ rs. rs ++ ys) first.0 ∙ append_assoc r.closed xs ys), second.1)

-- rows that were added to none are all
pub added_first : (r s : RowList) (rows : List Row) → r ≡ record { closed = []; current = [] } → AddsRows r s rows → s ≡ record { closed = rows; current = [] }
added_first r s rows none added =
    let closed : s.closed ≡ rows = added.0 ∙ ap (λ (l : RowList). l.closed ++ rows) none in
    λ i. record { closed = closed i; current = added.1 i }

-- the rows of a plan, in whatever format, are as many as it has parts, and two more
pub length-rows_in : (format : ℕ) (p : PlanParts) → length (rows_in format p) ≡ row_count p
length-rows_in format p =
    simp (length-append, length-numbered) (omega arith)

-- so many rows are those of the plan
pub length-AreRowsOf : (rows : List Row) (p : PlanParts) → AreRowsOf rows p → length rows ≡ row_count p
length-AreRowsOf rows p are = ap (length {A = Row}) are.rows_are ∙ length-rows_in are.format p
