-- Rows whose kinds do not fall are determined by the rows of each kind.
use Rattle.std.proofs.Common.{◌≡◌, ℕ, ◌<◌, ◌≤◌, ◌==◌, true, false, List, [], ◌∷◌, ◌++◌, length, Some, refl, sym, ap, ap₂, ◌∙◌, inl, inr, arith}
use Rattle.std.proofs.lemmas.Bool.{and_parts, cases_Bool, cases_order, eq-eqb, leb-true, ne_eqb}
use Rattle.rows.specs.Rows.{Row}
use Rattle.plan_form.specs.declared.kinds.Kind.{Kind}
use Rattle.plan_form.specs.Kinds.{row_kind, place}
use Rattle.plan_form.specs.Reading.{last_kind, AreNext}
use Rattle.plan_form.proofs.Joined.{heads, tails}
use Rattle.plan_form.proofs.Walking.{picked, last_kind-push}

-- each row is of a kind from place d on, and no kind comes after a later one
abbrev pub Rising : ℕ → ℕ → List Row → Type 0
Rising format d [] = Unit {0}
Rising format d (row ∷ rows) = (k : Kind) × (row_kind format row ≡ Some k) × (d ≤ place k) × Rising format (place k) rows

-- so are rows without a fault
rises : (format : ℕ) (before rows : List Row) (last : Kind) → last_kind format before ≡ Some last → AreNext format before rows → Rising format (place last) rows
rises format before [] last is fine = tt
rises format before (row ∷ rows) last is fine =
    let k = fine.0.kind in
    let follows = and_parts _ _ (rw is at fine.0.in_order) in
    (k, fine.0.is_of.is_kind, leb-true (place last) (place k) follows.1, rises format (before ++ row ∷ []) rows k (last_kind-push format before row ∙ fine.0.is_of.is_kind) fine.1)

-- from the first row on
pub fine_rises : (format : ℕ) (rows : List Row) → AreNext format [] rows → Rising format 0 rows
fine_rises format [] fine = tt
fine_rises format (row ∷ rows) fine = (fine.0.kind, fine.0.is_of.is_kind, omega arith, rises format (row ∷ []) rows fine.0.kind (last_kind-push format [] row ∙ fine.0.is_of.is_kind) fine.1)

-- a row is picked for its own kind
pub picked-own : (format : ℕ) (j k : Kind) (row : Row) (rows : List Row) → row_kind format row ≡ Some j → (place j == place k) ≡ true → picked format k (row ∷ rows) ≡ row ∷ picked format k rows
unfolding picked
picked-own format j k row rows is same = rw (is, same) refl

-- and for no other
picked-other : (format : ℕ) (j k : Kind) (row : Row) (rows : List Row) → row_kind format row ≡ Some j → (place j == place k) ≡ false → picked format k (row ∷ rows) ≡ picked format k rows
unfolding picked
picked-other format j k row rows is other = rw (is, other) refl

-- no row of an earlier kind comes
picked_before : (format : ℕ) (k : Kind) (d : ℕ) (rows : List Row) → place k < d → Rising format d rows → picked format k rows ≡ []
unfolding picked
picked_before format k d [] l up = refl
picked_before format k d (row ∷ rows) l up =
    picked-other format up.0 k row rows up.1 (ne_eqb (place up.0) (place k) (λ e. absurd (omega (arith, e, l, up.2))))
    ∙ picked_before format k (place up.0) rows (omega (arith, l, up.2)) up.3

-- of no rows none is picked
picked-nil : (format : ℕ) (k : Kind) → picked format k [] ≡ []
unfolding picked
picked-nil format k = refl

-- the first row is picked for its kind
present : (format : ℕ) (row : Row) (rows : List Row) (k : Kind) → row_kind format row ≡ Some k → picked format k (row ∷ rows) ≡ [] → ⊥
present format row rows k is none = omega (arith, ap (length {A = Row}) (sym (picked-own format k k row rows is (eq-eqb (place k) (place k) refl)) ∙ none))

-- rows in order are equal where the rows of each kind are
pub same_rows : (format d e : ℕ) (xs ys : List Row) → Rising format d xs → Rising format e ys → ((k : Kind) → picked format k xs ≡ picked format k ys) → xs ≡ ys
same_rows format d e [] [] hx hy same = refl
same_rows format d e [] (y ∷ ys) hx hy same = absurd (present format y ys hy.0 hy.1 (sym (same hy.0) ∙ picked-nil format hy.0))
same_rows format d e (x ∷ xs) [] hx hy same = absurd (present format x xs hx.0 hx.1 (same hx.0 ∙ picked-nil format hx.0))
same_rows format d e (x ∷ xs) (y ∷ ys) hx hy same = elim (cases_order (place hx.0) (place hy.0)) [
  | inl eq ↦
      let both : x ∷ picked format hx.0 xs ≡ y ∷ picked format hx.0 ys =
      sym (picked-own format hx.0 hx.0 x xs hx.1 (eq-eqb (place hx.0) (place hx.0) refl)) ∙ (same hx.0 ∙ picked-own format hy.0 hx.0 y ys hy.1 (eq-eqb (place hy.0) (place hx.0) (sym eq))) in
      ap₂ (λ r rs. r ∷ rs) (heads both) (same_rows format (place hx.0) (place hy.0) xs ys hx.3 hy.3 (λ k. rest format hx.0 hy.0 x y xs ys k hx.1 hy.1 eq (same k)))
  | inr (inl l) ↦ absurd (present format x xs hx.0 hx.1 (same hx.0 ∙ picked_before format hx.0 (place hy.0) (y ∷ ys) l (hy.0, hy.1, omega arith, hy.3)))
  | inr (inr l) ↦ absurd (present format y ys hy.0 hy.1 (sym (same hy.0) ∙ picked_before format hy.0 (place hx.0) (x ∷ xs) l (hx.0, hx.1, omega arith, hx.3)))
]
  where
    rest : (format : ℕ) (i j : Kind) (x y : Row) (xs ys : List Row) (k : Kind) → row_kind format x ≡ Some i → row_kind format y ≡ Some j → place i ≡ place j → picked format k (x ∷ xs) ≡ picked format k (y ∷ ys) → picked format k xs ≡ picked format k ys
    rest format i j x y xs ys k hx hy eq h = elim (cases_Bool (place i == place k)) [
      | inl b ↦ tails (sym (picked-own format i k x xs hx b) ∙ (h ∙ picked-own format j k y ys hy (rw (← eq) b)))
      | inr b ↦ sym (picked-other format i k x xs hx b) ∙ (h ∙ picked-other format j k y ys hy (rw (← eq) b))
    ]
