-- The rows of the terms of a recipe.
use Rattle.std.proofs.Common.{◌≡◌, ℕ, ◌+◌, ◌<◌, ◌++◌, List, [], ◌∷◌, length, map, take, get_or, Result, Ok, Err, IfOk, refl, sym, ap, ◌∙◌}
use Rattle.std.proofs.lemmas.List.{map_more}
use Rattle.simple_path.specs.declared.recipe.Term.{Term}
use Rattle.simple_path.specs.Terms.{path_terms}
use Rattle.rows.specs.Rows.{RowList}
use Rattle.answers.specs.Refusals.{only}
use Rattle.answers.specs.Linking.{term_row}
use Rattle.answers.proofs.CrossTerms.{with_path}

-- the rows of the first i terms
abbrev pub term_rows : List (List ℕ) → List (List ℕ) → List Term → ℕ → RowList
term_rows names paths ts i = only (map (λ t. term_row names (with_path paths t)) (take i ts))

-- one more
pub term_rows_more : (names paths : List (List ℕ)) (ts : List Term) (i : ℕ) (e : Term) (old new : RowList) → i < length ts → old ≡ term_rows names paths ts i
    → new ≡ only (old.closed ++ term_row names (with_path paths (get_or ts i e)) ∷ []) → new ≡ term_rows names paths ts (i + 1)
term_rows_more names paths ts i e old new l before more =
    more ∙ rw before (ap only (sym (map_more (λ t. term_row names (with_path paths t)) ts i e l)))

-- all of them are those of the terms with their paths
pub term_rows_all : (names paths : List (List ℕ)) (ts : List Term) → map (λ t. term_row names (with_path paths t)) ts ≡ map (term_row names) (path_terms paths ts)
term_rows_all names paths [] = refl
term_rows_all names paths (t ∷ ts) = ap (λ rest. term_row names (with_path paths t) ∷ rest) (term_rows_all names paths ts)

-- what holds of an answer, by what held of it before
pub ok_map : {A E : Type 0} (r : Result A E) (P Q : A → Type 0) → ((a : A) → P a → Q a) → IfOk r P → IfOk r Q
ok_map (Ok a) P Q f h = f a h
ok_map (Err e) P Q f h = tt
