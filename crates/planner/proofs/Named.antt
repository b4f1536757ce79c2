-- Each path of a tied plan is named by a recipe.
use Rattle.std.proofs.Common.{◌≡◌, ℕ, ◌<◌, true, List, [], length, get_or, All, pos, refl, sym, ap, subst, ◌∙◌, inl, inr, arith}
use Rattle.std.proofs.lemmas.Bool.{cases_lt, eq-eqb}
use Rattle.std.proofs.lemmas.List.{get_or-map, length-map, get_or_past}
use Rattle.tomo_base.specs.declared.graph.Link.{Link}
use Rattle.tomo_base.specs.Sets.{has}
use Rattle.tomo_base.proofs.Ascending.{has-at}
use Rattle.simple_path.specs.declared.recipe.Term.{Term}
use Rattle.plan_form.specs.Building.{sum_at}
use Rattle.plan_form.specs.Tied.{terms_along, AreTied}
use Rattle.plan_form.proofs.Tied.{within_along}
use Rattle.planner.specs.Measures.{NamesPath}
use Rattle.plan_form.proofs.Merged.{numbers_of, sum_found}

-- the terms of a recipe name paths that a recipe names
own_named : (recipes : List (List Term)) (i : ℕ) → All (λ t. NamesPath recipes t.path) (get_or recipes i [])
own_named recipes i k d l = elim (cases_lt i (length recipes)) [
  | inl lt ↦
      let ts = get_or recipes i [] in
      let path : Term → ℕ = λ t. t.path in
      let at : get_or (numbers_of ts) k 0 ≡ (get_or ts k d).path = get_or-map path ts k d 0 l in
      (i, lt, subst (λ n. has (numbers_of ts) n ≡ true) at (has-at (numbers_of ts) k 0 (omega (arith, l, length-map ts path))))
  | inr ge ↦ (let none : length (get_or recipes i []) ≡ 0 = ap (λ ts. length ts) (get_or_past recipes i [] ge) in absurd (omega (arith, l, none)))
]

-- so the recipes along a path, which name it twice in sum, name it
pub tied_named : (links : List Link) (paths : List (List ℕ)) (recipes : List (List Term)) → AreTied links paths recipes → (k : ℕ) → k < length paths → NamesPath recipes k
tied_named links paths recipes tied k l =
    let ts = terms_along links recipes (get_or paths k []) in
    let d : Term = record { coef = pos 0; path = 0 } in
    let two : sum_at ts k ≡ pos 2 = rw (eq-eqb k k refl) at (tied k k l) in
    let found = sum_found ts k (λ none. zero_two (sym none ∙ two)) in
    subst (λ n. NamesPath recipes n) (found.2 d) (within_along (λ t. NamesPath recipes t.path) links recipes (own_named recipes) (get_or paths k []) found.0 d found.1)
  where
    zero_two : pos 0 ≡ pos 2 → ⊥
    zero_two e = cc e
