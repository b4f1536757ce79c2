-- What is measured can be made a plan: however paths are turned and their coefficients added up, each recipe stays short.
use Rattle.std.proofs.Common.{◌≡◌, ◌≢◌, ℕ, suc, ◌+◌, ◌<◌, ◌≤◌, ◌==◌, Bool, true, List, [], ◌∷◌, length, get_or, All, ℤ, pos, negsuc, ◌+ℤ◌, if◌then◌else◌, refl, ap, inl, inr, arith}
use Rattle.std.proofs.lemmas.Bool.{cases_Bool, cases_eq, eq-eqb}
use Rattle.std.proofs.lemmas.Int.{ints}
use Rattle.std.proofs.lemmas.Option.{slice_get-get_or}
use Rattle.tomo_base.specs.declared.graph.Link.{Link}
use Rattle.tomo_base.specs.Network.{Network}
use Rattle.tomo_base.specs.Sets.{one_if}
use Rattle.tomo_base.specs.Recipes.{gain_of, loss_of, weighted, IsRecipe}
use Rattle.simple_path.specs.declared.recipe.Term.{Term}
use Rattle.simple_path.specs.Terms.{weighted_by, path_terms}
use Rattle.plan_form.specs.Parts.{IsCoefficient}
use Rattle.plan_form.specs.Building.{renumbered, IsRewritten}
use Rattle.plan_form.specs.Buildable.{IsShort, IsBuildable}
use Rattle.plan_form.proofs.Built.{renumbered_weight, renumbered_within, good_recipe}
use Rattle.plan_form.proofs.Tied.{sum_alone}
use Rattle.stpc_paths.specs.Measures.{IsTreeRecipe, AreTreeMeasures}
use Rattle.plan_form.proofs.Merged.{merged_sum, merged_few}

-- as many terms with other path numbers
length-renumbered : (f : ℕ → ℕ) (ts : List Term) → length (renumbered f ts) ≡ length ts
length-renumbered f [] = refl
length-renumbered f (t ∷ ts) = ap suc (length-renumbered f ts)

-- one path weighs no more than all
few_alone : (w : ℤ → ℕ) (k : ℕ) (ts : List Term) → weighted_by w (λ j. one_if (j == k)) ts ≤ weighted_by w (λ j. 1) ts
unfolding weighted_by
few_alone w k [] = omega arith
few_alone w k (t ∷ ts) = elim (cases_Bool (t.path == k)) [ inl e ↦ rw e (omega (arith, few_alone w k ts)) | inr e ↦ rw e (omega (arith, few_alone w k ts)) ]

-- what gains and losses of at most four leave is a coefficient, or 0
coefficient : (z : ℤ) (a b : ℕ) → z +ℤ pos b ≡ pos a → a ≤ 4 → b ≤ 4 → z ≢ pos 0 → IsCoefficient z
coefficient (pos n) a b e up down some = (
  elim (cases_eq n 0) [ inl none ↦ absurd (some (ap pos none)) | inr ne ↦ omega (arith, ne) ],
  omega (arith, ints, e, up),
)
coefficient (negsuc n) a b e up down some = omega (arith, ints, e, down)

-- a recipe has a term, since its link is counted twice
recipe_some : (links : List Link) (i : ℕ) (paths : List (List ℕ)) (terms : List Term) → i < length links → IsRecipe links i (path_terms paths terms) → 0 < length terms
unfolding weighted
recipe_some links i paths (t ∷ terms) lt recipe = omega arith
recipe_some links i paths [] lt recipe =
    let d : Link = record { a = 0; b = 0 } in
    let none : 0 ≡ 0 + (if i == i then 2 else 0) = recipe i (get_or links i d) (slice_get-get_or links i d lt) in
    two (i == i) (eq-eqb i i refl) none
  where
    two : (c : Bool) → c ≡ true → 0 ≡ 0 + (if c then 2 else 0) → 0 < 0
    two c e h = omega (arith, rw e at h)

module _ (g : Network) (i : ℕ) (pool paths : List (List ℕ)) (ts new : List Term) (tree : IsTreeRecipe g pool i ts) (rewritten : IsRewritten pool paths ts new) where
  abbrev old : List Term
  old = renumbered rewritten.number ts

  -- the merged terms are at most seven
  pub stays_few : length new ≤ 7
  stays_few = omega (
    arith,
    merged_few (length paths) old new rewritten.merged (renumbered_within rewritten.number (length paths) ts (λ k d l. (rewritten.names k d l).0)),
    length-renumbered rewritten.number ts,
    tree.few,
  )

  -- some term is left, since the link is counted twice
  stays_some : i < length g.links → 0 < length new
  stays_some lt = recipe_some g.links i paths new lt (good_recipe g i pool paths ts new rewritten tree.recipe).recipe

  -- with small coefficients
  stays_small : All (λ t. IsCoefficient t.coef) new
  stays_small k d l =
      let p = (get_or new k d).path in
      let same = merged_sum old new k d rewritten.merged l in
      let weight = sum_alone old p in
      let up = renumbered_weight gain_of (λ j. 1) (λ j. 1) rewritten.number ts (λ j e h. refl) in
      let down = renumbered_weight loss_of (λ j. 1) (λ j. 1) rewritten.number ts (λ j e h. refl) in
      coefficient (get_or new k d).coef (weighted_by gain_of (λ j. one_if (j == p)) old) (weighted_by loss_of (λ j. one_if (j == p)) old) (rw same at weight)
      (omega (arith, few_alone gain_of p old, up, tree.few_gains)) (omega (arith, few_alone loss_of p old, down, tree.few_losses)) (rewritten.merged.some k d l)

  -- so they are short
  pub stays_short : i < length g.links → IsShort new
  stays_short lt = (stays_some lt, omega (arith, stays_few), stays_small)

-- so what is measured of all links can be made a plan
pub measured_buildable : (g : Network) (m : ℕ → Bool) (pool : List (List ℕ)) (recipes : List (List Term)) → AreTreeMeasures g m pool recipes → IsBuildable g m pool recipes
measured_buildable g m pool recipes s = record {
  paths = s.paths;
  one_each = s.one_recipe;
  arranges = record {
    names = λ i l. (s.each i l).names;
    short = λ paths i new sorted l rewritten. stays_short g i pool paths (get_or recipes i []) new (s.each i l) rewritten (omega (arith, l, s.one_recipe));
  };
}
