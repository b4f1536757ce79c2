-- The recipe of one link as it would stand in a plan: no two of its paths have the same nodes, so however paths are turned and coefficients added up, each term stays as it is.
use Rattle.std.proofs.Common.{◌≡◌, ◌≢◌, ℕ, zero, suc, ◌<◌, ◌≤◌, Bool, List, [], ◌∷◌, length, map, get_or, All, ℤ, pos, refl, sym, ap, ◌∙◌, subst, inl, inr, arith}
use Rattle.std.specs.List.Sorted.{IsStrictlySortedBy}
use Rattle.std.proofs.lemmas.List.{length-map, get_or-map}
use Rattle.std.proofs.lemmas.List.Elements.{All-map}
use Rattle.std.proofs.lemmas.Map.Keys.{Less-from_sorted}
use Rattle.tomo_base.specs.Network.{Network}
use Rattle.tomo_base.specs.Sets.{has}
use Rattle.tomo_base.specs.Identify.{IsMonitorPath}
use Rattle.simple_path.specs.declared.recipe.Term.{Term}
use Rattle.simple_path.specs.Terms.{path_terms}
use Rattle.simple_path.proofs.Pools.{length-path_terms}
use Rattle.cross_links.specs.CrossRecipe.{IsCrossCoefficient, Differ, IsCrossRecipe, AddsRecipe}
use Rattle.plan_form.specs.Parts.{IsCoefficient}
use Rattle.plan_form.specs.Order.{path_cmp}
use Rattle.plan_form.specs.Good.{EndsAscend}
use Rattle.plan_form.specs.Building.{turned, renumbered, IsRewritten, IsBuilt}
use Rattle.plan_form.specs.Buildable.{IsShort, IsArrangeable}
use Rattle.plan_form.proofs.Built.{good_paths, good_recipe}
use Rattle.plan_form.proofs.Merged.{Different, merged_given, merged_kept, merged_few}
use Rattle.plan_form.proofs.Turning.{turned_keeps, has_back}
use Rattle.answers.specs.Linking.{IsLinkRecipe}

-- a turned path has the same nodes
has_turned : (p : List ℕ) (v : ℕ) → has (turned p) v ≡ has p v
has_turned p v = turned_keeps (λ q. has q v) (λ q. has_back q v) p

-- a term with another path number
abbrev pub moved : (ℕ → ℕ) → Term → Term
moved f t = record { coef = t.coef; path = f t.path }

-- terms with other path numbers, one by one
renumbered_each : (f : ℕ → ℕ) (ts : List Term) → renumbered f ts ≡ map (moved f) ts
renumbered_each f [] = refl
renumbered_each f (t ∷ ts) = ap (λ rest. moved f t ∷ rest) (renumbered_each f ts)

-- terms with their paths, one by one
pub path_terms_each : (pool : List (List ℕ)) (ts : List Term) → path_terms pool ts ≡ map (λ t. (t.coef, get_or pool t.path [])) ts
path_terms_each pool [] = refl
path_terms_each pool (t ∷ ts) = ap (λ rest. (t.coef, get_or pool t.path []) ∷ rest) (path_terms_each pool ts)

-- a term with its path
abbrev pub with_path : List (List ℕ) → Term → ℤ × List ℕ
with_path paths t = (t.coef, get_or paths t.path [])

-- 2, 1 and -1 are coefficients of a plan, and none is 0
cross_coefficient : (c : ℤ) → IsCrossCoefficient c → IsCoefficient c × (c ≢ pos 0)
cross_coefficient c (inl two) = rw two ((omega arith, omega arith), λ e. cc e)
cross_coefficient c (inr (inl one)) = rw one ((omega arith, omega arith), λ e. cc e)
cross_coefficient c (inr (inr minus)) = rw minus (omega arith, λ e. cc e)

module _ (g : Network) (m : ℕ → Bool) (i : ℕ) (pool paths : List (List ℕ)) (ts new : List Term) (cross : IsCrossRecipe g m i (path_terms pool ts)) (rewritten : IsRewritten pool paths ts new) where
  abbrev old : List Term
  old = renumbered rewritten.number ts

  no_term : Term
  no_term = record { coef = pos 0; path = 0 }

  -- there are as many terms with new numbers
  size : length old ≡ length ts
  size = ap (λ xs. length xs) (renumbered_each rewritten.number ts) ∙ length-map ts (moved rewritten.number)

  -- each has the new number of its path
  old_at : (k : ℕ) (d : Term) → k < length ts → get_or old k d ≡ moved rewritten.number (get_or ts k d)
  old_at k d l = ap (λ xs. get_or xs k d) (renumbered_each rewritten.number ts) ∙ get_or-map (moved rewritten.number) ts k d d l

  -- the path of a term
  path_at : (k : ℕ) (d : Term) (e : ℤ × List ℕ) → k < length ts → get_or (path_terms pool ts) k e ≡ ((get_or ts k d).coef, get_or pool (get_or ts k d).path [])
  path_at k d e l = ap (λ xs. get_or xs k e) (path_terms_each pool ts) ∙ get_or-map (λ (t : Term). (t.coef, get_or pool t.path [])) ts k d e l

  -- no two terms have one number, since their paths differ in a node, however they are turned
  different : Different old
  different a b d lt l same =
      let in_b : b < length ts = omega (arith, l, size) in
      let in_a : a < length ts = omega (arith, lt, in_b) in
      let p = get_or pool (get_or ts a d).path [] in
      let q = get_or pool (get_or ts b d).path [] in
      let e : ℤ × List ℕ = (pos 0, []) in
      let apart : Differ ((get_or ts a d).coef, p) ((get_or ts b d).coef, q) =
      subst (λ x. Differ x ((get_or ts b d).coef, q)) (path_at a d e in_a) (subst (λ y. Differ (get_or (path_terms pool ts) a e) y) (path_at b d e in_b) (cross.different a b e lt (omega (arith, in_b, length-path_terms pool ts)))) in
      let one : rewritten.number (get_or ts a d).path ≡ rewritten.number (get_or ts b d).path = sym (ap (λ (t : Term). t.path) (old_at a d in_a)) ∙ (same ∙ ap (λ (t : Term). t.path) (old_at b d in_b)) in
      let turns : turned p ≡ turned q = sym (rewritten.names a d in_a).1 ∙ (ap (λ k. get_or paths k []) one ∙ (rewritten.names b d in_b).1) in
      apart.1 (sym (has_turned p apart.0) ∙ (ap (λ r. has r apart.0) turns ∙ has_turned q apart.0))

  -- each coefficient is one of a cross recipe
  coefficient : (k : ℕ) (d : Term) → k < length ts → IsCrossCoefficient (get_or old k d).coef
  coefficient k d l =
      let e : ℤ × List ℕ = (pos 0, []) in
      rw (old_at k d l) (subst (λ (x : ℤ × List ℕ). IsCrossCoefficient x.0) (path_at k d e l) (cross.coefficients k e (omega (arith, l, length-path_terms pool ts))))

  -- each names a path
  below : All (λ t. t.path < length paths) old
  below k d l = let lt : k < length ts = omega (arith, l, size) in rw (old_at k d lt) (rewritten.names k d lt).0

  -- the merged terms are at most four
  pub stays_few : length new ≤ 4
  stays_few = omega (arith, merged_few (length paths) old new rewritten.merged below, cross.few, length-path_terms pool ts, size)

  -- and have small coefficients
  pub stays_short : IsShort new
  stays_short =
      let some : 1 ≤ length ts = omega (arith, cross.some, length-path_terms pool ts) in (
        (let left = merged_kept old new 0 no_term different rewritten.merged (omega (arith, some, size)) (cross_coefficient _ (coefficient 0 no_term (omega (arith, some)))).1 in omega (arith, left.1)),
        omega (arith, stays_few),
        λ k d l.
            let given = merged_given old new k d different rewritten.merged l in
            rw (← given.3) (cross_coefficient _ (coefficient given.0 d (omega (arith, given.1, size)))).0,
      )

module _ (g : Network) (m : ℕ → Bool) (i : ℕ) (pool : List (List ℕ)) (terms : List Term) (adds : AddsRecipe g m i [] pool terms) where
  -- the terms name paths of the pool
  pub names_pool : All (λ t. t.path < length pool) terms
  names_pool k d l = omega (arith, adds.in_order k d l, l, adds.one_each, ap (λ xs. length xs) adds.grown)

  -- so the recipe can be put in order
  pub arrangeable : IsArrangeable pool (terms ∷ [])
  arrangeable = record { names = names; short = short }
    where
      names : (j : ℕ) → j < 1 → All (λ t. t.path < length pool) (get_or (terms ∷ []) j [])
      names zero l = names_pool
      names (suc j) l = absurd (omega (arith, l))

      short : (paths : List (List ℕ)) (j : ℕ) (new : List Term) → IsStrictlySortedBy path_cmp paths → j < 1 → IsRewritten pool paths (get_or (terms ∷ []) j []) new → IsShort new
      short paths zero new sorted l rewritten = stays_short g m i pool paths terms new adds.recipe rewritten
      short paths (suc j) new sorted l rewritten = absurd (omega (arith, l))

  -- the pool has the measured paths alone
  pub paths_measured : All (IsMonitorPath g m) pool
  paths_measured = subst (All (IsMonitorPath g m)) (sym adds.grown) adds.paths

  -- and in order it is what is told of the link
  pub link_recipe : (paths : List (List ℕ)) (new : List (List Term)) → IsBuilt pool (terms ∷ []) paths new → IsLinkRecipe g m i (path_terms paths (get_or new 0 []))
  link_recipe paths new built =
      let ts = get_or new 0 [] in
      let rewritten = built.recipes 0 (omega arith) in
      let one = good_recipe g i pool paths terms ts rewritten adds.recipe.recipe in
      let good = good_paths g m pool (terms ∷ []) paths new paths_measured built in
      let each : path_terms paths ts ≡ map (with_path paths) ts = path_terms_each paths ts in
      let size : length (path_terms paths ts) ≡ length ts = length-path_terms paths ts in
      record {
        few = omega (arith, size, stays_few g m i pool paths terms ts adds.recipe rewritten);
        coefficients = rw each (All-map (λ (t : ℤ × List ℕ). IsCoefficient t.0) (with_path paths) ts (stays_short g m i pool paths terms ts adds.recipe rewritten).2);
        paths = rw each (All-map (λ (t : ℤ × List ℕ). IsMonitorPath g m t.1) (with_path paths) ts (λ k d lt. good.each (get_or ts k d).path [] (one.names k d lt)));
        turned = rw each (All-map (λ (t : ℤ × List ℕ). EndsAscend t.1) (with_path paths) ts (λ k d lt. good.turned (get_or ts k d).path [] (one.names k d lt)));
        ascending = rw each (λ a b e lt within.
            let d : Term = record { coef = pos 0; path = 0 } in
            let in_b : b < length ts = omega (arith, within, length-map ts (with_path paths)) in
            let in_a : a < length ts = omega (arith, lt, in_b) in
            rw (get_or-map (with_path paths) ts a d e in_a, get_or-map (with_path paths) ts b d e in_b)
            (Less-from_sorted path_cmp paths (get_or ts a d).path (get_or ts b d).path [] good.ascending (one.ascending a b d lt in_b) (one.names b d in_b)));
        recipe = one.recipe;
      }
