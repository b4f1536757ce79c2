-- A recipe whose paths are turned and renumbered, and whose coefficients are added up, is a recipe still.
use Rattle.std.proofs.Common.{◌≡◌, ℕ, zero, suc, ◌+◌, ◌*◌, ◌<◌, Bool, List, [], ◌∷◌, length, map, get_or, ℤ, pos, refl, sym, ap, ap₂, subst, ◌∙◌, inl, inr, arith, All, Contains, Vec, if◌then◌else◌, ◌==◌}
use Rattle.std.proofs.lemmas.List.Elements.{All-head, All-tail, All-map, All-contains, All-contains_itself}
use Rattle.tomo_base.specs.declared.graph.Link.{Link}
use Rattle.tomo_base.specs.Recipes.{gain_of, loss_of, uses_of, weighted, IsRecipe}
use Rattle.simple_path.specs.declared.recipe.Term.{Term}
use Rattle.std.specs.List.Sorted.{IsStrictlySortedBy}
use Rattle.std.specs.Global.{Global}
use Rattle.std.proofs.lemmas.Bool.{cases_lt}
use Rattle.tomo_base.specs.Network.{Network}
use Rattle.tomo_base.specs.Identify.{IsMonitorPath}
use Rattle.simple_path.specs.Terms.{path_terms, weighted_by}
use Rattle.plan_form.specs.Building.{turned, sum_at, renumbered, IsMerged, IsRewritten, IsBuilt}
use Rattle.plan_form.specs.Buildable.{IsShort, IsArrangeable}
use Rattle.plan_form.specs.Good.{EndsAscend, AreGoodPaths, IsGoodRecipe}
use Rattle.plan_form.specs.Order.{path_cmp}
use Rattle.plan_form.specs.Steps.{number_in, AreNumbers, AreOrdered}
use Rattle.tomo_base.specs.SetLists.{lists_of}
use Rattle.plan_form.proofs.Tallies.{sum_at-others, sum_at-place}
use Rattle.plan_form.proofs.Merging.{merged_weight}
use Rattle.plan_form.proofs.Turning.{uses_turned, path_turned, turned_ascends}

-- a sum over paths is a sum over their numbers
pub weighted_terms : (w : ℤ → ℕ) (f : List ℕ → ℕ) (paths : List (List ℕ)) (ts : List Term) → weighted w f (path_terms paths ts) ≡ weighted_by w (λ k. f (get_or paths k [])) ts
unfolding weighted weighted_by
weighted_terms w f paths [] = refl
weighted_terms w f paths (t ∷ ts) = ap (λ r. w t.coef * f (get_or paths t.path []) + r) (weighted_terms w f paths ts)

-- and one over new numbers, where those name paths of the same weight
pub renumbered_weight : (w : ℤ → ℕ) (f g : ℕ → ℕ) (number : ℕ → ℕ) (ts : List Term) → All (λ t. f (number t.path) ≡ g t.path) ts → weighted_by w f (renumbered number ts) ≡ weighted_by w g ts
unfolding weighted_by
renumbered_weight w f g number [] same = refl
renumbered_weight w f g number (t ∷ ts) same = ap₂ (λ a b. w t.coef * a + b) (All-head (λ (t : Term). f (number t.path) ≡ g t.path) t ts same) (renumbered_weight w f g number ts (All-tail (λ (t : Term). f (number t.path) ≡ g t.path) t ts same))

-- renumbered terms name paths below the bound of the numbers
pub renumbered_within : (number : ℕ → ℕ) (n : ℕ) (ts : List Term) → All (λ t. number t.path < n) ts → All (λ t. t.path < n) (renumbered number ts)
renumbered_within number n [] all k d lt = absurd (omega (arith, lt))
renumbered_within number n (t ∷ ts) all zero d lt = All-head (λ (t : Term). number t.path < n) t ts all
renumbered_within number n (t ∷ ts) all (suc k) d lt = renumbered_within number n ts (All-tail (λ (t : Term). number t.path < n) t ts all) k d (omega (arith, lt))

-- the new terms run over each link as often as the old ones, counted with the coefficients
pub recipe_kept : (links : List Link) (i : ℕ) (pool paths : List (List ℕ)) (number : ℕ → ℕ) (old new : List Term)
    → All (λ t. get_or paths (number t.path) [] ≡ turned (get_or pool t.path [])) old → All (λ t. number t.path < length paths) old → All (λ t. t.path < length paths) new
    → ((k : ℕ) → sum_at new k ≡ sum_at (renumbered number old) k) → IsRecipe links i (path_terms pool old) → IsRecipe links i (path_terms paths new)
recipe_kept links i pool paths number old new names in_old in_new sums recipe = λ k l at.
    let f : ℕ → ℕ = λ j. uses_of l (get_or paths j []) in
    let g : ℕ → ℕ = λ j. uses_of l (get_or pool j []) in
    let same : All (λ (t : Term). f (number t.path) ≡ g t.path) old = λ j d lt. ap (uses_of l) (names j d lt) ∙ uses_turned l (get_or pool (get_or old j d).path []) in
    let balance = merged_weight f (length paths) (renumbered number old) new (renumbered_within number (length paths) old in_old) in_new sums in
    let up = renumbered_weight gain_of f g number old same in
    let down = renumbered_weight loss_of f g number old same in
    let was = recipe k l at in
    let new_gains = weighted_terms gain_of (uses_of l) paths new in
    let new_losses = weighted_terms loss_of (uses_of l) paths new in
    let old_gains = weighted_terms gain_of (uses_of l) pool old in
    let old_losses = weighted_terms loss_of (uses_of l) pool old in
    settle (weighted gain_of (uses_of l) (path_terms paths new)) _ (weighted loss_of (uses_of l) (path_terms paths new)) _ (weighted gain_of (uses_of l) (path_terms pool old)) _ (weighted loss_of (uses_of l) (path_terms pool old)) _ _ _ (if k == i then 2 else 0) new_gains new_losses old_gains old_losses balance up down was
  where
    settle : (ng ng' nl nl' og og' ol ol' rg rl c : ℕ) → ng ≡ ng' → nl ≡ nl' → og ≡ og' → ol ≡ ol' → ng' + rl ≡ nl' + rg → rg ≡ og' → rl ≡ ol' → og ≡ ol + c → ng ≡ nl + c
    settle ng ng' nl nl' og og' ol ol' rg rl c a b e f h u d w = omega (arith, a, b, e, f, h, u, d, w)

-- ---- from the steps to the whole

-- as the steps tell it
pub ordered : (pool : List (List ℕ)) (before after : List (Vec ℕ Global)) (paths : List (List ℕ)) (numbers : List ℕ) → lists_of before ≡ map turned pool → paths ≡ lists_of after → IsStrictlySortedBy path_cmp (lists_of after)
    → ((q : List ℕ) → Contains (lists_of before) q → Contains (lists_of after) q) → ((q : List ℕ) → Contains (lists_of after) q → Contains (lists_of before) q) → AreNumbers pool (lists_of after) numbers → AreOrdered pool paths numbers
ordered pool before after paths numbers turns is up kept given are =
    subst (λ ps. AreOrdered pool ps numbers) (sym is) (record {
      ascending = up;
      kept = λ q h. kept q (rw turns h);
      given = λ q h. subst (λ ps. Contains ps q) turns (given q h);
      numbered = are;
    })

-- merged terms with the new numbers are the terms rewritten
is_rewritten : (pool paths : List (List ℕ)) (numbers : List ℕ) (old new : List Term) → AreNumbers pool paths numbers → All (λ t. t.path < length pool) old → IsMerged (renumbered (number_in numbers) old) new → IsRewritten pool paths old new
is_rewritten pool paths numbers old new are names merged = record {
  number = number_in numbers;
  names = λ k d l. are.each (get_or old k d).path (names k d l);
  merged = merged;
}

-- few and small coefficients are left
pub rewritten_short : (pool : List (List ℕ)) (recipes : List (List Term)) (paths : List (List ℕ)) (numbers : List ℕ) → IsArrangeable pool recipes → AreOrdered pool paths numbers
    → (i : ℕ) (new : List Term) → i < length recipes → IsMerged (renumbered (number_in numbers) (get_or recipes i [])) new → IsShort new
rewritten_short pool recipes paths numbers can are i new l merged = can.short paths i new are.ascending l (is_rewritten pool paths numbers (get_or recipes i []) new are.numbered (can.names i l) merged)

-- the paths and recipes are built as the plan's definition says
pub built : (pool : List (List ℕ)) (old : List (List Term)) (paths : List (List ℕ)) (numbers : List ℕ) (new : List (List Term)) → IsArrangeable pool old → AreOrdered pool paths numbers → length new ≡ length old
    → ((i : ℕ) → i < length old → IsMerged (renumbered (number_in numbers) (get_or old i [])) (get_or new i [])) → IsBuilt pool old paths new
built pool old paths numbers new can are one_each merged = record {
  ascending = are.ascending;
  members = λ q. (are.given q, are.kept q);
  one_each = one_each;
  recipes = λ i l. is_rewritten pool paths numbers (get_or old i []) (get_or new i []) are.numbered (can.names i l) (merged i l);
}

-- the paths are good
pub good_paths : (g : Network) (m : ℕ → Bool) (pool : List (List ℕ)) (old : List (List Term)) (paths : List (List ℕ)) (new : List (List Term)) → All (IsMonitorPath g m) pool → IsBuilt pool old paths new → AreGoodPaths g m paths
good_paths g m pool old paths new monitored are = record {
  each = all (IsMonitorPath g m) (λ k d l. path_turned g m (get_or pool k d) (monitored k d l));
  turned = all EndsAscend (λ k d l. turned_ascends g m (get_or pool k d) (monitored k d l));
  ascending = are.ascending;
}
  where
    all : (P : List ℕ → Type 0) → All (λ p. P (turned p)) pool → All P paths
    all P each k d l = All-contains P (map turned pool) (get_or paths k d) (All-map P turned pool each) ((are.members (get_or paths k d)).0 (All-contains_itself paths k d l))

-- merged terms have no other path than the terms they are merged of
merged_within : (n : ℕ) (old new : List Term) → IsMerged old new → All (λ t. t.path < n) old → All (λ t. t.path < n) new
merged_within n old new merged within k d l = elim (cases_lt (get_or new k d).path n) [
  | inl lt ↦ lt
  | inr le ↦
      let none : sum_at old (get_or new k d).path ≡ pos 0 = sum_at-others old (get_or new k d).path (λ j e m same. omega (arith, within j e m, same, le)) in
      absurd (merged.some k d l (sym (sum_at-place new k d merged.ascending l) ∙ (merged.sums (get_or new k d).path ∙ none)))
]

-- a recipe, rewritten, is a good one
pub good_recipe : (g : Network) (i : ℕ) (pool paths : List (List ℕ)) (old new : List Term) → IsRewritten pool paths old new → IsRecipe g.links i (path_terms pool old) → IsGoodRecipe g paths i new
good_recipe g i pool paths old new is recipe =
    let names : All (λ (t : Term). get_or paths (is.number t.path) [] ≡ turned (get_or pool t.path [])) old = λ k d l. (is.names k d l).1 in
    let in_old : All (λ (t : Term). is.number t.path < length paths) old = λ k d l. (is.names k d l).0 in
    let in_new : All (λ (t : Term). t.path < length paths) new = merged_within (length paths) (renumbered is.number old) new is.merged (renumbered_within is.number (length paths) old in_old) in
    record {
      names = in_new;
      ascending = is.merged.ascending;
      recipe = recipe_kept g.links i pool paths is.number old new names in_old in_new is.merged.sums recipe;
    }

-- the paths that its terms name are paths of the plan
pub rewritten_within : (pool paths : List (List ℕ)) (old new : List Term) → IsRewritten pool paths old new → All (λ t. t.path < length paths) new
rewritten_within pool paths old new is = merged_within (length paths) (renumbered is.number old) new is.merged (renumbered_within is.number (length paths) old (λ k d l. (is.names k d l).0))
