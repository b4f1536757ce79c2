-- How a plan is made of paths and recipes: paths are turned, sorted and kept once, and the coefficients of one path are added up.
use Rattle.std.specs.Prelude.{ℕ, ◌≡◌, ◌≢◌, ◌<◌, ◌==◌, ◌↔◌, nat_lt, cond, List, [], ◌∷◌, reverse, map, length, ℤ, pos, ◌+ℤ◌, All, AllPairs, Contains, slice_index_or}
use Rattle.std.specs.List.Sorted.{IsStrictlySortedBy}
use Rattle.tomo_base.specs.Walks.{end_of}
use Rattle.simple_path.specs.declared.recipe.Term.{Term}
use Rattle.plan_form.specs.Order.{path_cmp}

-- the path with the lower of its ends first
abbrev pub turned : List ℕ → List ℕ
turned [] = []
turned (a ∷ p) = cond (nat_lt (end_of a p) a) (reverse (a ∷ p)) (a ∷ p)

-- the sum of the coefficients of the path with that number
unfoldable pub sum_at : List Term → ℕ → ℤ
sum_at [] k = pos 0
sum_at (t ∷ ts) k = cond (t.path == k) t.coef (pos 0) +ℤ sum_at ts k

-- the same sums, each path once and ascending, and no sum of 0
pub record IsMerged (old new : List Term) : Type 0 where
  pub ascending : AllPairs (λ t u. t.path < u.path) new
  pub some : All (λ t. t.coef ≢ pos 0) new
  pub sums : (k : ℕ) → sum_at new k ≡ sum_at old k

-- the terms with other path numbers
abbrev pub renumbered : (ℕ → ℕ) → List Term → List Term
renumbered f [] = []
renumbered f (t ∷ ts) = record { coef = t.coef; path = f t.path } ∷ renumbered f ts

-- the terms `new` name the paths of the plan that the terms `old` name in the pool, turned, with the coefficients of each added up
pub record IsRewritten (pool paths : List (List ℕ)) (old new : List Term) : Type 0 where
  pub number : ℕ → ℕ
  pub names : All (λ t. (number t.path < length paths) × (slice_index_or paths (number t.path) [] ≡ turned (slice_index_or pool t.path []))) old
  pub merged : IsMerged (renumbered number old) new

-- the paths of the pool, turned, in lexicographic order and each once; and the recipes rewritten for them
pub record IsBuilt (pool : List (List ℕ)) (old : List (List Term)) (paths : List (List ℕ)) (new : List (List Term)) : Type 0 where
  pub ascending : IsStrictlySortedBy path_cmp paths
  pub members : (q : List ℕ) → Contains paths q ↔ Contains (map turned pool) q
  pub one_each : length new ≡ length old
  pub recipes : (i : ℕ) → i < length old → IsRewritten pool paths (slice_index_or old i []) (slice_index_or new i [])
