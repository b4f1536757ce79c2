-- What the steps on the way to a plan have made.
use Rattle.std.specs.Prelude.{ℕ, ◌≡◌, ◌<◌, ℤ, pos, ◌+ℤ◌, List, [], length, map, AllPairs, Contains, slice_index_or}
use Rattle.std.specs.List.Sorted.{IsStrictlySortedBy}
use Rattle.std.specs.Int.Signed.{◌≤ℤ◌}
use Rattle.simple_path.specs.declared.recipe.Term.{Term}
use Rattle.plan_form.specs.Building.{turned, sum_at}
use Rattle.plan_form.specs.Order.{path_cmp}
use Rattle.plan_form.specs.declared.sums.Tally.{Tally}

-- the path, turned, stands at that place
abbrev pub IsNumberOf : List (List ℕ) → List ℕ → ℕ → Type 0
IsNumberOf paths path k = (k < length paths) × (slice_index_or paths k [] ≡ turned path)

-- one such number for each path of the pool
pub record AreNumbers (pool paths : List (List ℕ)) (numbers : List ℕ) : Type 0 where
  pub one_each : length numbers ≡ length pool
  pub each : (j : ℕ) → j < length pool → IsNumberOf paths (slice_index_or pool j []) (slice_index_or numbers j 0)

-- the paths of the pool, turned, in order and each once; and the numbers of the pool's paths among them
pub record AreOrdered (pool paths : List (List ℕ)) (numbers : List ℕ) : Type 0 where
  pub ascending : IsStrictlySortedBy path_cmp paths
  pub kept : (q : List ℕ) → Contains (map turned pool) q → Contains paths q
  pub given : (q : List ℕ) → Contains paths q → Contains (map turned pool) q
  pub numbered : AreNumbers pool paths numbers

-- the number in the list
abbrev pub number_in : List ℕ → ℕ → ℕ
number_in numbers j = slice_index_or numbers j 0

-- a tally, as a term
abbrev pub term_of : Tally → Term
term_of s = record { coef = s.sum; path = s.path }

-- from -n to n
abbrev pub IsWithin : ℕ → ℤ → Type 0
IsWithin n z = (pos 0 ≤ℤ (z +ℤ pos n)) × (z ≤ℤ pos n)

-- the same sums, each path once and ascending
pub record AreSums (old new : List Term) : Type 0 where
  pub ascending : AllPairs (λ t u. t.path < u.path) new
  pub sums : (k : ℕ) → sum_at new k ≡ sum_at old k
