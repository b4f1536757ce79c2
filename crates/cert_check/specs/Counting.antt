-- How often links occur in the paths of a recipe, as it is counted.
use Rattle.std.specs.Prelude.{ℕ, ◌≡◌, ◌<◌, ◌≤◌, ◌==◌, ◌+◌, ◌*◌, ◌^◌, ◌⊎◌, ◌++◌, ◌∷◌, List, [], ℤ, Vec, length, All, Contains, slice_get, slice_index_or, Some}
use Rattle.std.specs.Global.{Global}
use Rattle.std.specs.List.{sum_by}
use Rattle.tomo_base.specs.declared.graph.Link.{Link}
use Rattle.tomo_base.specs.Search.{entry_at}
use Rattle.tomo_base.specs.Sets.{one_if}
use Rattle.tomo_base.specs.Recipes.{uses_of, gains, losses}
use Rattle.cert_check.specs.declared.counts.Counts.{Counts}

-- how often the number stands in the list
abbrev pub times : ℕ → List ℕ → ℕ
times k numbers = sum_by (λ j. one_if (k == j)) numbers

-- the numbers of the links that a path runs over, each as often as it does
pub record AreSteps (links : List Link) (path steps : List ℕ) : Type 0 where
  pub in_links : All (λ k. k < length links) steps
  pub short : length steps ≤ length path
  pub often : (k : ℕ) (l : Link) → slice_get links k ≡ Some l → times k steps ≡ uses_of l path

-- one list of steps for each path
pub record AreStepsOfAll (links : List Link) (paths : List (List ℕ)) (all : List (Vec ℕ Global)) : Type 0 where
  pub one_each : length all ≡ length paths
  pub each : (i : ℕ) (steps : Vec ℕ Global) → slice_get all i ≡ Some steps → AreSteps links (slice_index_or paths i []) steps.items

-- all numbers of the list are below n
abbrev pub AreBelow : ℕ → List ℕ → Type 0
AreBelow n numbers = All (λ k. k < n) numbers

-- as many steps, each four times, can be added to each count
abbrev pub HasRoomForSteps : List ℕ → List ℕ → Type 0
HasRoomForSteps steps counts = (k : ℕ) → entry_at counts k + 4 * length steps < 2 ^ 63

-- each step added its weight to the count of its link
abbrev pub IsRaisedBy : ℕ → List ℕ → List ℕ → List ℕ → Type 0
IsRaisedBy weight steps old new = (k : ℕ) → entry_at new k ≡ entry_at old k + weight * times k steps

-- two counts for each link; where a link is not in the list of those touched, both are 0
pub record HasCounts (links : List Link) (c : Counts) : Type 0 where
  pub gain_each : length c.gains.items ≡ length links
  pub loss_each : length c.losses.items ≡ length links
  pub in_links : All (λ k. k < length links) c.touched.items
  pub untouched : (k : ℕ) → Contains c.touched.items k ⊎ ((entry_at c.gains.items k ≡ 0) × (entry_at c.losses.items k ≡ 0))

-- for each link how often it occurs in the terms, counted with the coefficients above zero, and with those below
pub record IsCounted (links : List Link) (terms : List (ℤ × List ℕ)) (c : Counts) : Type 0 where
  pub has : HasCounts links c
  pub gained : (k : ℕ) (l : Link) → slice_get links k ≡ Some l → entry_at c.gains.items k ≡ gains l terms
  pub lost : (k : ℕ) (l : Link) → slice_get links k ≡ Some l → entry_at c.losses.items k ≡ losses l terms

-- the steps of a path are counted with the coefficient: one term more
abbrev pub CountsTerm : ℤ → List ℕ → Counts → Counts → Type 0
CountsTerm coef steps old new = (links : List Link) (terms : List (ℤ × List ℕ)) (path : List ℕ) → AreSteps links path steps → IsCounted links terms old →
    IsCounted links (terms ++ (coef, path) ∷ []) new
