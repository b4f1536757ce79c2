-- What the sums of a round say: twice a link's delay is what its recipe gains less what it loses.
use Rattle.std.specs.Prelude.{ℕ, ◌≡◌, ◌≢◌, ◌+◌, ◌-◌, ◌*◌, ◌/◌, ◌%◌, ◌<◌, ◌==◌, not, nat_lt, if◌then◌else◌, List, [], map, length, All, Option, Some, None, slice_index_or}
use Rattle.tomo_base.specs.Limits.{delay_limit}
use Rattle.tomo_base.specs.Network.{Network}
use Rattle.tomo_base.specs.Walks.{IsWalk, NoneTwice}
use Rattle.tomo_base.specs.Identify.{sum_along, IsAssignment}
use Rattle.tomo_base.specs.Recipes.{gain_of, loss_of}
use Rattle.simple_path.specs.declared.recipe.Term.{Term}
use Rattle.simple_path.specs.Terms.{weighted_by}
use Rattle.link_solver.specs.declared.answer.Why.{Why}
use Rattle.link_solver.specs.declared.answer.Why.TheVariants.{Odd, Negative, Large}
use Rattle.link_solver.specs.declared.answer.Answer.{Answer}
use Rattle.link_solver.specs.declared.answer.Answer.TheVariants.{Solved, Link, Path}

-- the sum that is given for a path
abbrev pub given : List ℕ → ℕ → ℕ
given sums k = slice_index_or sums k 0

-- what a recipe gains, by its coefficients above zero
abbrev pub gain : List ℕ → List Term → ℕ
gain sums terms = weighted_by gain_of (given sums) terms

-- and what it loses, by those below: the doubled value is the gain less the loss
abbrev pub loss : List ℕ → List Term → ℕ
loss sums terms = weighted_by loss_of (given sums) terms

-- the first reason why a gain less a loss is not twice a delay
abbrev pub why_not : ℕ → ℕ → Option Why
why_not g l =
    if not (g % 2 == l % 2) then Some Odd
    else if nat_lt g l then Some Negative
    else if nat_lt (l + 2 * delay_limit) g then Some Large
    else None

-- why the link with this recipe has no delay, if it has none
abbrev pub refusal : List ℕ → List Term → Option Why
refusal sums terms = why_not (gain sums terms) (loss sums terms)

-- half of the doubled value
abbrev pub half_of : List ℕ → List Term → ℕ
half_of sums terms = (gain sums terms - loss sums terms) / 2

-- the halves of all links
abbrev pub halves : List ℕ → List (List Term) → List ℕ
halves sums recipes = map (half_of sums) recipes

-- each link has a delay
abbrev pub AllHaveDelays : List ℕ → List (List Term) → Type 0
AllHaveDelays sums recipes = All (λ terms. refusal sums terms ≡ None) recipes

-- a walk over different nodes
abbrev pub IsPath : Network → List ℕ → Type 0
IsPath g path = IsWalk g path × NoneTwice path

-- the delays add up to the given sum along the path with that number
abbrev pub HasSum : Network → List (List ℕ) → List ℕ → List ℕ → ℕ → Type 0
HasSum g paths sums d k = sum_along g d (slice_index_or paths k []) ≡ given sums k

-- along each path they do
abbrev pub HasSums : Network → List (List ℕ) → List ℕ → List ℕ → Type 0
HasSums g paths sums d = (k : ℕ) → k < length paths → HasSum g paths sums d k

-- the first link that has no delay, and why
pub record IsFirstLink (sums : List ℕ) (recipes : List (List Term)) (i : ℕ) (why : Why) : Type 0 where
  pub within : i < length recipes
  pub before : (k : ℕ) → k < i → refusal sums (slice_index_or recipes k []) ≡ None
  pub here : refusal sums (slice_index_or recipes i []) ≡ Some why

-- the first path along which the delays do not add up to the given sum
pub record IsFirstPath (g : Network) (paths : List (List ℕ)) (sums d : List ℕ) (i : ℕ) : Type 0 where
  pub within : i < length paths
  pub before : (k : ℕ) → k < i → HasSum g paths sums d k
  pub here : sum_along g d (slice_index_or paths i []) ≢ given sums i

-- the answer, and the delays where there is one assignment
abbrev pub AnswersRound : Network → List (List ℕ) → List (List Term) → List ℕ → List ℕ → Answer → Type 0
AnswersRound g paths recipes sums out Solved = AllHaveDelays sums recipes × HasSums g paths sums (halves sums recipes) × (out ≡ halves sums recipes)
AnswersRound g paths recipes sums out (Link i why) = IsFirstLink sums recipes i why
AnswersRound g paths recipes sums out (Path i) = AllHaveDelays sums recipes × IsFirstPath g paths sums (halves sums recipes) i

-- an assignment with the given sums, and the only one
pub record IsOnly (g : Network) (paths : List (List ℕ)) (sums d : List ℕ) : Type 0 where
  pub assignment : IsAssignment g d
  pub sums_along : HasSums g paths sums d
  pub only : (e : List ℕ) → IsAssignment g e → HasSums g paths sums e → e ≡ d

-- no assignment has the given sums
abbrev pub HasNone : Network → List (List ℕ) → List ℕ → Type 0
HasNone g paths sums = (e : List ℕ) → IsAssignment g e → HasSums g paths sums e → ⊥

-- what the answer means: the delays are the one assignment with the given sums, or none has them
abbrev pub Means : Network → List (List ℕ) → List ℕ → List ℕ → Answer → Type 0
Means g paths sums out Solved = IsOnly g paths sums out
Means g paths sums out (Link i why) = HasNone g paths sums
Means g paths sums out (Path i) = HasNone g paths sums

-- the answer names no path
abbrev pub NamesNoPath : Answer → Type 0
NamesNoPath Solved = Unit {0}
NamesNoPath (Link i why) = Unit {0}
NamesNoPath (Path i) = ⊥
