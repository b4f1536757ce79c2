-- Sums along paths, monitor paths, assignments, and what it means that paths or monitors identify every link.
use Rattle.std.specs.Prelude.{ℕ, ◌≡◌, ◌+◌, ◌≤◌, Bool, cond, List, [], ◌∷◌, length, All}
use Rattle.tomo_base.specs.Limits.{delay_limit}
use Rattle.tomo_base.specs.declared.graph.Link.{Link}
use Rattle.tomo_base.specs.Network.{Network, joins}
use Rattle.tomo_base.specs.Walks.{IsWalk, EndsIn, NoneTwice}

-- the sum of f over the steps of the walk that begins with a and goes on with the list
unfoldable pub sum_from : (ℕ → ℕ → ℕ) → ℕ → List ℕ → ℕ
sum_from f a [] = 0
sum_from f a (b ∷ p) = f a b + sum_from f b p

-- the sum of f over the steps of a path
abbrev pub sum_over : (ℕ → ℕ → ℕ) → List ℕ → ℕ
sum_over f [] = 0
sum_over f (a ∷ p) = sum_from f a p

-- the number of the link that joins a and b: links and numbers go side by side
unfoldable pub delay_between : List Link → List ℕ → ℕ → ℕ → ℕ
delay_between [] d a b = 0
delay_between (l ∷ ls) [] a b = 0
delay_between (l ∷ ls) (x ∷ d) a b = cond (joins l a b) x 0 + delay_between ls d a b

-- the sum of the assignment along a path
abbrev pub sum_along : Network → List ℕ → List ℕ → ℕ
sum_along g d path = sum_over (delay_between g.links d) path

-- a list of at least two different nodes, each linked to the next, whose first and last node are monitors
pub record IsMonitorPath (g : Network) (m : ℕ → Bool) (path : List ℕ) : Type 0 where
  pub two : 2 ≤ length path
  pub different : NoneTwice path
  pub linked : IsWalk g path
  pub ends : EndsIn m path

-- one whole number from 0 to the limit for each link
pub record IsAssignment (g : Network) (d : List ℕ) : Type 0 where
  pub one_each : length d ≡ length g.links
  pub in_range : All (λ x. x ≤ delay_limit) d

-- any two assignments with equal sums on each path of the list are equal
abbrev pub Identified : Network → List (List ℕ) → Type 0
Identified g paths = (d e : List ℕ) → IsAssignment g d → IsAssignment g e → All (λ p. sum_along g d p ≡ sum_along g e p) paths → d ≡ e

-- any two assignments with equal sums on each monitor path are equal
abbrev pub Identifies : Network → (ℕ → Bool) → Type 0
Identifies g m = (d e : List ℕ) → IsAssignment g d → IsAssignment g e →
    ((p : List ℕ) → IsMonitorPath g m p → sum_along g d p ≡ sum_along g e p) → d ≡ e
