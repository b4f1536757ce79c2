-- What is told of a set by no more than two of its numbers.
use Rattle.std.specs.Prelude.{ℕ, ◌≡◌, ◌≢◌, ◌<◌, ◌≤◌, Bool, false, not, ◌&&◌, ◌||◌, ◌==◌, List}
use Rattle.std.specs.List.{list_any}
use Rattle.tomo_base.specs.declared.graph.Hop.{Hop}
use Rattle.tomo_base.specs.declared.met.Met.{Met}
use Rattle.tomo_base.specs.declared.met.Met.TheVariants.{None, One, Two, More}
use Rattle.tomo_base.specs.Sets.{count, has}

-- the set is empty, or has just these numbers, which are below n, or has at least three numbers below n
abbrev pub AreMet : ℕ → (ℕ → Bool) → Met → Type 0
AreMet n q None = (w : ℕ) → q w ≡ false
AreMet n q (One a) = (a < n) × ((w : ℕ) → q w ≡ (a == w))
AreMet n q (Two a b) = (a < n) × (b < n) × (a ≢ b) × ((w : ℕ) → q w ≡ ((a == w) || (b == w)))
AreMet n q More = 3 ≤ count n q

-- w is outside the set, and a hop leads to it
abbrev pub is_new : List ℕ → List Hop → ℕ → Bool
is_new p hops w = not (has p w) && list_any (λ h. h.node == w) hops
