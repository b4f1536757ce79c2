-- That a plan is good has one proof at most, so a value can carry it.
use Rattle.std.specs.Prelude.{ℕ, Bool, List, [], ◌∷◌}
use Rattle.std.proofs.Props.{props}
use Rattle.tomo_base.specs.Network.{Network}
use Rattle.tomo_base.specs.Walks.{StepsFrom, IsWalk, EndsIn, NoneTwice}
use Rattle.plan_form.specs.Parts.{PlanParts}
use Rattle.plan_form.specs.Good.{EndsAscend, IsGoodPlan}

-- no node stands twice
none_twice_prop : (p : List ℕ) → IsProp (NoneTwice p)
none_twice_prop [] = hlevel props
none_twice_prop (a ∷ p) = let rest = none_twice_prop p in hlevel (props, rest)

-- each node is linked to the one before it
steps_prop : (g : Network) (a : ℕ) (p : List ℕ) → IsProp (StepsFrom g a p)
steps_prop g a [] = hlevel props
steps_prop g a (b ∷ p) = let rest = steps_prop g b p in hlevel (props, rest)

-- a list is a walk
walk_prop : (g : Network) (p : List ℕ) → IsProp (IsWalk g p)
walk_prop g [] = hlevel props
walk_prop g (a ∷ p) = steps_prop g a p

-- its ends are in a set
ends_in_prop : (q : ℕ → Bool) (p : List ℕ) → IsProp (EndsIn q p)
ends_in_prop q [] = hlevel props
ends_in_prop q (a ∷ p) = hlevel props

-- its first node is less than its last
ends_ascend_prop : (p : List ℕ) → IsProp (EndsAscend p)
ends_ascend_prop [] = hlevel props
ends_ascend_prop (a ∷ p) = hlevel props

-- a plan is good
pub good_plan_prop : (given : List (List ℕ)) (g : Network) (p : PlanParts) → IsProp (IsGoodPlan given g p)
good_plan_prop given g p = hlevel (none_twice_prop, walk_prop, ends_in_prop, ends_ascend_prop, props)
