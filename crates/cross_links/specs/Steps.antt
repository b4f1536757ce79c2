-- What the functions that make a recipe say of flows, of ways and of pools.
use Rattle.std.specs.Prelude.{ℕ, ◌≡◌, ◌⊎◌, Bool, true, false, List, [], ◌∷◌, ◌++◌, length}
use Rattle.tomo_base.specs.Sets.{has}
use Rattle.unit_flow.specs.Flows.{Task, Routing, last_of, IsCut, IsWider, routing_task}

-- a flow of the task, without paths
pub record Begins (t : Task) (f : Routing) : Type 0 where
  pub task : routing_task f ≡ t
  pub bare : f.paths ≡ []

-- no set stops the flow with as many ways out as it has paths
abbrev pub CanGrow : Task → List (List ℕ) → Type 0
CanGrow t paths = (q : ℕ → Bool) → IsCut t (length paths) q → ⊥

-- a flow of the same task with one path more
pub record HasGrown (old new : Routing) : Type 0 where
  pub task : routing_task new ≡ routing_task old
  pub wider : IsWider (routing_task old) old.paths new.paths

-- the way ends off the path and is left as it is, or it ends on the path and is led on along it
abbrev pub IsLedOn : List ℕ → List ℕ → List ℕ → Type 0
IsLedOn way path whole =
    ((has path (last_of way) ≡ false) × (whole ≡ way))
    ⊎ ((front : List ℕ) × (rest : List ℕ) × (path ≡ front ++ last_of way ∷ rest) × (whole ≡ way ++ rest))

-- of two paths the second stands first where x lies on it
abbrev pub IsChoice : List ℕ → List ℕ → ℕ → List ℕ → List ℕ → Type 0
IsChoice b c x near far = ((has c x ≡ false) × (near ≡ b) × (far ≡ c)) ⊎ ((has c x ≡ true) × (near ≡ c) × (far ≡ b))

-- paths were added at the end
abbrev pub Longer : List (List ℕ) → List (List ℕ) → Type 0
Longer old new = (more : List (List ℕ)) × (new ≡ old ++ more)
