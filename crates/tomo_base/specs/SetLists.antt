-- Lists of node sets: all sets with a property, in lexicographic order.
use Rattle.std.specs.Prelude.{ℕ, ◌<◌, Bool, List, map, All, Contains, Vec}
use Rattle.std.specs.Global.{Global}
use Rattle.std.specs.declared.cmp.Ordering.{Ordering}
use Rattle.std.specs.Ordering.{nat_cmp}
use Rattle.std.specs.Cmp.Lexicographic.{slice_cmp}
use Rattle.std.specs.List.Sorted.{IsStrictlyIncreasing, IsStrictlySortedBy}
use Rattle.tomo_base.specs.Sets.{has, members}

-- the lexicographic order: the first number that differs decides, and a proper prefix is less
abbrev pub set_cmp : List ℕ → List ℕ → Ordering
set_cmp = slice_cmp nat_cmp

-- the lists that the vectors hold
abbrev pub lists_of : List (Vec ℕ Global) → List (List ℕ)
lists_of vs = map (λ (v : Vec ℕ Global). v.items) vs

-- the nodes of a set below n, in ascending order
pub record IsSetBelow (n : ℕ) (nodes : List ℕ) : Type 0 where
  pub ascending : IsStrictlyIncreasing nodes
  pub below : All (λ v. v < n) nodes

-- the sets of nodes below n that have the property, each as its ascending list
pub record AreSetsWith (n : ℕ) (P : (ℕ → Bool) → Type 0) (sets : List (List ℕ)) : Type 0 where
  pub nodes : All (IsSetBelow n) sets
  pub each : All (λ s. P (has s)) sets
  pub every : (q : ℕ → Bool) → P q → Contains sets (members n q)

-- these sets in lexicographic order, so each once
pub record AreAllSets (n : ℕ) (P : (ℕ → Bool) → Type 0) (sets : List (List ℕ)) : Type 0 where
  pub with_it : AreSetsWith n P sets
  pub in_order : IsStrictlySortedBy set_cmp sets
