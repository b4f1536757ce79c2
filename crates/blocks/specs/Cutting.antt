-- A set that is cut at single nodes into sets that no node cuts: lists of sets of nodes, and what holds of them on the way.
use Rattle.std.specs.Prelude.{ℕ, ◌≡◌, ◌+◌, ◌*◌, ◌-◌, ◌≤◌, ◌⊎◌, Bool, true, false, List, [], ◌∷◌, IsTrue}
use Rattle.tomo_base.specs.Network.{Network, linked}
use Rattle.tomo_base.specs.Sets.{count, without, Within}
use Rattle.tomo_base.specs.Parting.{IsJoinedIn, IsJoinedWithoutOne}

-- P holds of each set
abbrev pub Each : ((ℕ → Bool) → Type 0) → List (ℕ → Bool) → Type 0
Each P [] = Unit {0}
Each P (x ∷ xs) = P x × Each P xs

-- P holds of some set
abbrev pub Some : ((ℕ → Bool) → Type 0) → List (ℕ → Bool) → Type 0
Some P [] = ⊥
Some P (x ∷ xs) = P x ⊎ Some P xs

-- R holds of each set and each later one
abbrev pub Pairs : ((ℕ → Bool) → (ℕ → Bool) → Type 0) → List (ℕ → Bool) → Type 0
Pairs R [] = Unit {0}
Pairs R (x ∷ xs) = Each (R x) xs × Pairs R xs

-- two nodes or more, connected without any one node
pub record BlockLike (N : Network) (n : ℕ) (W : ℕ → Bool) : Type 0 where
  pub two : 2 ≤ count n W
  pub firm : IsJoinedWithoutOne N W

-- every node outside B has one node of B: alike for linked nodes, and the only node of B that it can be linked to
pub record OneOwner (N : Network) (V B : ℕ → Bool) : Type 0 where
  pub own : ℕ → ℕ
  pub lands : (d : ℕ) → IsTrue (V d) → B d ≡ false → IsTrue (B (own d))
  pub same : (d e : ℕ) → IsTrue (V d) → B d ≡ false → IsTrue (V e) → B e ≡ false → linked N d e ≡ true → own d ≡ own e
  pub touch : (d x : ℕ) → IsTrue (V d) → B d ≡ false → IsTrue (B x) → linked N d x ≡ true → own d ≡ x

-- two sets that share at most one node
abbrev pub MeetOne : (ℕ → Bool) → (ℕ → Bool) → Type 0
MeetOne A B = (u v : ℕ) → IsTrue (A u) → IsTrue (B u) → IsTrue (A v) → IsTrue (B v) → u ≡ v

-- a set still to be cut
pub record Rough (N : Network) (n : ℕ) (V S : ℕ → Bool) : Type 0 where
  pub inside : Within S V
  pub two : 2 ≤ count n S
  pub firm : IsJoinedIn N S
  pub owner : OneOwner N V S

-- a set that no node cuts
pub record Ready (N : Network) (n : ℕ) (V S : ℕ → Bool) : Type 0 where
  pub inside : Within S V
  pub like : BlockLike N n S
  pub owner : OneOwner N V S

-- what is to be cut, and what is ready
pub record Cutting (N : Network) (n : ℕ) (V : ℕ → Bool) (todo out : List (ℕ → Bool)) : Type 0 where
  pub rough : Each (Rough N n V) todo
  pub ready : Each (Ready N n V) out
  pub cover : (T : ℕ → Bool) → BlockLike N n T → Within T V → Some (Within T) todo ⊎ Some (Within T) out
  pub apart : Pairs MeetOne todo
  pub apart_out : Pairs MeetOne out
  pub across : Each (λ A. Each (MeetOne A) out) todo

-- the nodes at which was cut: each cuts V, and one that is no such node cuts V only if it cuts one of the sets
pub record AreCuts (N : Network) (V : ℕ → Bool) (todo out : List (ℕ → Bool)) (cuts : ℕ → Bool) : Type 0 where
  pub sound : (v : ℕ) → IsTrue (cuts v) → IsJoinedIn N (without V v) → ⊥
  pub complete : (v : ℕ) → cuts v ≡ false → Each (λ S. IsJoinedIn N (without S v)) todo → Each (λ S. IsJoinedIn N (without S v)) out → IsJoinedIn N (without V v)

-- what is left to cut
abbrev pub weight : ℕ → List (ℕ → Bool) → ℕ
weight n [] = 0
weight n (S ∷ todo) = (2 * count n S - 3) + weight n todo
