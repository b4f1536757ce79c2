-- What the steps of the placement leave: the three-blocks of blocks are filled, and the blocks of at least three nodes.
use Rattle.std.specs.Prelude.{ℕ, ◌≡◌, cond, nat_lt, Bool, List, [], ◌∷◌, length, All, Contains}
use Rattle.tomo_base.specs.Network.{Network}
use Rattle.tomo_base.specs.Sets.{has, members}
use Rattle.tomo_base.specs.Blocks.{IsThreeBlock, IsThreeBlockOf}
use Rattle.tomo_base.specs.SetLists.{IsSetBelow}
use Rattle.mmp_place.specs.Rule.{filled_each}

-- from m to w, sets are filled that are three-blocks, among them each three-block of each of the blocks
pub record FillsThreeBlocks (g : Network) (blocks : List (List ℕ)) (m w : ℕ → Bool) : Type 0 where
  pub sets : List (List ℕ)
  pub nodes : All (IsSetBelow g.nodes) sets
  pub each : All (λ t. IsThreeBlock g (has t)) sets
  pub every : (b : List ℕ) → Contains blocks b → (t : ℕ → Bool) → IsThreeBlockOf g (has b) t → Contains sets (members g.nodes t)
  pub filled : (v : ℕ) → w v ≡ filled_each g sets m v

-- those of three nodes or more
abbrev pub large : List (List ℕ) → List (List ℕ)
large [] = []
large (x ∷ xs) = cond (nat_lt 2 (length x)) (x ∷ large xs) (large xs)
