-- The work of cutting a graph into its blocks.
use Rattle.std.specs.Prelude.{ℕ, ◌≡◌, ◌+◌, ◌*◌, ◌≤◌, Bool, List, ◌++◌, [], ◌∷◌, length, map, reverse, All, Vec}
use Rattle.std.specs.Global.{Global}
use Rattle.tomo_base.specs.Network.{Network, IsGraph}
use Rattle.tomo_base.specs.Sets.{has}
use Rattle.tomo_base.specs.Search.{mark_of}
use Rattle.tomo_base.specs.SetLists.{IsSetBelow}
use Rattle.tomo_base.specs.Parting.{with_one}
use Rattle.tomo_base.proofs.Reaching.{is_node}
use Rattle.blocks.specs.declared.block_list.Work.{Work}
use Rattle.blocks.specs.Cutting.{Cutting, AreCuts, weight}

-- the sets of these nodes, the last first
abbrev pub sets_in : List (Vec ℕ Global) → List (ℕ → Bool)
sets_in lists = map (λ (v : Vec ℕ Global). has v.items) (reverse lists)

-- what is left to cut, of the sets at hand and of the parts
abbrev pub weight_of : Network → List (ℕ → Bool) → Work → ℕ
weight_of g hand work = weight g.nodes (hand ++ sets_in work.todo.items)

-- the sets at hand and the parts are still to be cut, what was found is not, and the nodes at which was cut have their marks
pub record Working (g : Network) (hand : List (ℕ → Bool)) (work : Work) : Type 0 where
  pub graph : IsGraph g
  pub cutting : Cutting g g.nodes (is_node g) (hand ++ sets_in work.todo.items) (sets_in work.found.items)
  pub cuts : AreCuts g (is_node g) (hand ++ sets_in work.todo.items) (sets_in work.found.items) (mark_of work.cuts.items)
  pub marks : length work.cuts.items ≡ g.nodes
  pub todo_nodes : All (λ v. IsSetBelow g.nodes v.items) work.todo.items
  pub found_nodes : All (λ v. IsSetBelow g.nodes v.items) work.found.items
  pub few : length work.found.items + weight_of g hand work ≤ 2 * g.nodes

-- the list of parts got one more: the side with d
pub record IsPutOff (g : Network) (side : List ℕ) (d : ℕ) (old new : List (Vec ℕ Global)) : Type 0 where
  pub part : Vec ℕ Global
  pub pushed : new ≡ old ++ part ∷ []
  pub set : IsSetBelow g.nodes part.items
  pub nodes : (v : ℕ) → has part.items v ≡ with_one (has side) d v
