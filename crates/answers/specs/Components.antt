-- The rows of the parts of a network: its cut vertices, its blocks and its three-blocks.
use Rattle.std.specs.Prelude.{ℕ, ◌≡◌, ◌<◌, ◌∷◌, ◌++◌, [], List, length, map, codes, decimal, slice_index_or, IsTrue, All, ◌↔◌}
use Rattle.tomo_base.specs.Network.{Network}
use Rattle.tomo_base.specs.Sets.{has}
use Rattle.tomo_base.specs.Search.{entry_at}
use Rattle.tomo_base.specs.Blocks.{IsCutVertex, IsBlock, IsThreeBlock}
use Rattle.tomo_base.specs.SetLists.{IsSetBelow, AreAllSets}
use Rattle.rows.specs.Rows.{Row}
use Rattle.topology.specs.Topology.{Topo}
use Rattle.plan_form.specs.PlanRows.{node_row, end_row, numbered}
use Rattle.plan_form.specs.Spelling.{numbers_text}
use Rattle.answers.specs.declared.status.Status.{Status}
use Rattle.answers.specs.declared.status.Status.TheVariants.{Done}

-- a cut vertex
abbrev pub cut_row : ℕ → Row
cut_row v = codes "cut" ∷ decimal v ∷ []

-- a block, with its number
abbrev pub block_row : ℕ → List ℕ → Row
block_row i nodes = codes "block" ∷ decimal i ∷ numbers_text nodes ∷ []

-- a three-block, with its number and that of its block
abbrev pub three_row : List ℕ → ℕ → List ℕ → Row
three_row homes i nodes = codes "three" ∷ decimal i ∷ decimal (entry_at homes i) ∷ numbers_text nodes ∷ []

-- all nodes of a set stand in a list
abbrev pub AreIn : List ℕ → List ℕ → Type 0
AreIn block nodes = All (λ v. IsTrue (has block v)) nodes

-- a number for each set: that of a block that has all its nodes
pub record AreHomes (blocks sets : List (List ℕ)) (homes : List ℕ) : Type 0 where
  pub count : length homes ≡ length sets
  pub block : (i : ℕ) → i < length sets → entry_at homes i < length blocks
  pub nodes : (i : ℕ) → i < length sets → AreIn (slice_index_or blocks (entry_at homes i) []) (slice_index_or sets i [])

-- cut vertices, blocks, three-blocks, and the number of the block of each three-block
pub record Parts : Type 0 where
  pub cuts : List ℕ
  pub blocks : List (List ℕ)
  pub three_blocks : List (List ℕ)
  pub homes : List ℕ

-- these are all parts of the graph, each kind in its order
pub record ArePartsOf (g : Network) (p : Parts) : Type 0 where
  pub ascending : IsSetBelow g.nodes p.cuts
  pub cuts : (v : ℕ) → IsTrue (has p.cuts v) ↔ IsCutVertex g v
  pub blocks : AreAllSets g.nodes (IsBlock g) p.blocks
  pub three_blocks : AreAllSets g.nodes (IsThreeBlock g) p.three_blocks
  pub homes : AreHomes p.blocks p.three_blocks p.homes

-- the names, the cut vertices, the blocks, the three-blocks, and a last row
abbrev pub part_rows : List (List ℕ) → Parts → List Row
part_rows names p =
    numbered node_row 0 names ++ (map cut_row p.cuts ++ (numbered block_row 0 p.blocks ++ (numbered (three_row p.homes) 0 p.three_blocks ++ end_row ∷ [])))

-- the parts of the network
abbrev pub TellsParts : Topo → Status → List Row → Type 0
TellsParts t status rows = (status ≡ Done) × (p : Parts) × ArePartsOf t.graph p × (rows ≡ part_rows t.names p)
