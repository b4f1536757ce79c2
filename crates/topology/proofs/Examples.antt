-- The definitions on a few small rows: what they name, and which fault they have.
use Rattle.std.proofs.Common.{◌≡◌, ℕ, List, [], ◌∷◌, refl, Some, true}
use Rattle.std.specs.Prelude.{codes}
use Rattle.std.specs.Str.{is_utf8, chars}
use Rattle.tomo_base.specs.Sets.{members}
use Rattle.rows.specs.Rows.{Row}
use lib.Utf8.{encode}
use Rattle.topology.specs.declared.faults.TopoFault.TheVariants.{Width, Name, Loop}
use Rattle.rows.specs.Blanks.{after_blanks, trimmed}
use Rattle.topology.specs.Names.{is_name}
use Rattle.topology.specs.Distinct.{distinct}
use Rattle.topology.specs.Topology.{names_of, node_of, links_of, topo_of}
use Rattle.topology.specs.Faults.{row_fault, fault_at}
use Rattle.topology.specs.Monitors.{monitors_of}

-- a row of two fields
abbrev pair : List ℕ → List ℕ → Row
pair a b = a ∷ b ∷ []

-- blanks go from both ends of a field, and stay inside it
ends_alone : trimmed (codes " \ta b ") ≡ codes "a b"
unfolding trimmed after_blanks
ends_alone = refl

-- a chain of three nodes: a link in both directions, a blank and a third field
abbrev chain : List Row
chain = pair (codes "b") (codes "a") ∷ pair (codes "a ") (codes "b") ∷ (codes "a" ∷ codes "c" ∷ codes "12" ∷ []) ∷ []

-- its nodes and links, each once, by first appearance
chain_is : topo_of chain ≡ record {
  names = codes "b" ∷ codes "a" ∷ codes "c" ∷ [];
  graph = record { nodes = 3; links = record { a = 0; b = 1 } ∷ record { a = 1; b = 2 } ∷ [] };
}
unfolding names_of links_of node_of distinct trimmed after_blanks
chain_is = refl

-- a row of one field is too narrow
narrow : row_fault [] (codes "a" ∷ []) 1 ≡ Some (Width 1)
unfolding row_fault
narrow = refl

-- a name of blanks alone is none, and that comes before the loop
no_name : row_fault [] (pair (codes " ") (codes "")) 1 ≡ Some (Name 1)
unfolding row_fault trimmed after_blanks is_name
no_name = refl

-- a loop under a header, at its place in the file
loop : fault_at true (pair (codes "from") (codes "from") ∷ pair (codes "a") (codes "b") ∷ pair (codes "b") (codes " b") ∷ []) 2 ≡ Some (Loop 3)
unfolding row_fault trimmed after_blanks is_name is_utf8 chars encode
loop = refl

-- two monitors, one of them named twice, in the order of their numbers
monitors : monitors_of (codes "a" ∷ codes "b" ∷ codes "c" ∷ []) ((codes "c" ∷ []) ∷ (codes "a" ∷ []) ∷ (codes "c " ∷ []) ∷ []) ≡ 0 ∷ 2 ∷ []
unfolding monitors_of trimmed after_blanks members
monitors = refl
