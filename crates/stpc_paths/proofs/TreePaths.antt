-- The path of a node in a tree is found node by node, and is short.
use Rattle.std.proofs.Common.{◌≡◌, ℕ, ◌+◌, ◌<◌, ◌≤◌, true, false, List, [], ◌∷◌, ◌++◌, length, append_assoc, refl, sym, ap, subst, ◌∙◌, arith}
use Rattle.std.proofs.lemmas.Bool.{both_ways}
use Rattle.tomo_base.specs.Network.{Network, IsGraph}
use Rattle.tomo_base.specs.Walks.{StepsFrom, NoneTwice}
use Rattle.tomo_base.proofs.Paths.{walk_short}
use Rattle.indep_trees.specs.Trees.{Climbs, Trees, parent_in, rank_in}
use Rattle.stpc_paths.specs.Kept.{stops, IsForest, monitor_in}
use Rattle.stpc_paths.proofs.Climbing.{climb_one, climb_once, climb_steps}
use Rattle.stpc_paths.proofs.Trees.{climb_stops, forest, parent_below}

-- a walk over different nodes that begins with a node has fewer steps than there are nodes
steps_fewer : (g : Network) (a : ℕ) (p : List ℕ) → IsGraph g → a < g.nodes → StepsFrom g a p → NoneTwice (a ∷ p) → length p < g.nodes
steps_fewer g a [] graph lt steps once = omega (arith, lt)
steps_fewer g a (b ∷ p) graph lt steps once = omega (arith, walk_short g a b p graph steps once)

-- a tree path has fewer steps than there are nodes
pub climb_short : (t : Trees) (i v : ℕ) (p : List ℕ) → IsForest t → i < 3 → v < t.graph.nodes → Climbs (monitor_in t) (parent_in t i) v p → length p < t.graph.nodes
climb_short t i v p is l lt c =
    let m = stops t.graph (monitor_in t) in
    let up = climb_stops t.graph (monitor_in t) (rank_in t) (parent_in t) is.graph is.trees i v p l lt c in
    let f = forest t.graph (monitor_in t) (rank_in t) (parent_in t) is.graph is.trees in
    steps_fewer t.graph v p is.graph lt (climb_steps m (parent_in t i) t.graph (λ u free. f.joined i u l free) v p up) (climb_once m (parent_in t i) v p up)

-- after k steps of a tree path: the node that was reached, and what is left of the path
pub record ClimbsTo (t : Trees) (i from node k : ℕ) (old now : List ℕ) : Type 0 where
  pub whole : List ℕ
  pub rest : List ℕ
  pub path : Climbs (monitor_in t) (parent_in t i) from whole
  pub left : Climbs (monitor_in t) (parent_in t i) node rest
  pub below : node < t.graph.nodes
  pub short : length rest + k < t.graph.nodes
  pub same : now ++ node ∷ rest ≡ old ++ from ∷ whole

-- at first all of it
pub climb_none : (t : Trees) (i v : ℕ) (old : List ℕ) → IsForest t → i < 3 → v < t.graph.nodes → ClimbsTo t i v v 0 old old
climb_none t i v old is l lt =
    let p = is.trees.path i v l lt in
    record { whole = p.0; rest = p.0; path = p.1; left = p.1; below = lt; short = omega (arith, climb_short t i v p.0 is l lt p.1); same = refl }

-- a node more
pub climb_more : (t : Trees) (i from node k next : ℕ) (old now new : List ℕ) → IsForest t → i < 3 → monitor_in t node ≡ false → next ≡ parent_in t i node → new ≡ now ++ node ∷ [] → ClimbsTo t i from node k old now → ClimbsTo t i from next (k + 1) old new
climb_more t i from node k next old now new is l free goes grown c = on c.rest c.left c.short c.same
  where
    on : (rest : List ℕ) → Climbs (monitor_in t) (parent_in t i) node rest → length rest + k < t.graph.nodes → now ++ node ∷ rest ≡ old ++ from ∷ c.whole → ClimbsTo t i from next (k + 1) old new
    on [] left short same = absurd (both_ways (monitor_in t node) free left)
    on (w ∷ rest) left short same = record {
      whole = c.whole;
      rest = rest;
      path = c.path;
      left = subst (λ x. Climbs (monitor_in t) (parent_in t i) x rest) (left.1 ∙ sym goes) left.2;
      below = rw goes (parent_below t.graph (monitor_in t) (rank_in t) (parent_in t) is.graph is.trees i node l (c.below, free));
      short = omega (arith, short);
      same = rw (grown, goes, ← left.1) (append_assoc now (node ∷ []) (w ∷ rest) ∙ same);
    }

-- the whole path, at a monitor
pub climb_all : (t : Trees) (i from node k : ℕ) (old now new : List ℕ) → monitor_in t node ≡ true → new ≡ now ++ node ∷ [] → ClimbsTo t i from node k old now → (p : List ℕ) → Climbs (monitor_in t) (parent_in t i) from p → new ≡ old ++ from ∷ p
climb_all t i from node k old now new stops' grown c p path =
    let none : c.rest ≡ [] = climb_one (monitor_in t) (parent_in t i) node c.rest [] c.left stops' in
    let one : c.whole ≡ p = climb_one (monitor_in t) (parent_in t i) from c.whole p c.path path in
    grown ∙ (ap (λ r. now ++ node ∷ r) (sym none) ∙ (c.same ∙ ap (λ q. old ++ from ∷ q) one))

-- it ends
pub climb_ends : (t : Trees) (i from node k : ℕ) (old now : List ℕ) → t.graph.nodes ≤ k → ClimbsTo t i from node k old now → ⊥
climb_ends t i from node k old now le c = omega (arith, le, c.short)
