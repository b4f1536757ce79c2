-- Independent trees are a forest in which tree paths stop at monitors, and at what is no node.
use Rattle.std.proofs.Common.{◌≡◌, ℕ, ◌<◌, ◌≤◌, ◌||◌, Bool, true, false, not, nat_lt, List, [], ◌∷◌, sym, subst, ◌∙◌, inl, inr, arith}
use Rattle.std.proofs.lemmas.Bool.{both_ways, or_parts, cases_lt, lt-ltb, le-ltb, ltb-true, not-false}
use Rattle.tomo_base.specs.Network.{Network, IsGraph}
use Rattle.tomo_base.specs.Sets.{has}
use Rattle.tomo_base.specs.Walks.{StepsFrom, end_of}
use Rattle.tomo_base.specs.Identify.{IsMonitorPath}
use Rattle.tomo_base.proofs.Links.{linked_below}
use Rattle.tomo_base.proofs.Members.{has_later}
use Rattle.indep_trees.specs.Trees.{Climbs, IsFree, AreIndependent}
use Rattle.stpc_paths.specs.Kept.{stops}
use Rattle.stpc_paths.proofs.Climbing.{climb_once, climb_same}
use Rattle.stpc_paths.proofs.Forests.{Forest}

-- at a node just where it is a monitor
pub stops_node : (g : Network) (m : ℕ → Bool) (v : ℕ) → v < g.nodes → stops g m v ≡ m v
stops_node g m v l = rw (lt-ltb v g.nodes l) (plain (m v))
  where
    plain : (b : Bool) → (b || false) ≡ b
    plain b = grind arith

-- past the nodes everywhere
pub stops_past : (g : Network) (m : ℕ → Bool) (v : ℕ) → g.nodes ≤ v → stops g m v ≡ true
stops_past g m v l = rw (le-ltb v g.nodes l) (whole (m v))
  where
    whole : (b : Bool) → (b || true) ≡ true
    whole b = grind arith

-- where it goes on there is a node that is no monitor
pub goes_on : (g : Network) (m : ℕ → Bool) (v : ℕ) → stops g m v ≡ false → IsFree g m v
goes_on g m v free = let parts = or_parts (m v) (not (nat_lt v g.nodes)) free in (ltb-true v g.nodes (not-false (nat_lt v g.nodes) parts.1), parts.0)

-- and the other way round
pub goes_from : (g : Network) (m : ℕ → Bool) (v : ℕ) → IsFree g m v → stops g m v ≡ false
goes_from g m v free = stops_node g m v free.0 ∙ free.1

module _ (g : Network) (m : ℕ → Bool) (number : ℕ → ℕ) (parent : ℕ → ℕ → ℕ) (graph : IsGraph g) (trees : AreIndependent g m number parent) where
  -- a parent is a node
  pub parent_below : (i v : ℕ) → i < 3 → IsFree g m v → parent i v < g.nodes
  parent_below i v l free = (linked_below g.nodes g.links v (parent i v) graph (trees.linked i v l free)).1

  -- the path of a node is one that stops there
  pub climb_stops : (i v : ℕ) (p : List ℕ) → i < 3 → v < g.nodes → Climbs m (parent i) v p → Climbs (stops g m) (parent i) v p
  climb_stops i v p l lt c = climb_same m (stops g m) (parent i) (λ u. u < g.nodes) (stops_node g m) (λ u free below. parent_below i u l (below, free)) v p lt c

  -- the path of each number in each tree
  trunk_of : (i v : ℕ) → (p : List ℕ) × (i < 3 → Climbs (stops g m) (parent i) v p) × (i < 3 → v < g.nodes → Climbs m (parent i) v p)
  trunk_of i v = elim (cases_lt v g.nodes) [
    | inl lt ↦ elim (cases_lt i 3) [
      | inl l ↦ (let k = trees.path i v l lt in (k.0, (λ h. climb_stops i v k.0 h lt k.1), (λ h h'. k.1)))
      | inr ge ↦ ([], (λ l. absurd (omega (arith, l, ge))), (λ l h. absurd (omega (arith, l, ge))))
    ]
    | inr ge ↦ ([], (λ l. stops_past g m v ge), (λ l h. absurd (omega (arith, h, ge))))
  ]

  -- a forest
  pub forest : Forest g (stops g m) number parent
  unfolding trunk_of
  forest = record {
    trunk = λ i v. (trunk_of i v).0;
    climbs = λ i v l. (trunk_of i v).1 l;
    joined = λ i v l free. trees.linked i v l (goes_on g m v free);
    apart = λ i j v l h ne free z in_i in_j.
        let is = goes_on g m v free in
        let c = (trunk_of i v).2 l is.0 in
        let d = (trunk_of j v).2 h is.0 in
        let same : z ≡ v = trees.share i j v z (trunk_of i v).0 (trunk_of j v).0 l h ne is c d (has_later v (trunk_of i v).0 z in_i) (has_later v (trunk_of j v).0 z in_j) in
        both_ways (has (trunk_of i v).0 v) (climb_once m (parent i) v (trunk_of i v).0 c).0 (subst (λ x. has (trunk_of i v).0 x ≡ true) same in_i);
    falls = λ v free. trees.lower v (goes_on g m v free);
    rises = λ v free. trees.higher v (goes_on g m v free);
  }

-- the last node of a walk of one step or more is a node
last_below : (g : Network) (a b : ℕ) (p : List ℕ) → IsGraph g → StepsFrom g a (b ∷ p) → end_of b p < g.nodes
last_below g a b [] graph steps = (linked_below g.nodes g.links a b graph steps.0).1
last_below g a b (c ∷ p) graph steps = last_below g b c p graph steps.1

-- a path between nodes where tree paths stop is one between monitors
pub monitor_path : (g : Network) (m : ℕ → Bool) (p : List ℕ) → IsGraph g → IsMonitorPath g (stops g m) p → IsMonitorPath g m p
monitor_path g m [] graph h = absurd (omega (arith, h.two))
monitor_path g m (a ∷ []) graph h = absurd (omega (arith, h.two))
monitor_path g m (a ∷ b ∷ p) graph h = record {
  two = h.two;
  different = h.different;
  linked = h.linked;
  ends = (
    sym (stops_node g m a (linked_below g.nodes g.links a b graph h.linked.0).0) ∙ h.ends.0,
    sym (stops_node g m (end_of b p) (last_below g a b p graph h.linked)) ∙ h.ends.1,
  );
}

-- the paths of the forest are the tree paths
pub trunk_path : (g : Network) (m : ℕ → Bool) (number : ℕ → ℕ) (parent : ℕ → ℕ → ℕ) (graph : IsGraph g) (trees : AreIndependent g m number parent) (i v : ℕ) → i < 3 → v < g.nodes → Climbs m (parent i) v ((forest g m number parent graph trees).trunk i v)
unfolding forest trunk_of
trunk_path g m number parent graph trees i v l lt = (trunk_of g m number parent graph trees i v).2 l lt
