-- What one widening of a flow comes to.
use Rattle.std.specs.Prelude.{ℕ, ◌≡◌, ◌≤◌, ◌<◌, List, map, length, All}
use Rattle.tomo_base.specs.Search.{mark_of}
use Rattle.tomo_base.specs.Sets.{has}
use Rattle.unit_flow.specs.declared.widening.Outcome.{Outcome}
use Rattle.unit_flow.specs.declared.widening.Outcome.TheVariants.{Wider, Reached}
use Rattle.unit_flow.specs.declared.flow.Widened.{Widened}
use Rattle.unit_flow.specs.declared.flow.Widened.TheVariants.{More, Stuck}
use Rattle.unit_flow.specs.Flows.{Task, Routing, IsFlow, IsWider, IsLeastCut, routing_task}

-- either a flow of one path more, or marks of the least set that stops the flow
abbrev pub Comes : Task → List (List ℕ) → Outcome → Type 0
Comes t paths (Wider new) = IsWider t paths (map (λ p. p.items) new.items)
Comes t paths (Reached seen) = (length seen.items ≡ t.graph.nodes) × IsLeastCut t (length paths) (mark_of seen.items)

-- no flow has more paths than these, and q has the nodes of the least set that stops flows with as many ways out as there are paths
pub record IsStuck (t : Task) (paths : List (List ℕ)) (q : List ℕ) : Type 0 where
  pub most : (other : List (List ℕ)) → IsFlow t other → length other ≤ length paths
  pub cut : IsLeastCut t (length paths) (has q)
  pub below : All (λ v. v < t.graph.nodes) q

-- from the flow before to the flow after: the same task with one path more, or the same flow, which is stuck
abbrev pub Widens : Routing → Routing → Widened → Type 0
Widens old new More = (new ≡ record old { paths = new.paths }) × IsWider (routing_task old) old.paths new.paths
Widens old new (Stuck q) = (new ≡ old) × IsStuck (routing_task old) old.paths q
