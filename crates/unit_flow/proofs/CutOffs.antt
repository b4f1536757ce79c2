-- Where nothing is banned, the sets that stop a flow are those that cut its source off from the targets.
use Rattle.std.proofs.Common.{ℕ, ◌≤◌, ◌≡◌, Bool, false, not, ◌&&◌, List, [], length, sym, ◌∙◌, arith}
use Rattle.tomo_base.specs.Network.{Network}
use Rattle.tomo_base.specs.Sets.{has, outside, size}
use Rattle.tomo_base.specs.BadParts.{IsCutOff}
use Rattle.tomo_base.proofs.Counts.{count-same}
use Rattle.unit_flow.specs.Flows.{Task, IsTask, no_paths, IsFlow, ways_out, IsCut, routing_task}
use Rattle.unit_flow.specs.Widening.{IsStuck}
use Rattle.unit_flow.specs.Fan.{IsLeastCutOff}
use Rattle.tomo_base.proofs.Members.{has_none}
use Rattle.unit_flow.proofs.Tasks.{cut_bounds}

-- a set is left whole by an empty one
whole : (a b : Bool) → b ≡ false → (a && not b) ≡ a
whole a b h = grind arith

module _ (g : Network) (v : ℕ) (m : List ℕ) (ok : IsTask (routing_task (no_paths g v m []))) where
  -- the task of paths from v to nodes of m, over any nodes
  abbrev pub t : Task
  t = routing_task (no_paths g v m [])

  -- all outside neighbours are ways out
  ways_same : (q : ℕ → Bool) → size g (ways_out t q) ≡ size g (outside g q)
  ways_same q = count-same g.nodes (ways_out t q) (outside g q) (λ u l. whole (outside g q u) (has [] u) (has_none u))

  -- a set that cuts v off stops the flow
  cut_in : (k : ℕ) (q : ℕ → Bool) → IsCutOff g (has m) v k q → IsCut t k q
  cut_in k q c = record { stops = record { source = c.holds; no_target = c.free; no_banned = λ u l h. has_none u }; exits = ways_same q ∙ c.bounded }

  -- and the other way
  cut_out : (k : ℕ) (q : ℕ → Bool) → IsCut t k q → IsCutOff g (has m) v k q
  cut_out k q c = record { holds = c.stops.source; free = c.stops.no_target; bounded = sym (ways_same q) ∙ c.exits }

  -- as many nodes cut v off as there are paths
  pub paths_bound : (ps : List (List ℕ)) → IsFlow t ps → (p : ℕ → Bool) (k : ℕ) → IsCutOff g (has m) v k p → length ps ≤ k
  paths_bound ps flow p k c = cut_bounds t p k ps ok (cut_in k p c) flow

  -- where the flow is stuck, the set is the least that so many nodes cut off
  pub stuck_cut_off : (ps : List (List ℕ)) (q : List ℕ) → IsFlow t ps → IsStuck t ps q → IsLeastCutOff g (has m) v (length ps) (has q)
  stuck_cut_off ps q flow s = record {
    cut = cut_out (length ps) (has q) s.cut.cut;
    no_fewer = paths_bound ps flow;
    least = λ p c. s.cut.least p (cut_in (length ps) p c);
  }
