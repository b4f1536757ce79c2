-- Without a bad part a flow to the monitors has one path more, while its paths and the banned nodes are at most two.
use Rattle.std.proofs.Common.{ℕ, ◌+◌, ◌≤◌, Bool, false, not, ◌&&◌, List, length, arith, inl, inr}
use Rattle.std.proofs.lemmas.Bool.{both_ways, or_cases, false_from_ne_true}
use Rattle.tomo_base.specs.Sets.{one_if, size, outside, union, IsInside}
use Rattle.tomo_base.specs.BadParts.{NoBadPart}
use Rattle.tomo_base.proofs.Counts.{count_pairs}
use Rattle.ident_laws.proofs.Boundary.{three_outside}
use Rattle.unit_flow.specs.Flows.{Task, IsTask, IsFlow, IsWider, IsCut, ways_out}
use Rattle.unit_flow.proofs.Tasks.{one_path_more}

-- what is in a set is in it and not banned, or banned
in_or_banned : (a b : Bool) → one_if a + one_if false ≤ one_if (a && not b) + one_if b
in_or_banned a b = grind arith

module _ (t : Task) (m : ℕ → Bool) (ok : IsTask t) (none : NoBadPart t.graph m) (cover : IsInside t.graph m (union t.targets t.banned)) where
  -- a set that stops the flow would have at most two outside neighbours
  pub never_stops : (k : ℕ) (q : ℕ → Bool) → k + size t.graph t.banned ≤ 2 → IsCut t k q → ⊥
  never_stops k q few cut =
      let split = count_pairs t.graph.nodes (ways_out t q) t.banned (outside t.graph q) (λ v. false) (λ v l. in_or_banned (outside t.graph q v) (t.banned v)) in
      let three = three_outside t.graph m q none t.source ok.below cut.stops.source (λ v l i. false_from_ne_true (m v) (λ h. elim (or_cases (t.targets v) (t.banned v) (cover v l h)) as (λ _. ⊥) [
        | inl e ↦ both_ways (t.targets v) (cut.stops.no_target v l i) e
        | inr e ↦ both_ways (t.banned v) (cut.stops.no_banned v l i) e
      ])) in
      absurd (omega (arith, few, cut.exits, split, three))

  -- so there is a path more
  pub grows : (ps : List (List ℕ)) → IsFlow t ps → length ps + size t.graph t.banned ≤ 2 → (qs : List (List ℕ)) × IsWider t ps qs
  grows ps flow few = elim (one_path_more t ps ok flow) as (λ _. (qs : List (List ℕ)) × IsWider t ps qs) [
    | inl k ↦ k
    | inr k ↦ absurd (never_stops (length ps) k.0 few k.1.cut)
  ]
