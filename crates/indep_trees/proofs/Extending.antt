-- In the extended graph a node that is no monitor has its neighbours in the graph.
use Rattle.std.proofs.Common.{◌≡◌, ℕ, ◌+◌, ◌<◌, true, ◌||◌, ◌==◌, List, [], ◌∷◌, sym, ◌∙◌, inl, inr, arith}
use Rattle.std.proofs.lemmas.Bool.{both_ways, or_cases, or_left, or_right, eq-eqb}
use Rattle.tomo_base.specs.Network.{Network, linked, joins, any_joins, IsGraph}
use Rattle.tomo_base.specs.Sets.{has}
use Rattle.tomo_base.specs.Cuts.{hub_links, extended}
use Rattle.tomo_base.proofs.Links.{joins_gives, linked_below}
use Rattle.extended_graph.proofs.HubLinks.{any_joins-append}
use Rattle.indep_trees.specs.Trees.{IsFree}

-- a node below n that a further link leads from is a monitor
hub_from : (n : ℕ) (m : List ℕ) (v w : ℕ) → v < n → any_joins (hub_links n m) v w ≡ true → has m v ≡ true
unfolding any_joins has
hub_from n [] v w l h = h
hub_from n (x ∷ m) v w l h = elim (or_cases (joins (record { a = x; b = n }) v w) (joins (record { a = x; b = n + 1 }) v w || any_joins (hub_links n m) v w) h) [
  | inl e ↦ elim (joins_gives (record { a = x; b = n }) v w e) [ inl k ↦ or_left (x == v) (has m v) (eq-eqb x v k.0) | inr k ↦ absurd (omega (arith, k.1, l)) ]
  | inr more ↦ elim (or_cases (joins (record { a = x; b = n + 1 }) v w) (any_joins (hub_links n m) v w) more) [
    | inl e ↦ elim (joins_gives (record { a = x; b = n + 1 }) v w e) [ inl k ↦ or_left (x == v) (has m v) (eq-eqb x v k.0) | inr k ↦ absurd (omega (arith, k.1, l)) ]
    | inr later ↦ or_right (x == v) (has m v) (hub_from n m v w l later)
  ]
]

-- the neighbours of a node that is no monitor
pub free_linked : (g : Network) → IsGraph g → (m : List ℕ) (v w : ℕ) → IsFree g (has m) v → linked (extended g m) v w ≡ true → (w < g.nodes) × (linked g v w ≡ true)
free_linked g graph m v w free l = elim (or_cases (any_joins g.links v w) (any_joins (hub_links g.nodes m) v w) (sym (any_joins-append g.links (hub_links g.nodes m) v w) ∙ l)) [
  | inl old ↦ ((linked_below g.nodes g.links v w graph old).1, old)
  | inr new ↦ absurd (both_ways (has m v) free.1 (hub_from g.nodes m v w free.0 new))
]
