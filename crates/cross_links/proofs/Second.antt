-- The second flow: from the first node of a way that is kept, to the monitors and to two further ways.
use Rattle.std.proofs.Common.{ℕ, ◌<◌, ◌≤◌, ◌≡◌, ◌≢◌, Bool, true, false, List, [], ◌∷◌, length, get_or, All, refl, sym, ap, ap₂, subst, ◌∙◌, inl, inr, arith}
use Rattle.std.proofs.lemmas.Bool.{both_ways, or_cases}
use Rattle.tomo_base.specs.Network.{Network, IsGraph}
use Rattle.tomo_base.specs.Sets.{has, union}
use Rattle.tomo_base.specs.BadParts.{NoBadPart}
use Rattle.tomo_base.proofs.Links.{linked_below}
use Rattle.tomo_base.proofs.Ascending.{All-has, All-from_has}
use Rattle.unit_flow.specs.Flows.{Task, Routing, LeadsFrom, first_of, later_of, IsFlow, routing_task}
use Rattle.cross_links.specs.Ways.{freely, beside, onto, IsWay, KeepsWay, with_lists}
use Rattle.cross_links.specs.Steps.{CanGrow}
use Rattle.tomo_base.proofs.Members.{has_none, has_cases}
use Rattle.cross_links.proofs.Ways.{one_way}
use Rattle.cross_links.proofs.Arms.{onto_ok, kept_way}
use Rattle.cross_links.proofs.Tasks.{differ, onto_inside, beside_grows, Grown}
use Rattle.std.proofs.Math.Path.{fun_ext}

-- the nodes of a way after its first are nodes
leads_below : (t : Task) (x : ℕ) (a : List ℕ) → IsGraph t.graph → LeadsFrom t x a → (z : ℕ) → has a z ≡ true → z < t.graph.nodes
leads_below t x [] graph l z h = absurd (both_ways (has [] z) (has_none z) h)
leads_below t x (y ∷ a) graph l z h = elim (has_cases y a z h) [
  | inl e ↦ subst (λ u. u < t.graph.nodes) e (linked_below t.graph.nodes t.graph.links x y graph l.1).1
  | inr e ↦ leads_below t y a graph l.3 z e
]

-- a list with a node has a first one
first_later : (xs : List ℕ) → 1 ≤ length xs → xs ≡ first_of xs ∷ later_of xs
first_later [] some = absurd (omega arith)
first_later (x ∷ xs) some = refl

-- as it is read
first_read : (xs : List ℕ) → 1 ≤ length xs → get_or xs 0 0 ≡ first_of xs
first_read [] some = absurd (omega arith)
first_read (x ∷ xs) some = refl

module _ (g : Network) (m : ℕ → Bool) (v : ℕ) (kept b c : List ℕ) (graph : IsGraph g) (k : KeepsWay g m v kept b c) where
  -- the two ways are over nodes
  pub way_below : (a : List ℕ) → IsWay (freely g m v) a → All (λ z. z < g.nodes) a
  way_below a way = All-from_has (λ z. z < g.nodes) a (leads_below (freely g m v) v a graph way.leads)

  -- the ends of the link are two nodes
  pub ends_below : (v < g.nodes) × (get_or kept 0 0 < g.nodes)
  ends_below =
      let both = linked_below g.nodes g.links v (first_of kept) graph k.linked in
      (both.0, subst (λ z. z < g.nodes) (sym (first_read kept k.some)) both.1)

  -- two different ones
  pub ends_differ : get_or kept 0 0 ≢ v
  ends_differ e = differ g graph v (first_of kept) k.linked (sym (sym (first_read kept k.some) ∙ e))

  module _ (targets : List ℕ) (ends : (z : ℕ) → has targets z ≡ with_lists m b c z) where
    -- the targets are nodes
    pub targets_below : ((z : ℕ) → m z ≡ true → z < g.nodes) → All (λ z. z < g.nodes) targets
    targets_below below = All-from_has (λ z. z < g.nodes) targets (λ z h. elim (or_cases (union m (has b) z) (has c z) (sym (ends z) ∙ h)) [
      | inl e ↦ elim (or_cases (m z) (has b z) e) [ inl j ↦ below z j | inr j ↦ All-has (λ z. z < g.nodes) b (way_below b k.ways.way_b) z j ]
      | inr e ↦ All-has (λ z. z < g.nodes) c (way_below c k.ways.way_c) z e
    ])

    -- the task of the flow
    pub second_task : beside g (has targets) (get_or kept 0 0) v ≡ onto g m b c (first_of kept) v
    second_task = ap₂ (λ (q : ℕ → Bool) (x : ℕ). beside g q x v) (fun_ext {f = has targets} {g = with_lists m b c} ends) (first_read kept k.some)

    -- its source is no target
    pub second_no_target : has targets (get_or kept 0 0) ≡ false
    second_no_target =
        let ok = onto_ok g m v (first_of kept) (later_of kept) b c (differ g graph v (first_of kept) k.linked) k.ways graph (linked_below g.nodes g.links v (first_of kept) graph k.linked).1 k.plain in
        ap (has targets) (first_read kept k.some) ∙ (ends (first_of kept) ∙ ok.no_target)

  -- the path that is kept is a flow of it
  pub second_path : IsFlow (onto g m b c (first_of kept) v) (kept ∷ [])
  second_path =
      let v_w = differ g graph v (first_of kept) k.linked in
      subst (λ p. IsFlow (onto g m b c (first_of kept) v) (p ∷ [])) (sym (first_later kept k.some))
      (one_way (onto g m b c (first_of kept) v) (later_of kept) (kept_way g m v (first_of kept) (later_of kept) b c v_w k.ways))

  -- and no set stops it while it is the only one
  pub second_grows : NoBadPart g m → (f : Routing) → Grown (onto g m b c (first_of kept) v) 1 f → CanGrow (routing_task f) f.paths
  second_grows none f grown =
      let both = linked_below g.nodes g.links v (first_of kept) graph k.linked in
      let ok = onto_ok g m v (first_of kept) (later_of kept) b c (differ g graph v (first_of kept) k.linked) k.ways graph both.1 k.plain in
      beside_grows g m none (with_lists m b c) (first_of kept) v 1 f ok both.0 (onto_inside g m b c) (omega arith) grown
