-- The tasks of the flows from the ends of a link to monitors, and that no set stops these flows.
use Rattle.std.proofs.Common.{ℕ, ◌+◌, ◌<◌, ◌≤◌, ◌≡◌, ◌≢◌, Bool, true, false, ◌||◌, ◌==◌, List, [], ◌∷◌, map, length, All, IsTrue, refl, sym, ap, subst, ◌∙◌, inl, inr, arith}
use Rattle.std.specs.List.{list_any}
use Rattle.std.proofs.lemmas.Bool.{both_ways, false_from_ne_true, eqb-false, or_left}
use Rattle.std.proofs.lemmas.List.Elements.{All-nil}
use Rattle.std.proofs.lemmas.List.Sorted.{length_permutation, list_any-IsPermutation}
use Rattle.tomo_base.specs.Network.{Network, IsGraph, linked}
use Rattle.tomo_base.specs.Sets.{has, size, union, IsInside}
use Rattle.tomo_base.specs.BadParts.{NoBadPart}
use Rattle.tomo_base.proofs.Counts.{count-one, count-none}
use Rattle.tomo_base.proofs.Links.{linked_below}
use Rattle.tomo_base.proofs.Ascending.{All-from_has}
use Rattle.unit_flow.specs.Flows.{Task, Routing, IsTask, IsFlow, IsRoute, no_paths, routing_task}
use Rattle.unit_flow.specs.Order.{AreInOrder}
use Rattle.unit_flow.proofs.Links.{links_differ}
use Rattle.cross_links.specs.Ways.{freely, beside, with_lists}
use Rattle.cross_links.specs.Steps.{Begins, CanGrow, HasGrown}
use Rattle.tomo_base.proofs.Members.{has_none, has_first, has_cases, has_not}
use Rattle.cross_links.proofs.Growing.{never_stops}
use Rattle.std.proofs.Math.Path.{fun_ext}

-- the set of one node, as a set that it was put into
single : (x z : ℕ) (s : List ℕ) → has s z ≡ ((x == z) || has [] z) → has s z ≡ has (x ∷ []) z
unfolding has
single x z s h = h

-- the flow that bans one node
pub begins_beside : (g : Network) (targets banned : List ℕ) (s x : ℕ) (f : Routing) → f ≡ no_paths g s targets banned → ((z : ℕ) → has banned z ≡ ((x == z) || has [] z)) → Begins (beside g (has targets) s x) f
begins_beside g targets banned s x f is one = record {
  task = ap routing_task is ∙ ap (λ (q : ℕ → Bool). record { graph = g; source = s; targets = has targets; banned = q }) (fun_ext {f = has banned} {g = has (x ∷ [])} (λ z. single x z banned (one z)));
  bare = ap (λ (r : Routing). r.paths) is;
}

-- the flow that bans none
pub begins_freely : (g : Network) (targets banned : List ℕ) (s : ℕ) (f : Routing) → f ≡ no_paths g s targets banned → banned ≡ [] → Begins (freely g (has targets) s) f
begins_freely g targets banned s f is bare = record {
  task = ap routing_task is ∙ ap (λ (b : List ℕ). routing_task (no_paths g s targets b)) bare;
  bare = ap (λ (r : Routing). r.paths) is;
}

-- one node below n
pub one_below : (n x : ℕ) (s : List ℕ) → x < n → ((z : ℕ) → has s z ≡ ((x == z) || has [] z)) → All (λ v. v < n) s
one_below n x s l one = All-from_has (λ v. v < n) s (λ v h. elim (has_cases x [] v (sym (single x v s (one v)) ∙ h)) [ inl e ↦ subst (λ z. z < n) e l | inr e ↦ absurd (both_ways (has [] v) (has_none v) e) ])

-- another node is not the one
pub one_other : (x y : ℕ) (s : List ℕ) → (y ≡ x → ⊥) → ((z : ℕ) → has s z ≡ ((x == z) || has [] z)) → has s y ≡ false
one_other x y s ne one = false_from_ne_true (has s y) (λ h. elim (has_cases x [] y (sym (single x y s (one y)) ∙ h)) [ inl e ↦ ne (sym e) | inr e ↦ both_ways (has [] y) (has_none y) e ])

-- one banned node counts 1
pub size_single : (g : Network) (v : ℕ) → v < g.nodes → size g (has (v ∷ [])) ≡ 1
size_single g v l = count-one g.nodes (has (v ∷ [])) v l (has_first v []) (λ u k h. elim (has_cases v [] u h) [ inl e ↦ sym e | inr e ↦ absurd (both_ways (has [] u) (has_none u) e) ])

-- none counts 0
pub size_none : (g : Network) → size g (has []) ≡ 0
size_none g = count-none g.nodes (has []) (λ v l. has_none v)

-- a flow without paths
pub no_flow : (t : Task) → IsFlow t []
no_flow t = record { routes = All-nil (IsRoute t); apart = (has_none t.source, tt) }

-- a link joins two different nodes
pub differ : (g : Network) (graph : IsGraph g) (v w : ℕ) → IsTrue (linked g v w) → v ≢ w
differ g graph v w l = eqb-false v w (links_differ g graph v w l)

module _ (g : Network) (m : ℕ → Bool) (graph : IsGraph g) where
  -- the task beside an end of a link is one
  pub beside_ok : (s x : ℕ) → IsTrue (linked g s x) → m s ≡ false → IsTask (beside g m s x)
  beside_ok s x l plain = record {
    graph = graph;
    below = (linked_below g.nodes g.links s x graph l).0;
    no_target = plain;
    no_banned = has_not x [] s (λ e. differ g graph s x l (sym e)) (has_none s);
  }

  -- so is that over any nodes
  pub freely_ok : (s : ℕ) → s < g.nodes → m s ≡ false → IsTask (freely g m s)
  freely_ok s lt plain = record { graph = graph; below = lt; no_target = plain; no_banned = has_none s }

-- all monitors are targets of tasks to the monitors
pub covered : (g : Network) (m banned : ℕ → Bool) → IsInside g m (union m banned)
covered g m banned z k h = or_left (m z) (banned z) h

-- all monitors are targets of the second flow
pub onto_inside : (g : Network) (m : ℕ → Bool) (b c : List ℕ) → IsInside g m (with_lists m b c)
onto_inside g m b c z k h = or_left (m z || has b z) (has c z) (or_left (m z) (has b z) h)

-- so are they where a node is banned
pub onto_covered : (g : Network) (m : ℕ → Bool) (b c : List ℕ) (v : ℕ) → IsInside g m (union (with_lists m b c) (has (v ∷ [])))
onto_covered g m b c v z k h = or_left (with_lists m b c z) (has (v ∷ []) z) (onto_inside g m b c z k h)

-- ---- flows that have grown

-- a flow of the task with so many paths
pub record Grown (t : Task) (k : ℕ) (f : Routing) : Type 0 where
  pub task : routing_task f ≡ t
  pub many : length f.paths ≡ k

-- at first none
pub grown_none : (t : Task) (f : Routing) → Begins t f → Grown t 0 f
grown_none t f b = record { task = b.task; many = ap length b.bare }

-- then one more
pub grown_more : (t : Task) (k : ℕ) (old new : Routing) → Grown t k old → HasGrown old new → Grown t (k + 1) new
grown_more t k old new g h = record { task = h.task ∙ g.task; many = h.wider.one_more ∙ ap (λ n. n + 1) g.many }

-- a path that is kept counts 1
pub grown_kept : (t : Task) (old new : Routing) (p : List ℕ) → routing_task old ≡ t → new ≡ record old { paths = p ∷ [] } → Grown t 1 new
grown_kept t old new p same is = record { task = ap routing_task is ∙ same; many = ap (λ (f : Routing). length f.paths) is }

-- paths in another order are as many
pub order_many : (paths sorted : List (List ℕ)) → AreInOrder paths sorted → length sorted ≡ length paths
order_many paths sorted o = length_permutation paths sorted o.same

-- a number of some path
has_some : (f : List ℕ → ℕ) (ps : List (List ℕ)) (x : ℕ) → has (map f ps) x ≡ list_any (λ p. f p == x) ps
unfolding has
has_some f [] x = refl
has_some f (p ∷ ps) x = ap (λ b. (f p == x) || b) (has_some f ps x)

-- it is one of some path in another order
pub order_has : (f : List ℕ → ℕ) (paths sorted : List (List ℕ)) (x : ℕ) → AreInOrder paths sorted → has (map f paths) x ≡ true → has (map f sorted) x ≡ true
order_has f paths sorted x o h = has_some f sorted x ∙ (sym (list_any-IsPermutation (λ p. f p == x) paths sorted o.same) ∙ (sym (has_some f paths x) ∙ h))

module _ (g : Network) (m : ℕ → Bool) (none : NoBadPart g m) where
  -- no set stops a flow beside one node that has at most one path
  pub beside_grows : (targets : ℕ → Bool) (s x k : ℕ) (f : Routing) → IsTask (beside g targets s x) → x < g.nodes → IsInside g m targets → k ≤ 1 → Grown (beside g targets s x) k f → CanGrow (routing_task f) f.paths
  beside_grows targets s x k f ok below cover few grown =
      subst (λ t. CanGrow t f.paths) (sym grown.task) (λ q cut. never_stops (beside g targets s x) m ok none
      (λ z l h. or_left (targets z) (has (x ∷ []) z) (cover z l h)) (length f.paths) q (omega (arith, few, grown.many, size_single g x below)) cut)

  -- nor a flow over any nodes that has at most two
  pub freely_grows : (s k : ℕ) (f : Routing) → IsTask (freely g m s) → k ≤ 2 → Grown (freely g m s) k f → CanGrow (routing_task f) f.paths
  freely_grows s k f ok few grown =
      subst (λ t. CanGrow t f.paths) (sym grown.task) (λ q cut. never_stops (freely g m s) m ok none
      (λ z l h. or_left (m z) (has [] z) h) (length f.paths) q (omega (arith, few, grown.many, size_none g)) cut)
