-- What the fields of a flow keep when a path is taken into it, and what they say of it when it is stuck or has one path more.
use Rattle.std.proofs.Common.{ℕ, ◌+◌, ◌<◌, ◌≤◌, ◌≡◌, Bool, true, List, [], ◌∷◌, map, length, get_or, set, take, Vec, refl, sym, ap, ap₂, subst, ◌∙◌, arith, inl, inr, None, length-append, length-take-le, length-set}
use Rattle.std.specs.Global.{Global}
use Rattle.std.specs.List.{AllByRecursion}
use Rattle.std.proofs.lemmas.Bool.{cases_lt, both_ways, false≢true}
use Rattle.std.proofs.lemmas.List.{length-map}
use Rattle.std.proofs.lemmas.List.Elements.{recursion_from_All}
use Rattle.tomo_base.specs.Network.{Network, linked}
use Rattle.tomo_base.specs.Search.{mark_of}
use Rattle.tomo_base.specs.Sets.{has}
use Rattle.tomo_base.proofs.Ascending.{All-from_has}
use Rattle.unit_flow.specs.declared.ask.Ask.{Ask}
use Rattle.unit_flow.specs.Flows.{Task, IsTask, Routing, IsRoute, IsFlow, IsLeastCut, later_of, all_later, routing_task}
use Rattle.unit_flow.specs.declared.widening.Outcome.{Outcome}
use Rattle.unit_flow.specs.Widening.{Comes, IsStuck}
use Rattle.unit_flow.specs.Kept.{HasPathRoom, KeepsFlow}
use Rattle.unit_flow.specs.Search.{asked, IsAsked}
use Rattle.tomo_base.proofs.Members.{has_cases}
use Rattle.tomo_base.proofs.Paths.{few_below}
use Rattle.unit_flow.proofs.Load.{all_on}
use Rattle.unit_flow.proofs.Back.{on_low}
use Rattle.unit_flow.proofs.Links.{jb}
use Rattle.unit_flow.proofs.Tasks.{cut_bounds}
use Rattle.unit_flow.proofs.Law.{array_of, array_arcs}
use Rattle.unit_flow.proofs.Marking.{unmarked_past}
use Rattle.std.proofs.Math.Path.{fun_ext}

-- what is asked for is the task with the sets whose marks it has
pub same_task : (g : Network) (a : Ask) (targets banned : List ℕ) → ((v : ℕ) → mark_of a.targets.items v ≡ has targets v) → ((v : ℕ) → mark_of a.banned.items v ≡ has banned v)
    → asked g a ≡ record { graph = g; source = a.source; targets = has targets; banned = has banned }
same_task g a targets banned h k =
    let task : (ℕ → Bool) → (ℕ → Bool) → Task = λ x y. record { graph = g; source = a.source; targets = x; banned = y } in
    ap₂ task (fun_ext {f = mark_of a.targets.items} {g = has targets} h) (fun_ext {f = mark_of a.banned.items} {g = has banned} k)

module _ (t : Task) (ok : IsTask t) where
  -- a flow has no more nodes after the source than the graph has others
  pub flow_small : (ps : List (List ℕ)) → IsFlow t ps → length (all_later ps) + 1 ≤ t.graph.nodes
  flow_small ps flow = omega (arith, few_below t.graph.nodes (t.source ∷ all_later ps) flow.apart low)
    where
      low : (v : ℕ) → has (t.source ∷ all_later ps) v ≡ true → v < t.graph.nodes
      low v h = elim (has_cases t.source (all_later ps) v h) [
        | inl e ↦ subst (λ z. z < t.graph.nodes) e ok.below
        | inr e ↦ on_low (linked t.graph) t.banned t.targets t.source t.graph.nodes (λ x y h. (jb t ok x y h).1) ok.no_target (array_of t ok ps) v (array_arcs t ok ps flow) (all_on t.source (λ _. None) ps v e)
      ]

  -- each path has a node after the source
  later_some : (p : List ℕ) → IsRoute t p → 1 ≤ length (later_of p)
  later_some [] r = absurd r
  later_some (a ∷ []) r = absurd (false≢true (sym ok.no_target ∙ ap t.targets (sym r.0) ∙ r.1))
  later_some (a ∷ b ∷ p) r = omega arith

  -- so there are no more paths than such nodes
  paths_few : (ps : List (List ℕ)) → AllByRecursion (IsRoute t) ps → length ps ≤ length (all_later ps)
  paths_few [] r = omega arith
  paths_few (p ∷ ps) r = omega (arith, paths_few ps r.1, later_some p r.0, length-append (later_of p) (all_later ps))

  -- and no more than nodes
  pub flow_few : (ps : List (List ℕ)) → IsFlow t ps → length ps ≤ t.graph.nodes
  flow_few ps flow = omega (arith, paths_few ps (recursion_from_All (IsRoute t) ps flow.routes), flow_small ps flow)

  -- a path has no more nodes than the graph
  path_short : (p : List ℕ) → IsFlow t (p ∷ []) → length p ≤ t.graph.nodes
  path_short [] flow = omega arith
  path_short (a ∷ p) flow = omega (arith, flow_small ((a ∷ p) ∷ []) flow, length-append p [])

  -- marks of the least set that stops a flow make a set for which the flow is stuck
  pub stuck_by : (ps : List (List ℕ)) (seen : List Bool) (q : List ℕ) → length seen ≡ t.graph.nodes → IsLeastCut t (length ps) (mark_of seen) → ((v : ℕ) → has q v ≡ mark_of seen v) → IsStuck t ps q
  stuck_by ps seen q size cut same = record {
    most = λ other flow. cut_bounds t (mark_of seen) (length ps) other ok cut.cut flow;
    cut = subst (IsLeastCut t (length ps)) (sym (fun_ext {f = has q} {g = mark_of seen} same)) cut;
    below = All-from_has (λ v. v < t.graph.nodes) q (λ v h. elim (cases_lt v t.graph.nodes) [
      | inl l ↦ l
      | inr ge ↦ absurd (both_ways (mark_of seen v) (unmarked_past seen v (omega (arith, ge, size))) (sym (same v) ∙ h))
    ]);
  }

-- as many lists are taken as are counted
length-first : (count : ℕ) (paths : List (Vec ℕ Global)) → count ≤ length paths → length (map (λ p. p.items) (take count paths)) ≡ count
length-first count paths l = length-map (take count paths) (λ (p : Vec ℕ Global). p.items) ∙ length-take-le count paths l

-- the first list, where another is put in its place
first_put : (paths : List (Vec ℕ Global)) (p : Vec ℕ Global) → 1 ≤ length paths → take 1 (set paths 0 p) ≡ p ∷ []
first_put [] p l = absurd (omega arith)
first_put (q ∷ paths) p l = refl

-- a flow without paths
pub kept_new : (g : Network) (a : Ask) (targets banned : List ℕ) (room : Vec ℕ Global) → IsAsked g a → ((v : ℕ) → mark_of a.targets.items v ≡ has targets v) → ((v : ℕ) → mark_of a.banned.items v ≡ has banned v)
    → length room.items ≡ g.nodes → KeepsFlow g a targets banned 0 (room ∷ [])
unfolding has
kept_new g a targets banned room is h k long = record {
  is_asked = is;
  marks_targets = h;
  marks_banned = k;
  within = omega arith;
  flow = record { routes = λ k d l. absurd (omega (arith, l)); apart = (refl, tt) };
  room = λ _. record { some = omega arith; long = λ d. long };
}

module _ {g : Network} {a : Ask} {targets banned : List ℕ} {count : ℕ} {paths : List (Vec ℕ Global)} (k : KeepsFlow g a targets banned count paths) where
  module _ {r : Routing} (view : record { graph = g; source = a.source; targets = targets; banned = banned; paths = map (λ p. p.items) (take count paths) } ≡ r) where
    -- what is asked for is the task of the flow as contracts see it
    pub kept_task : asked g a ≡ routing_task r
    kept_task = same_task g a targets banned k.marks_targets k.marks_banned ∙ ap routing_task view

    -- a flow without paths counts none
    none_counted : r.paths ≡ [] → count ≡ 0
    none_counted none = sym (length-first count paths k.within) ∙ ap (λ (x : Routing). length x.paths) view ∙ ap (λ z. length z) none

    -- a path that it may take fits into the first list
    pub path_fits : r.paths ≡ [] → (p : List ℕ) (d : Vec ℕ Global) → IsFlow (routing_task r) (p ∷ []) → length p ≤ length (get_or paths 0 d).items
    path_fits none p d flow = omega (arith, path_short (asked g a) k.is_asked.task p (subst (λ z. IsFlow z (p ∷ [])) (sym kept_task) flow), (k.room (none_counted none)).long d)

    -- the first list takes it
    pub kept_path : r.paths ≡ [] → (p : Vec ℕ Global) → IsFlow (routing_task r) (p.items ∷ []) → KeepsFlow g a targets banned 1 (set paths 0 p)
    kept_path none p flow =
        let room : HasPathRoom g.nodes paths = k.room (none_counted none) in
        record {
          is_asked = k.is_asked;
          marks_targets = k.marks_targets;
          marks_banned = k.marks_banned;
          within = omega (arith, length-set paths 0 p, room.some);
          flow = subst (λ z. IsFlow (asked g a) (map (λ q. q.items) z)) (sym (first_put paths p room.some)) (subst (λ z. IsFlow z (p.items ∷ [])) (sym kept_task) flow);
          room = λ e. absurd (omega (arith, e));
        }

    -- what the widening of the lists that were lent comes to, said of the flow as contracts see it
    pub came : {h : Network} {lent : List (Vec ℕ Global)} {o new : Outcome} → r.graph ≡ h → lent ≡ paths → o ≡ new → Comes (asked h a) (map (λ p. p.items) (take count lent)) o → Comes (routing_task r) r.paths new
    came {h = h} {lent = lent} {o = o} graph lent_is is come =
        let same : asked h a ≡ routing_task r = ap (λ z. asked z a) (sym (ap (λ (x : Routing). x.graph) view ∙ graph)) ∙ kept_task in
        let old : map (λ p. p.items) (take count lent) ≡ r.paths = ap (λ z. map (λ p. p.items) (take count z)) lent_is ∙ ap (λ (x : Routing). x.paths) view in
        subst (Comes (routing_task r) r.paths) is (subst (λ z. Comes z r.paths o) same (subst (λ z. Comes (asked h a) z o) old come))
