-- The second nodes of the paths of a flow are different nodes, and how many node numbers the paths have; so they can be put in order.
use Rattle.std.proofs.Common.{ℕ, ◌+◌, ◌<◌, ◌≤◌, ◌≡◌, ◌^◌, List, [], ◌∷◌, map, length, get_or, take, All, Vec, sym, ap, subst, ◌∙◌, arith, length-append}
use Rattle.std.specs.Global.{Global}
use Rattle.std.specs.List.{AllByRecursion}
use Rattle.std.proofs.lemmas.List.{length-map}
use Rattle.std.proofs.lemmas.Bool.{false≢true}
use Rattle.std.proofs.lemmas.List.Elements.{recursion_from_All}
use Rattle.tomo_base.specs.Network.{Network}
use Rattle.tomo_base.specs.Walks.{NoneTwice}
use Rattle.simple_path.specs.Pools.{nodes_in}
use Rattle.unit_flow.specs.Flows.{Task, IsTask, IsRoute, IsFlow, all_later, second_of}
use Rattle.unit_flow.specs.declared.ask.Ask.{Ask}
use Rattle.unit_flow.specs.Kept.{KeepsFlow}
use Rattle.unit_flow.specs.Search.{asked}
use Rattle.unit_flow.proofs.Start.{picks}
use Rattle.unit_flow.proofs.Law.{each, member_leads}
use Rattle.unit_flow.proofs.Links.{jb}
use Rattle.unit_flow.proofs.Kept.{flow_small, flow_few}
use Rattle.unit_flow.proofs.OneWidening.{route_at}

module _ (t : Task) (ok : IsTask t) where
  -- a route has a second node
  route_two : (p : List ℕ) → IsRoute t p → 2 ≤ length p
  route_two [] r = absurd r
  route_two (a ∷ []) r = absurd (false≢true (sym ok.no_target ∙ ap t.targets (sym r.0) ∙ r.1))
  route_two (a ∷ b ∷ p) r = omega arith

  -- which is a node
  second_below : (p : List ℕ) → IsRoute t p → second_of p < t.graph.nodes
  second_below [] r = absurd r
  second_below (a ∷ []) r = absurd (false≢true (sym ok.no_target ∙ ap t.targets (sym r.0) ∙ r.1))
  second_below (a ∷ b ∷ p) r = (jb t ok a b r.1.1).1

  -- no two paths of a flow have the same
  seconds_differ : (ps : List (List ℕ)) → IsFlow t ps → NoneTwice (map second_of ps)
  seconds_differ ps flow = picks second_of ps (member_leads t ok ps (each t ok ps flow)) flow.apart.1

  -- the paths have the nodes after the source, and the source once each
  nodes_later : (ps : List (List ℕ)) → AllByRecursion (IsRoute t) ps → nodes_in ps ≡ length (all_later ps) + length ps
  nodes_later [] r = omega arith
  nodes_later ([] ∷ ps) r = absurd r.0
  nodes_later ((a ∷ p) ∷ ps) r = omega (arith, nodes_later ps r.1, length-append p (all_later ps))

  -- so fewer than twice as many as the graph
  nodes_few : (ps : List (List ℕ)) → IsFlow t ps → nodes_in ps ≤ t.graph.nodes + t.graph.nodes
  nodes_few ps flow = omega (arith, nodes_later ps (recursion_from_All (IsRoute t) ps flow.routes), flow_small t ok ps flow, flow_few t ok ps flow)

-- lists as `by_second` asks for them
pub record Listed (n : ℕ) (lists : List (Vec ℕ Global)) : Type 0 where
  pub long : All (λ p. 2 ≤ length p.items) lists
  pub inside : All (λ p. second_of p.items < n) lists
  pub differ : NoneTwice (map second_of (map (λ p. p.items) lists))
  pub few : length lists < 2 ^ 31
  pub room : nodes_in (map (λ p. p.items) lists) < 2 ^ 31

-- those of a flow, as they are lent, are such
pub listed : {g : Network} {a : Ask} {targets banned : List ℕ} {count : ℕ} {paths lent : List (Vec ℕ Global)} → KeepsFlow g a targets banned count paths → lent ≡ paths → Listed g.nodes (take count lent)
listed {g = g} {a = a} {count = count} {paths = paths} k same =
    let t = asked g a in
    let ok = k.is_asked.task in
    let lists = take count paths in
    let ps = map (λ p. p.items) lists in
    subst (λ z. Listed g.nodes (take count z)) (sym same) (record {
      long = λ i d l. route_two t ok (get_or lists i d).items (route_at t ok lists k.flow i d l);
      inside = λ i d l. second_below t ok (get_or lists i d).items (route_at t ok lists k.flow i d l);
      differ = seconds_differ t ok ps k.flow;
      few = omega (arith, flow_few t ok ps k.flow, length-map lists (λ p. p.items), k.is_asked.few);
      room = omega (arith, nodes_few t ok ps k.flow, k.is_asked.few);
    })
