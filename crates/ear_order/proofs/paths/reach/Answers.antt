use Rattle.std.proofs.Common.{◌≡◌, ◌<◌, true, All, sym, subst}
use Rattle.std.proofs.lemmas.Result.{IfOk-weaker}
use Rattle.tomo_base.specs.Search.{mark_of, IsSweep}
use Rattle.tomo_base.proofs.Links.{linked_below}
use Rattle.tomo_base.proofs.Ascending.{All-from_has}
use Rattle.ear_order.specs.Paths.{IsReached}
use Rattle.ear_order.proofs.Reaching.{reached_from}
use Rattle.ear_order.proofs.paths.reach.Goals as goal

pub sweep-requires-clause-nodes : goal.sweep-requires-clause-nodes
sweep-requires-clause-nodes c =
    let g = c.args.g.now in
    subst (All (λ v. v < g.nodes)) (sym c.deref.ensures.value) (All-from_has (λ v. v < g.nodes) _ (λ v h. (linked_below g.nodes g.links c.args.e v c.nodes-nodes.ensures.graph (c.in_ok-seeds.ensures.each v h).0).1))

pub sweep-requires-clause-free : goal.sweep-requires-clause-free
sweep-requires-clause-free c =
    subst (All (λ v. mark_of c.args.zone.now v ≡ true)) (sym c.deref.ensures.value) (All-from_has (λ v. mark_of c.args.zone.now v ≡ true) _ (λ v h. (c.in_ok-seeds.ensures.each v h).1))

pub returns : goal.returns
returns c =
    let g = c.args.g.now in
    let zone = c.args.zone.now in
    let e = c.args.e in
    IfOk-weaker c.sweep.result (IsSweep g zone c.deref.result.now) (IsReached g (mark_of zone) e)
    (λ s w. reached_from g c.nodes-nodes.ensures.graph zone e c.in_ok-seeds.seeds.items s c.in_ok-seeds.ensures (subst (λ l. IsSweep g zone l s) c.deref.ensures.value w)) c.sweep.ensures
