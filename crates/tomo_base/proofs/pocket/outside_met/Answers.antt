use Rattle.std.proofs.Common.{◌≡◌, ◌||◌, ◌+◌, take, arith, refl}
use Rattle.std.proofs.lemmas.List.{take_all}
use Rattle.tomo_base.specs.Met.{is_new}
use Rattle.tomo_base.specs.Sets.{has, outside}
use Rattle.tomo_base.proofs.Meeting.{tells-same, next_to, next_more, next_all}
use Rattle.tomo_base.proofs.Rows.{hops_below}
use Rattle.tomo_base.proofs.pocket.outside_met.Goals as goal

pub loop-v-preserved : goal.loop-v-preserved
loop-v-preserved c =
    let g = c.args.g.now in
    let p = c.args.p.now in
    let vs = c.as_slice-v-items.result.now in
    let hops = c.hops.result.now in
    let graph = c.nodes-nodes.ensures.graph in
    tells-same g.nodes (λ w. next_to g p (take c.loop-v.v-index vs) w || is_new p hops w) (next_to g p (take (c.loop-v.v-index + 1) vs)) c.meet-met.result
    (λ w. next_more g p vs c.loop-v.v-index 0 _ hops w graph c.hops.ensures c.loop-v-test.true refl)
    (c.meet-met.ensures g.nodes (next_to g p (take c.loop-v.v-index vs)) (hops_below g _ hops g.nodes graph c.hops.ensures refl) c.loop-v.invariant)

pub returns : goal.returns
returns c =
    let g = c.args.g.now in
    let p = c.args.p.now in
    let all : take c.loop-v.v-index c.as_slice-v-items.result.now ≡ p = rw (take_all c.loop-v.v-index c.as_slice-v-items.result.now (omega (arith, c.loop-v-test.false))) c.as_slice-v-items.ensures.nodes in
    tells-same g.nodes (next_to g p p) (outside g (has p)) c.loop-v.met (λ w. next_all g p w c.requires) (rw all at c.loop-v.invariant)
