use Rattle.std.proofs.Common.{length, inl, inr}
use Rattle.std.proofs.lemmas.Bool.{both_ways}
use Rattle.tomo_base.specs.Search.{mark_of}
use Rattle.tomo_base.specs.declared.graph.Hop.{Hop}
use Rattle.tomo_base.proofs.Rows.{hops_below, hop_linked}
use Rattle.gate_search.proofs.Hops.{past_more, all_past}
use Rattle.gate_search.proofs.gates.outer.Goals as goal
use Rattle.gate_search.proofs.gates.outer.Goals.{else-nodes-v-via-then-nodes-v+then-not-free-v+then-v-c+else-v-d, else-nodes-v-via-then-nodes-v+then-not-free-v+else-v-c, else-nodes-v-via-then-nodes-v+else-not-free-v, else-nodes-v-via-else-nodes-v}

pub bounds-nodes-v : goal.bounds-nodes-v
bounds-nodes-v c = hops_below c.args.g.now c.args.inner c.hops-hop-items.result.now (length c.args.nodes.now) c.nodes-count.ensures.graph c.hops-hop-items.ensures c.requires.marks c.loop-hop.hop-index _ c.loop-hop-test.true

pub returns-then-v-d-clause-found : goal.returns-then-v-d-clause-found
returns-then-v-d-clause-found c = record {
  linked = hop_linked c.args.g.now c.args.inner c.hops-hop-items.result.now c.loop-hop.hop-index _ c.hops-hop-items.ensures c.loop-hop-test.true;
  in_set = c.if-nodes-v.true;
  not_free = c.if-not-free-v.true;
  not_first = c.if-v-c.true;
  not_second = c.if-v-d.true;
}

pub loop-hop-preserved : goal.loop-hop-preserved
loop-hop-preserved c =
    let e : Hop = record { node = 0; link = 0 } in
    past_more (mark_of c.args.nodes.now) (mark_of c.args.free.now) c.args.c c.args.d c.hops-hop-items.result.now c.loop-hop.hop-index e c.loop-hop-test.true c.loop-hop.invariant
    (elim c.else-nodes-v.branch [
      | else-nodes-v-via-then-nodes-v+then-not-free-v+then-v-c+else-v-d w ↦ λ t out. inr w.if-v-d.false
      | else-nodes-v-via-then-nodes-v+then-not-free-v+else-v-c w ↦ λ t out. inl w.if-v-c.false
      | else-nodes-v-via-then-nodes-v+else-not-free-v w ↦ λ t out. absurd (both_ways _ out w.if-not-free-v.false)
      | else-nodes-v-via-else-nodes-v w ↦ λ t out. absurd (both_ways _ w.if-nodes-v.false t)
    ])

pub returns-clause-none : goal.returns-clause-none
returns-clause-none c = all_past c.args.g.now (mark_of c.args.nodes.now) (mark_of c.args.free.now) c.args.inner c.args.c c.args.d c.hops-hop-items.result.now c.loop-hop.hop-index c.hops-hop-items.ensures c.loop-hop-test.false c.loop-hop.invariant
