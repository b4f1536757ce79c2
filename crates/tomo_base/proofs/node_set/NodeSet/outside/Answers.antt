use Rattle.std.proofs.Common.{sym, ◌∙◌, arith}
use Rattle.tomo_base.specs.Sets.{has, outside}
use Rattle.tomo_base.proofs.Ranges.{below-none, below-more, below-less, below-all}
use Rattle.tomo_base.proofs.Touching.{outside_below}
use Rattle.tomo_base.proofs.node_set.NodeSet.outside.Goals as goal
use Rattle.tomo_base.proofs.node_set.NodeSet.outside.Goals.{then-borders+in_ok-insert, else-borders}

pub loop-v-init : goal.loop-v-init
loop-v-init c = λ w. rw c.new-found.ensures (below-none (outside c.args.g.now (has c.args.self.now)) w)

pub loop-v-preserved : goal.loop-v-preserved
loop-v-preserved c = elim c.if-borders.branch [
  | then-borders+in_ok-insert w ↦ λ u. rw (w.found-is, w.in_ok-insert.ensures.nodes u)
      (below-more (has c.loop-v.found) (outside c.args.g.now (has c.args.self.now)) c.loop-v.v u (c.loop-v.invariant u) (sym c.borders.ensures ∙ w.if-borders.true))
  | else-borders w ↦ λ u. rw w.found-is
      (below-less (has c.loop-v.found) (outside c.args.g.now (has c.args.self.now)) c.loop-v.v u (c.loop-v.invariant u) (sym c.borders.ensures ∙ w.if-borders.false))
]

pub returns : goal.returns
returns c = λ w. c.loop-v.invariant w ∙ below-all (outside c.args.g.now (has c.args.self.now)) c.loop-v.v w (λ out. outside_below c.args.g.now (has c.args.self.now) w c.nodes-v-end.ensures.graph (omega (arith, out, c.nodes-v-end.ensures.nodes, c.loop-v-test.false)))
