use Rattle.std.proofs.Common.{refl}
use Rattle.cert_check.proofs.Seen.{set_more}
use Rattle.cert_check.proofs.pockets.node_set.Goals as goal

pub loop-v-preserved : goal.loop-v-preserved
loop-v-preserved c = set_more c.args.nodes.now _ _ c.loop-v.v-index 0 _ c.requires.ascending c.loop-v-test.true refl c.loop-v.invariant c.in_ok-insert.ensures.ascending c.in_ok-insert.ensures.nodes
