use Rattle.tomo_base.specs.Search.{mark_of}
use Rattle.three_conn.proofs.Together.{one_root}
use Rattle.three_conn.proofs.Whole.{three_connected_in}
use Rattle.three_conn.proofs.probing.seek.Goals as goal

pub returns-in-None-clause-whole : goal.returns-in-None-clause-whole
returns-in-None-clause-whole c =
    let w = mark_of c.args.nodes.now in
    three_connected_in c.args.g.now w c.nodes-count.ensures.graph c.requires.four
    (one_root c.args.g.now w c.args.first c.nodes-count.ensures.graph (rw c.in-None.is at c.in_ok-parting-2.ensures.whole) (rw c.in_default.is at c.in_ok-parting.ensures.whole))
