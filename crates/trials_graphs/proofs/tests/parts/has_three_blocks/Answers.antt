use Rattle.std.proofs.Common.{◌<◌, ℕ, List, [], length, ap, arith}
use Rattle.trials_graphs.proofs.tests.parts.has_three_blocks.Goals as goal

pub split-requires-clause-nodes : goal.split-requires-clause-nodes
split-requires-clause-nodes c =
    let l : c.args.block < length c.in_ok-parts.parts.list = omega (arith, c.if-block-len.false, c.len.ensures, ap (λ (bs : List (List ℕ)). length bs) c.list.ensures) in
    rw (c.at-2.ensures, c.list-2.ensures) (c.in_ok-parts.ensures.blocks.with_it.nodes c.args.block [] l).below
