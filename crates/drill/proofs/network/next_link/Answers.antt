use Rattle.std.proofs.Common.{◌≡◌, ◌∙◌, length, ap, arith}
use Rattle.drill.specs.Generated.{pairs}
use Rattle.drill.proofs.Growth.{pair_link}
use Rattle.drill.proofs.PairLists.{pairs_few, pairs_are}
use Rattle.drill.proofs.network.next_link.Goals as goal

pub overflow_cast-pairs : goal.overflow_cast-pairs
overflow_cast-pairs c =
    let long : length c.args.pairs.now ≡ length (pairs c.args.n) = ap (λ ps. length ps) c.requires.pairs in
    omega (arith, long, (pairs_few c.args.n c.requires.some_nodes c.requires.few_nodes).1)

pub draw-place-requires : goal.draw-place-requires
draw-place-requires c = rw c.requires.pairs (pairs_few c.args.n c.requires.some_nodes c.requires.few_nodes).0

pub next_free-requires-clause-pairs : goal.next_free-requires-clause-pairs
next_free-requires-clause-pairs c = rw (c.requires.pairs, c.requires.nodes) (pairs_are c.args.n)

pub returns-clause-link : goal.returns-clause-link
returns-clause-link c = c.next_free.ensures ∙ pair_link c.args.n c.args.k c.args.draws.now c.draw-place.result c.args.pairs.now c.args.network.now.links c.if-k-n.false c.requires.pairs c.draw-place.ensures.gives
