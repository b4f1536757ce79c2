use Rattle.std.proofs.Common.{◌≡◌, ◌+◌, length, ap, ◌∙◌, arith}
use Rattle.cross_links.proofs.Turned.{length-turned_onto}
use Rattle.cross_links.proofs.adding.add_term.Goals as goal

pub add-requires-clause-nodes : goal.add-requires-clause-nodes
add-requires-clause-nodes c =
    let size : length c.deref.result.now ≡ length c.args.a.now + length c.args.b.now = ap length (c.deref.ensures.value ∙ c.in_ok-whole.ensures) ∙ length-turned_onto c.args.a.now c.args.b.now in
    omega (arith, size, c.requires.nodes)
