use Rattle.std.proofs.Common.{◌≡◌, ◌∙◌, subst}
use Rattle.tomo_base.specs.Sets.{Within}
use Rattle.tomo_base.specs.Search.{mark_of}
use Rattle.three_conn.specs.Held.{IsHeld, IsWholeBeside}
use Rattle.three_conn.proofs.Holding.{held_whole}
use Rattle.three_conn.proofs.Whole.{then_whole}
use Rattle.three_conn.proofs.probing.beside.Goals as goal

pub returns-clause-whole : goal.returns-clause-whole
returns-clause-whole c =
    let g = c.args.g.now in
    let w = mark_of c.args.nodes.now in
    let now = mark_of c.grow.new.known.held.items in
    let same : c.grow.new.known.root ≡ c.args.root = c.grow.ensures.root ∙ c.in_ok-known.ensures.root in
    let held : IsHeld g w c.args.root now = subst (λ z. IsHeld g w z now) same c.grow.ensures.known.held in
    then_whole c.grow.result (Within w now) (IsWholeBeside g w c.args.root) c.grow.ensures.whole (held_whole g w now c.args.root held)
