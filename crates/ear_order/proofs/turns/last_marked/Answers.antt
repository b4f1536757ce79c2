use Rattle.std.proofs.Common.{◌≡◌, false, subst, arith}
use Rattle.tomo_base.specs.Search.{mark_of}
use Rattle.tomo_base.proofs.Ascending.{place_in}
use Rattle.ear_order.proofs.turns.last_marked.Goals as goal

pub returns-clause-none : goal.returns-clause-none
returns-clause-none c = λ v h.
    let k = place_in c.args.nodes.now v h in
    subst (λ z. mark_of c.args.marks.now z ≡ false) k.2 (c.loop-place.invariant.1 k.0 (omega (arith, c.loop-place-test.false)) k.1)
