use Rattle.std.proofs.Common.{◌||◌, ◌==◌, ◌+◌, take, get_or, arith, sym, ◌∙◌}
use Rattle.std.proofs.lemmas.List.{take_all}
use Rattle.tomo_base.specs.Met.{is_new}
use Rattle.tomo_base.specs.declared.graph.Hop.{Hop}
use Rattle.tomo_base.proofs.Meeting.{tells-same, new_more, new_past, new_none}
use Rattle.tomo_base.proofs.pocket.meet.Goals as goal
use Rattle.tomo_base.proofs.pocket.meet.Goals.{then-not-has, else-not-has}

pub loop-hop-init : goal.loop-hop-init
loop-hop-init c = λ n q below is. tells-same n q (λ w. q w || is_new c.args.p.now (take 0 c.args.hops.now) w) c.args.before (λ w. new_none q c.args.p.now w) is

pub loop-hop-preserved : goal.loop-hop-preserved
loop-hop-preserved c =
    let p = c.args.p.now in
    let hops = c.args.hops.now in
    let i = c.loop-hop.hop-index in
    let d : Hop = record { node = 0; link = 0 } in
    elim c.if-not-has.branch [
      | then-not-has w ↦ rw w.met-is (λ n q below is.
          tells-same n (λ u. ((get_or hops i d).node == u) || (q u || is_new p (take i hops) u)) (λ u. q u || is_new p (take (i + 1) hops) u) w.with-met.result
          (λ u. new_more q p hops i d u c.loop-hop-test.true (sym c.has.ensures ∙ w.if-not-has.true))
          (w.with-met.ensures n (λ u. q u || is_new p (take i hops) u) (below i d c.loop-hop-test.true) (c.loop-hop.invariant n q below is)))
      | else-not-has w ↦ rw w.met-is (λ n q below is.
          tells-same n (λ u. q u || is_new p (take i hops) u) (λ u. q u || is_new p (take (i + 1) hops) u) c.loop-hop.met
          (λ u. new_past q p hops i d u c.loop-hop-test.true (sym c.has.ensures ∙ w.if-not-has.false)) (c.loop-hop.invariant n q below is))
    ]

pub returns : goal.returns
returns c =
    let all = take_all c.loop-hop.hop-index c.args.hops.now (omega (arith, c.loop-hop-test.false)) in
    λ n q below is. rw all at (c.loop-hop.invariant n q below is)
