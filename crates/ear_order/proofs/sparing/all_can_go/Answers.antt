use Rattle.std.proofs.Common.{sym, subst, inl, inr, arith}
use Rattle.std.proofs.lemmas.Bool.{cases_eq}
use Rattle.tomo_base.specs.Search.{mark_of, entry_at}
use Rattle.ear_order.specs.Easy.{CanGo}
use Rattle.ear_order.proofs.sparing.all_can_go.Goals as goal

pub loop-k-preserved : goal.loop-k-preserved
loop-k-preserved c = λ j low lt. elim (cases_eq j c.loop-k.k) [
  | inl same ↦ subst (λ z. CanGo c.args.g.now (mark_of c.args.gone.now) (entry_at c.args.rank.now) (entry_at c.args.way.now z)) (sym same) (c.can_go.ensures.yes c.if-not-can_go.false)
  | inr other ↦ c.loop-k.invariant j low (omega arith)
]

pub returns : goal.returns
returns c = λ yes k low l. c.loop-k.invariant k low (omega (arith, l, c.loop-k-test.false))
