use Rattle.std.proofs.Common.{ap, sym, ◌∙◌, arith}
use Rattle.tomo_base.specs.Sets.{has}
use Rattle.cross_links.proofs.Found.{has_any, none_more, some_path}
use Rattle.cross_links.proofs.meeting.path_with.Goals as goal

pub returns-then-contains-clause-holds : goal.returns-then-contains-clause-holds
returns-then-contains-clause-holds c =
    ap (λ p. has p c.args.node) (sym c.path.ensures) ∙ has_any c.path.result.now c.args.node ∙ sym c.contains.ensures.value ∙ c.if-contains.true

pub loop-i-preserved : goal.loop-i-preserved
loop-i-preserved c =
    none_more c.args.paths.now c.args.node c.loop-i.i c.loop-i.invariant
    (ap (λ p. has p c.args.node) (sym c.path.ensures) ∙ has_any c.path.result.now c.args.node ∙ sym c.contains.ensures.value ∙ c.if-contains.false)

pub unreachable-requires : goal.unreachable-requires
unreachable-requires c = some_path c.args.paths.now c.args.node c.requires (λ k l. c.loop-i.invariant k (omega (arith, l, c.loop-i-test.false, c.len-i-end.ensures.len)))
