use Rattle.std.proofs.Common.{◌+◌, ◌∷◌, [], sym, ◌∙◌, arith, append_assoc}
use Rattle.std.proofs.lemmas.List.{append-nil}
use Rattle.drill.specs.Generated.{pair, pairs_of}
use Rattle.drill.proofs.PairLists.{pairs_of_none, pairs_of_more}
use Rattle.drill.proofs.pairs.add_pairs.Goals as goal

pub loop-b-init : goal.loop-b-init
loop-b-init c = (omega arith, rw (pairs_of_none c.args.a (c.args.a + 1) (omega arith)) (sym (append-nil c.args.pairs.now.items)))

pub loop-b-preserved : goal.loop-b-preserved
loop-b-preserved c = (
  omega (arith, c.loop-b.invariant.0),
  c.in_ok-push.ensures.items ∙ rw (c.loop-b.invariant.1, pairs_of_more c.args.a c.loop-b.b c.loop-b.invariant.0) (append_assoc c.args.pairs.now.items (pairs_of c.args.a c.loop-b.b) (pair c.args.a c.loop-b.b ∷ [])),
)
