use Rattle.std.proofs.Common.{◌++◌, sym, ap, ◌∙◌}
use Rattle.drill.specs.Generated.{pairs_of, pairs_below}
use Rattle.drill.proofs.PairLists.{pairs_below_more}
use Rattle.drill.proofs.pairs.all_pairs.Goals as goal

pub loop-a-init : goal.loop-a-init
unfolding pairs_below
loop-a-init c = c.new-pairs.ensures.items

pub loop-a-preserved : goal.loop-a-preserved
loop-a-preserved c = c.in_ok-add_pairs.ensures ∙ (ap (λ ps. ps ++ pairs_of c.loop-a.a c.args.n) c.loop-a.invariant ∙ sym (pairs_below_more c.args.n c.loop-a.a))
