use Rattle.std.proofs.Common.{◌≡◌, ◌+◌, ◌<◌, ◌++◌, [], ◌∷◌, arith, length, take, sym, ap, ◌∙◌}
use Rattle.std.proofs.lemmas.List.{take_more}
use Rattle.tomo_base.specs.Sets.{has}
use Rattle.tomo_base.specs.Blocks.{IsBlock}
use Rattle.tomo_base.specs.SetLists.{IsSetBelow}
use Rattle.mmp_place.proofs.Gathering.{fills_past, fills_more, fills_same}
use Rattle.mmp_place.proofs.rule.fill_three_blocks.Goals as goal
use Rattle.mmp_place.proofs.rule.fill_three_blocks.Goals.{then-len-gt-SMALL+in_ok-three_blocks+in_ok-fill_each, else-len-gt-SMALL}

pub three_blocks_in-requires-clause-nodes : goal.three_blocks_in-requires-clause-nodes
three_blocks_in-requires-clause-nodes c = rw c.at-block.ensures (c.requires.nodes c.loop-i.i [] (omega (arith, c.loop-i-test.true, c.len-i-end.ensures)))

pub loop-i-preserved : goal.loop-i-preserved
loop-i-preserved c =
    let bs = c.args.blocks.now in
    let i = c.loop-i.i in
    let b = c.at-block.result.now in
    let l : i < length bs = omega (arith, c.loop-i-test.true, c.len-i-end.ensures) in
    let is_block : IsBlock c.args.g.now (has b) = rw c.at-block.ensures (c.requires.blocks i [] l) in
    let below : IsSetBelow c.args.g.now.nodes b = rw c.at-block.ensures (c.requires.nodes i [] l) in
    let lists : take i bs ++ b ∷ [] ≡ take (i + 1) bs = ap (λ y. take i bs ++ y ∷ []) c.at-block.ensures ∙ sym (take_more bs i [] l) in
    elim c.if-len-gt-SMALL.branch [
      | then-len-gt-SMALL+in_ok-three_blocks+in_ok-fill_each s ↦ rw s.m-is (fills_same c.args.g.now (take i bs ++ b ∷ []) (take (i + 1) bs) (has c.args.m.now) (has s.fill_each.new.m) lists
          (fills_more c.args.g.now (take i bs) b s.in_ok-three_blocks.three_blocks (has c.args.m.now) (has c.loop-i.m) (has s.fill_each.new.m) is_block s.in_ok-three_blocks.ensures s.in_ok-fill_each.ensures c.loop-i.invariant))
      | else-len-gt-SMALL s ↦ rw s.m-is (fills_same c.args.g.now (take i bs ++ b ∷ []) (take (i + 1) bs) (has c.args.m.now) (has c.loop-i.m) lists
          (fills_past c.args.g.now (take i bs) b (has c.args.m.now) (has c.loop-i.m) below (omega (arith, s.if-len-gt-SMALL.false, c.len.ensures.len)) c.loop-i.invariant))
    ]
