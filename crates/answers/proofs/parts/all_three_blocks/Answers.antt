use Rattle.std.proofs.Common.{◌≡◌, ◌+◌, ◌<◌, ◌++◌, [], ◌∷◌, arith, length, take, refl, sym, ap, ◌∙◌}
use Rattle.std.proofs.lemmas.List.{take_more, take_all}
use Rattle.tomo_base.specs.Sets.{has}
use Rattle.tomo_base.specs.Blocks.{IsBlock, IsThreeBlock}
use Rattle.tomo_base.specs.SetLists.{IsSetBelow, lists_of}
use Rattle.blocks.proofs.SameSets.{node_sets}
use Rattle.answers.proofs.ThreeBlocks.{gathers_past, gathers_more, gathers_same, gathers_all, added_few, all_sets}
use Rattle.answers.proofs.parts.all_three_blocks.Goals as goal
use Rattle.answers.proofs.parts.all_three_blocks.Goals.{then-len-gt2+in_ok-sets+in_ok-add_sets, else-len-gt2}

pub three_blocks_in-requires-clause-nodes : goal.three_blocks_in-requires-clause-nodes
three_blocks_in-requires-clause-nodes c = rw c.at-block.ensures (c.requires.blocks.with_it.nodes c.loop-i.i [] (omega (arith, c.loop-i-test.true, c.len-i-end.ensures)))

pub loop-i-preserved : goal.loop-i-preserved
loop-i-preserved c =
    let g = c.args.g.now in
    let bs = c.args.blocks.now in
    let i = c.loop-i.i in
    let b = c.at-block.result.now in
    let lists = lists_of c.loop-i.lists.items in
    let l : i < length bs = omega (arith, c.loop-i-test.true, c.len-i-end.ensures) in
    let is_block : IsBlock g (has b) = rw c.at-block.ensures (c.requires.blocks.with_it.each i [] l) in
    let below : IsSetBelow g.nodes b = rw c.at-block.ensures (c.requires.blocks.with_it.nodes i [] l) in
    let more : take i bs ++ b ∷ [] ≡ take (i + 1) bs = ap (λ y. take i bs ++ y ∷ []) c.at-block.ensures ∙ sym (take_more bs i [] l) in
    elim c.if-len-gt2.branch [
      | then-len-gt2+in_ok-sets+in_ok-add_sets s ↦ rw s.lists-is (
        gathers_same g (take i bs ++ b ∷ []) (take (i + 1) bs) (lists ++ s.in_ok-sets.sets) (lists_of s.add_sets.new.lists.items) more (sym s.in_ok-add_sets.ensures)
            (gathers_more g (take i bs) lists b s.in_ok-sets.sets is_block s.in_ok-sets.ensures.sets c.loop-i.invariant.0),
        added_few c.loop-i.lists.items s.add_sets.new.lists.items s.in_ok-sets.sets g.nodes i s.in_ok-add_sets.ensures s.in_ok-sets.ensures.few c.requires.limit c.loop-i.invariant.1,
      )
      | else-len-gt2 s ↦ rw s.lists-is (
        gathers_same g (take i bs ++ b ∷ []) (take (i + 1) bs) lists lists more refl (gathers_past g (take i bs) lists b below (omega (arith, s.if-len-gt2.false, c.len.ensures.len)) c.loop-i.invariant.0),
        omega (arith, c.loop-i.invariant.1),
      )
    ]

pub ordered_sets-requires-clause-sets : goal.ordered_sets-requires-clause-sets
ordered_sets-requires-clause-sets c = node_sets c.args.g.now.nodes (lists_of c.loop-i.lists.items) (omega (arith, c.requires.limit)) c.loop-i.invariant.0.nodes

pub returns-clause-sets : goal.returns-clause-sets
returns-clause-sets c =
    let g = c.args.g.now in
    let bs = c.args.blocks.now in
    let lists = lists_of c.loop-i.lists.items in
    let whole : take c.loop-i.i bs ≡ bs = take_all c.loop-i.i bs (omega (arith, c.loop-i-test.false, c.len-i-end.ensures)) in
    all_sets c.ordered_sets.result g.nodes (IsThreeBlock g) lists
    (gathers_all g bs lists c.nodes-nodes.ensures.graph c.requires.blocks.with_it (gathers_same g (take c.loop-i.i bs) bs lists lists whole refl c.loop-i.invariant.0)) c.ordered_sets.ensures.ascending c.ordered_sets.ensures.same
