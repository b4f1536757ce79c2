use Rattle.std.proofs.Common.{◌<◌, ap, sym, ◌∙◌, ltb-true, All, subst}
use Rattle.tomo_base.specs.Sets.{has}
use Rattle.tomo_base.specs.SetLists.{IsSetBelow}
use Rattle.tomo_base.proofs.Ascending.{All-from_has}
use Rattle.mmp_place.specs.Rule.{filled_each, IsPlacedByRule}
use Rattle.mmp_place.specs.Steps.{FillsThreeBlocks, large}
use Rattle.mmp_place.proofs.Gathering.{placed_by_steps, placed_nodes}
use Rattle.mmp_place.proofs.Whole.{placed_is_lowest}
use Rattle.mmp_place.proofs.rule.mmp.Goals as goal

pub fill_large-requires : goal.fill_large-requires
fill_large-requires c = subst (λ bs. All (IsSetBelow c.args.g.now.nodes) bs) (sym c.list-2.ensures) c.in_ok-parts.ensures.blocks.with_it.nodes

pub fill-requires : goal.fill-requires
fill-requires c = All-from_has (λ v. v < c.args.g.now.nodes) c.in_ok-all.all (λ v h. ltb-true v c.args.g.now.nodes (sym (c.in_ok-all.ensures v) ∙ h))

-- what the steps leave
abbrev Placed : goal.After-drop-parts-inside-3 → Type 0
Placed c = IsPlacedByRule c.args.g.now (has c.fill.new.m)

steps : (c : goal.After-drop-parts-inside-3) → Placed c
steps c =
    let g = c.args.g.now in
    let blocks = c.in_ok-parts.parts.list in
    let m2 = has c.fill_three_blocks.new.m in
    placed_by_steps g c.nodes-nodes.ensures.graph blocks c.in_ok-parts.ensures.blocks.with_it (has c.in_ok-m.m) m2 (has c.fill_large.new.m) (has c.fill.new.m) (has c.in_ok-all.all)
    c.in_ok-m.ensures (subst (λ bs. FillsThreeBlocks g bs (has c.in_ok-m.m) m2) c.list.ensures c.in_ok-fill_three_blocks.ensures)
    (λ v. c.in_ok-fill_large.ensures v ∙ ap (λ bs. filled_each g (large bs) m2 v) c.list-2.ensures) c.in_ok-all.ensures c.in_ok-fill.ensures

pub returns-clause-placed : goal.returns-clause-placed
returns-clause-placed c = steps c

pub returns-clause-lowest : goal.returns-clause-lowest
returns-clause-lowest c = placed_is_lowest c.args.g.now (has c.fill.new.m) c.nodes-nodes.ensures.graph c.requires.connected c.requires.three (steps c)

pub returns-clause-nodes : goal.returns-clause-nodes
returns-clause-nodes c =
    let g = c.args.g.now in
    let blocks = c.in_ok-parts.parts.list in
    let m2 = has c.fill_three_blocks.new.m in
    All-from_has (λ v. v < g.nodes) c.fill.new.m
    (placed_nodes g c.nodes-nodes.ensures.graph blocks c.in_ok-parts.ensures.blocks.with_it (has c.in_ok-m.m) m2 (has c.fill_large.new.m) (has c.fill.new.m) (has c.in_ok-all.all)
    c.in_ok-m.ensures (subst (λ bs. FillsThreeBlocks g bs (has c.in_ok-m.m) m2) c.list.ensures c.in_ok-fill_three_blocks.ensures)
    (λ v. c.in_ok-fill_large.ensures v ∙ ap (λ bs. filled_each g (large bs) m2 v) c.list-2.ensures) c.in_ok-all.ensures c.in_ok-fill.ensures)
