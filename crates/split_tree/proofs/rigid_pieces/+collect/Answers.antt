use Rattle.std.proofs.Common.{◌≡◌, ◌++◌, ◌∙◌, take, ap, sym}
use Rattle.std.specs.List.{flat_map}
use Rattle.std.proofs.lemmas.List.{take_all}
use Rattle.tomo_base.specs.SetLists.{lists_of}
use Rattle.split_tree.specs.Trees.{rigids_of}
use Rattle.split_tree.proofs.Rows.{rigids_split}
use Rattle.split_tree.proofs.rigid_pieces.+collect.Goals as goal

pub returns-after-loop-part : goal.returns-after-loop-part
returns-after-loop-part n c =
    let all : flat_map rigids_of (take c.loop-part.part-index c.as_slice-part-items.result.now) ≡ rigids_of c.args.tree.now =
    ap (flat_map rigids_of) (take_all c.loop-part.part-index c.as_slice-part-items.result.now c.loop-part-test.false ∙ c.as_slice-part-items.ensures)
    ∙ (sym (rigids_split c.in-Split.piece c.in-Split.pair c.in-Split.parts) ∙ ap rigids_of (sym c.in-Split.is)) in
    c.loop-part.invariant ∙ ap (λ xs. lists_of c.args.found.now.items ++ xs) all
