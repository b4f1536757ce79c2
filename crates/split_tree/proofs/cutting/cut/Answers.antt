use Rattle.std.proofs.Common.{◌<◌, arith}
use Rattle.tomo_base.specs.Sets.{has}
use Rattle.tomo_base.proofs.Ascending.{All-from_has}
use Rattle.tomo_base.proofs.Parting.{without_two-in}
use Rattle.split_tree.proofs.Halved.{side_of, halved}
use Rattle.split_tree.proofs.Sounding.{piece_below}
use Rattle.split_tree.proofs.cutting.cut.Goals as goal

pub marks_with-requires-clause-nodes : goal.marks_with-requires-clause-nodes
marks_with-requires-clause-nodes c =
    rw c.deref.ensures.value (All-from_has (λ v. v < c.args.n) c.args.parting.now.side.items (λ v h. piece_below c.args.n c.args.piece.now c.requires.stage.is v (without_two-in (has c.args.piece.now.nodes) _ _ v (c.requires.parting.parted.inside v h))))

pub marks_with-requires-clause-first : goal.marks_with-requires-clause-first
marks_with-requires-clause-first c =
    omega (arith, piece_below c.args.n c.args.piece.now c.requires.stage.is _ c.requires.parting.first, piece_below c.args.n c.args.piece.now c.requires.stage.is _ c.requires.parting.second, c.min.ensures)

pub marks_with-requires-clause-second : goal.marks_with-requires-clause-second
marks_with-requires-clause-second c =
    omega (arith, piece_below c.args.n c.args.piece.now c.requires.stage.is _ c.requires.parting.first, piece_below c.args.n c.args.piece.now c.requires.stage.is _ c.requires.parting.second, c.max.ensures)

pub marks_without-requires-clause-out : goal.marks_without-requires-clause-out
marks_without-requires-clause-out c =
    rw c.deref-2.ensures.value (All-from_has (λ v. v < c.args.n) c.args.parting.now.side.items (λ v h. piece_below c.args.n c.args.piece.now c.requires.stage.is v (without_two-in (has c.args.piece.now.nodes) _ _ v (c.requires.parting.parted.inside v h))))

pub part-requires-2-clause-node : goal.part-requires-2-clause-node
part-requires-2-clause-node c =
    omega (arith, piece_below c.args.n c.args.piece.now c.requires.stage.is _ c.requires.parting.first, piece_below c.args.n c.args.piece.now c.requires.stage.is _ c.requires.parting.second, c.max.ensures)

pub returns : goal.returns
returns c =
    halved c.args.n c.args.piece.now (record { a = c.min.result; b = c.max.result }) c.args.parting.now.side.items c.in_ok-near.near.items c.in_ok-far.far.items c.in_ok-left.left c.in_ok-right.right c.requires.stage
    (side_of c.args.n c.args.piece.now c.args.parting.now c.min.result c.max.result c.min.ensures c.max.ensures c.requires.parting)
    (rw c.deref.ensures.value at c.in_ok-near.ensures.marks) (rw (c.as_slice.ensures, c.deref-2.ensures.value) at c.in_ok-far.ensures.marks)
    (rw c.deref-3.ensures.value at c.in_ok-left.ensures) (rw c.deref-4.ensures.value at c.in_ok-right.ensures)
