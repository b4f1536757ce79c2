use Rattle.std.proofs.Common.{◌≡◌, ◌∙◌, ◌/◌, ◌≤◌, length, ap, arith}
use Rattle.tomo_base.specs.Sets.{has, count}
use Rattle.tomo_base.specs.Search.{mark_of}
use Rattle.tomo_base.proofs.Counts.{count-same}
use Rattle.tomo_base.proofs.Ascending.{has-at}
use Rattle.split_tree.proofs.AllLinked.{complete_is_rigid}
use Rattle.split_tree.proofs.Halving.{size_of, few_nodes}
use Rattle.split_tree.proofs.Halved.{pair_cut_of, three_connected_marks}
use Rattle.split_tree.proofs.cutting.parting_of.Goals as goal

pub is_complete-requires-clause-nodes : goal.is_complete-requires-clause-nodes
is_complete-requires-clause-nodes c = few_nodes c.args.n c.args.piece.now c.requires.stage.is c.requires.few

pub guesses-requires-clause-nodes : goal.guesses-requires-clause-nodes
guesses-requires-clause-nodes c = few_nodes c.args.n c.args.piece.now c.requires.stage.is c.requires.few

pub returns-then-is_complete-clause-whole : goal.returns-then-is_complete-clause-whole
returns-then-is_complete-clause-whole c = complete_is_rigid c.args.n c.args.piece.now c.requires.stage.is (c.is_complete.ensures c.if-is_complete.true) c.requires.four

pub probe-requires-clause-root : goal.probe-requires-clause-root
probe-requires-clause-root c =
    let xs = c.as_slice-nodes.result.now in
    let many : 4 ≤ length xs = rw c.as_slice-nodes.ensures c.requires.four in
    rw c.deref.ensures.value (c.in_ok-marks.ensures.marks _ ∙ has-at xs (length xs / 2) 0 (omega (arith, many)))

pub probe-requires-clause-four : goal.probe-requires-clause-four
probe-requires-clause-four c =
    let nodes = c.args.piece.now.nodes in
    let marks = c.in_ok-marks.marks.items in
    let all : count c.args.n (mark_of marks) ≡ length nodes = count-same c.args.n (mark_of marks) (has nodes) (λ v l. c.in_ok-marks.ensures.marks v ∙ ap (λ xs. has xs v) c.as_slice-nodes.ensures)
    ∙ size_of c.args.n nodes c.requires.stage.is.set in
    rw (c.in_ok-g.ensures, c.deref.ensures.value) (omega (arith, all, c.requires.four))

pub returns-in-Some-3-clause-parting : goal.returns-in-Some-3-clause-parting
returns-in-Some-3-clause-parting c = pair_cut_of c.args.n c.args.piece.now c.in_ok-marks.marks.items c.in-Some-3.parting c.requires.stage
    (λ v. c.in_ok-marks.ensures.marks v ∙ ap (λ xs. has xs v) c.as_slice-nodes.ensures)
    (rw (c.in_ok-g.ensures, c.deref.ensures.value) at (rw c.in-Some-3.is at c.in_ok-parting.ensures.parting))

pub returns-clause-whole : goal.returns-clause-whole
returns-clause-whole c = three_connected_marks c.args.n c.args.piece.now c.in_ok-marks.marks.items c.requires.stage.is
    (λ v. c.in_ok-marks.ensures.marks v ∙ ap (λ xs. has xs v) c.as_slice-nodes.ensures)
    (rw (c.in_ok-g.ensures, c.deref.ensures.value) at (rw c.in-None.is at c.in_ok-parting.ensures.whole))
