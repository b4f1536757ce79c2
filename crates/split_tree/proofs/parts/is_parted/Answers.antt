use Rattle.std.proofs.Common.{length, sym, ◌∙◌, ap, arith}
use Rattle.std.proofs.lemmas.Bool.{eqb-false}
use Rattle.tomo_base.specs.Sets.{has}
use Rattle.split_tree.proofs.Halved.{pair_cut}
use Rattle.split_tree.proofs.Shut.{parted_of}
use Rattle.split_tree.proofs.parts.is_parted.Goals as goal

pub returns : goal.returns
returns c = λ yes. pair_cut c.args.n c.args.piece.now c.args.way.now c.requires (parted_of c.args.n c.args.piece.now c.args.way.now.side.items c.args.way.now.first c.args.way.now.second c.in_ok-among.among.items c.in_ok-marks.marks.items c.requires.is
    (λ v. c.in_ok-among.ensures.marks v ∙ ap (λ xs. has xs v) c.as_slice-nodes.ensures)
    (λ v. c.in_ok-marks.ensures.marks v ∙ ap (λ xs. has xs v) c.deref-2.ensures.value)
    (omega (arith, eqb-false _ _ (sym c.is_empty.ensures ∙ c.if-is_empty.false), ap length c.deref.ensures.value, c.deref.ensures.len))
    (rw c.deref.ensures.value at (sym c.is_among.ensures ∙ c.if-not-is_among.false))
    (rw (c.as_slice-nodes.ensures, c.deref-3.ensures.value) at (sym c.leaves_some.ensures ∙ c.if-not-leaves_some.false))
    (rw (c.as_slice.ensures, c.deref-4.ensures.value) at (sym c.is_shut.ensures ∙ yes)))
