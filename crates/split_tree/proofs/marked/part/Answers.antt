use Rattle.std.proofs.Common.{◌∙◌, ap, sym}
use Rattle.std.specs.List.{filter}
use Rattle.tomo_base.specs.Search.{mark_of}
use Rattle.split_tree.specs.Parts.{is_inside}
use Rattle.split_tree.proofs.MarkedLinks.{links_below, marked_linked, marked_added}
use Rattle.split_tree.proofs.marked.part.Goals as goal
use Rattle.split_tree.proofs.marked.part.Goals.{then-not-has_link+in_ok-push, else-not-has_link}

pub marked_links-requires : goal.marked_links-requires
marked_links-requires c = rw (c.as_slice-2.ensures, c.requires.marks) (links_below c.args.n c.args.piece.now.links c.requires.piece.links)

pub returns : goal.returns
returns c =
    let nodes_are = c.from_vec.ensures ∙ (c.in_ok-nodes.ensures ∙ ap (filter (mark_of c.args.marks.now)) c.as_slice.ensures) in
    let kept_are = c.in_ok-links.ensures ∙ ap (filter (is_inside c.args.marks.now)) c.as_slice-2.ensures in
    elim c.if-not-has_link.branch [
      | then-not-has_link+in_ok-push w ↦ marked_added c.args.n c.args.piece.now c.args.marks.now c.args.pair _ c.in_ok-links.links.items _ c.requires.piece.links c.requires.ordered c.requires.node nodes_are kept_are
          (rw c.deref.ensures.value at (sym c.has_link.ensures ∙ w.if-not-has_link.true)) (c.from_vec-2.ensures ∙ (ap (λ v. v.items) w.links-is ∙ w.in_ok-push.ensures.items))
      | else-not-has_link w ↦ marked_linked c.args.n c.args.piece.now c.args.marks.now c.args.pair _ c.in_ok-links.links.items _ c.requires.piece.links c.requires.ordered nodes_are kept_are
          (rw c.deref.ensures.value at (sym c.has_link.ensures ∙ w.if-not-has_link.false)) (c.from_vec-2.ensures ∙ ap (λ v. v.items) w.links-is)
    ]
