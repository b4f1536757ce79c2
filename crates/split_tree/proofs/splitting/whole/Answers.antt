use Rattle.std.proofs.Common.{◌∙◌, ap}
use Rattle.tomo_base.specs.Sets.{has}
use Rattle.split_tree.proofs.MarkedLinks.{links_below}
use Rattle.split_tree.proofs.Topmost.{top_piece_of, top_stage}
use Rattle.split_tree.proofs.splitting.whole.Goals as goal

pub marked_links-requires : goal.marked_links-requires
marked_links-requires c = rw (c.links.ensures.links, c.deref.ensures.value, c.in_ok-marks.ensures.length, c.nodes.ensures.nodes) (links_below c.args.g.now.nodes c.args.g.now.links c.links.ensures.graph)

pub returns-clause-piece : goal.returns-clause-piece
returns-clause-piece c = top_piece_of c.args.g.now c.args.block.now c.in_ok-marks.marks.items _ c.links.ensures.graph c.requires.block
    (record { ascending = c.as_slice-nodes.ensures.ascending; below = c.requires.nodes })
    (λ v. c.in_ok-marks.ensures.marks v ∙ ap (λ xs. has xs v) c.as_slice-nodes.ensures.nodes) (c.in_ok-from_slice.ensures ∙ c.as_slice-nodes.ensures.nodes)
    (c.from_vec.ensures ∙ (rw (c.deref.ensures.value, c.links.ensures.links) at c.in_ok-links.ensures))

pub returns-clause-stage : goal.returns-clause-stage
returns-clause-stage c = top_stage c.args.g.now c.args.block.now c.in_ok-marks.marks.items _ c.links.ensures.graph c.requires.block
    (record { ascending = c.as_slice-nodes.ensures.ascending; below = c.requires.nodes })
    (λ v. c.in_ok-marks.ensures.marks v ∙ ap (λ xs. has xs v) c.as_slice-nodes.ensures.nodes) (c.in_ok-from_slice.ensures ∙ c.as_slice-nodes.ensures.nodes)
    (c.from_vec.ensures ∙ (rw (c.deref.ensures.value, c.links.ensures.links) at c.in_ok-links.ensures)) (rw c.links.ensures.links at c.links.ensures.few)
