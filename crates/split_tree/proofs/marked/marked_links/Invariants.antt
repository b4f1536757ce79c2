use Rattle.std.proofs.Common.{◌≡◌, take}
use Rattle.std.specs.List.{filter}
use Rattle.split_tree.specs.Parts.{is_inside}
use Rattle.split_tree.proofs.marked.marked_links.Given as goal

abbrev pub invariant-loop-link : goal.invariant-loop-link
invariant-loop-link l = l.kept.items ≡ filter (is_inside l.marks) (take l.link-index l.links)
