use Rattle.std.proofs.Common.{◌≡◌, take}
use Rattle.std.specs.List.{filter}
use Rattle.tomo_base.specs.Search.{mark_of}
use Rattle.blocks.proofs.marks.marked_nodes.Given as goal

-- the marked nodes so far
abbrev pub invariant-loop-v : goal.invariant-loop-v
invariant-loop-v l = l.kept.items ≡ filter (mark_of l.marks) (take l.v-index l.nodes)
