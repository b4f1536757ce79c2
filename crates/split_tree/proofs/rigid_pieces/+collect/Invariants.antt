use Rattle.std.proofs.Common.{◌≡◌, ◌++◌, take}
use Rattle.std.specs.List.{flat_map}
use Rattle.tomo_base.specs.SetLists.{lists_of}
use Rattle.split_tree.specs.Trees.{rigids_of}
use Rattle.split_tree.proofs.rigid_pieces.+collect.Given as goal

-- the rigid pieces of the parts so far are added
abbrev pub invariant-loop-part : goal.invariant-loop-part
invariant-loop-part l = lists_of l.found.items ≡ lists_of l.initial.found.items ++ flat_map rigids_of (take l.part-index l.part-items)
