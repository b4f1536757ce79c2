use Rattle.std.proofs.Common.{◌≡◌, ◌++◌, take}
use Rattle.tomo_base.specs.SetLists.{lists_of}
use Rattle.answers.proofs.parts.add_sets.Given as goal

-- the sets so far are added
abbrev pub invariant-loop-i : goal.invariant-loop-i
invariant-loop-i l = lists_of l.lists.items ≡ lists_of l.initial.lists.items ++ take l.i l.sets
