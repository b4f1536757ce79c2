use Rattle.std.proofs.Common.{◌≤◌, ◌-◌, length}
use Rattle.std.specs.Io.KnownBytes.{Consumes}
use Rattle.outside.proofs.file_shelf.take_all.Given as goal

-- what was taken is within the limit, and is what the reader no longer has
abbrev pub invariant-loop-out : goal.invariant-loop-out
invariant-loop-out g l =
    (length l.out.items ≤ l.fn.limit)
    × Consumes (g.F.Read.remaining l.fn.file) (g.F.Read.remaining l.file) l.out.items

-- each turn takes a byte or ends
abbrev pub decreases-loop-out : goal.decreases-loop-out
decreases-loop-out g l = l.fn.limit - length l.out.items
