use Rattle.std.proofs.Common.{◌≡◌, ◌++◌, map, take, decimal}
use Rattle.answers.proofs.solving.add_numbers.Given as goal

-- the open row has the numbers so far
abbrev pub invariant-loop-number : goal.invariant-loop-number
invariant-loop-number l = l.rows ≡ record { closed = l.initial.rows.closed; current = l.initial.rows.current ++ map decimal (take l.number-index l.numbers) }
