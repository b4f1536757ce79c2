use Rattle.std.proofs.Common.{◌≡◌, ◌∷◌, map, take, decimal}
use Rattle.drill.proofs.report.add_numbers.Given as goal

-- the open row has the word and the numbers so far
abbrev pub invariant-loop-number : goal.invariant-loop-number
invariant-loop-number l = l.rows ≡ record { closed = l.initial.rows.closed; current = l.word ∷ map decimal (take l.number-index l.numbers) }
