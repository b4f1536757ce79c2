use Rattle.std.proofs.Common.{◌≡◌, length}
use Rattle.answers.proofs.Solved.{Solved}
use Rattle.answers.proofs.solving.add_rounds.Given as goal

-- the rounds so far are solved, and there is room for the delays of the next
abbrev pub invariant-loop-k : goal.invariant-loop-k
invariant-loop-k l =
    Solved l.measured.checked.topology.graph l.measured.checked.plan l.measured.rounds l.initial.rows l.k l.rows l.refused
    × (length l.delays ≡ length l.initial.delays)
