use Rattle.std.proofs.Common.{take}
use Rattle.topology.specs.Choice.{AreFineChoices, IsChoiceOf}
use Rattle.topology.proofs.choice.read_choice.Given as goal

abbrev pub invariant-loop-place : goal.invariant-loop-place
invariant-loop-place l = record { so_far : IsChoiceOf l.t (take l.place l.rows.closed) l.choice; fine : AreFineChoices l.t.names l.rows.closed l.place }
