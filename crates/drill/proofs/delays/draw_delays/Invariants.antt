use Rattle.std.proofs.Common.{◌≡◌}
use Rattle.drill.specs.Draws.{state, draws, drawn_delay_limit}
use Rattle.drill.proofs.delays.draw_delays.Given as goal

abbrev pub invariant-loop : goal.invariant-loop
invariant-loop l = (l.draws ≡ state l.initial.draws l.counter) × (l.delays.items ≡ draws l.initial.draws drawn_delay_limit l.counter)
