use Rattle.std.proofs.Common.{◌≡◌}
use Rattle.answers.proofs.TermRows.{term_rows}
use Rattle.answers.proofs.linking.term_rows.Given as goal

abbrev pub invariant-loop-term : goal.invariant-loop-term
invariant-loop-term l = l.rows ≡ term_rows l.topology.names l.paths l.term-items l.term-index
