use Rattle.topology.proofs.Reading.{HasRead}
use Rattle.topology.proofs.draft.draft_of.Given as goal

abbrev pub invariant-loop-place : goal.invariant-loop-place
invariant-loop-place l = HasRead l.header l.rows.closed l.draft.names l.draft.links l.place
