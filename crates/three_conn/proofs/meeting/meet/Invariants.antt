use Rattle.std.proofs.Common.{◌+◌}
use Rattle.tomo_base.specs.Search.{entry_at}
use Rattle.gate_search.specs.Trees.{IsRanked}
use Rattle.three_conn.specs.WaysUp.{IsWayUp}
use Rattle.three_conn.proofs.meeting.meet.Given as goal

abbrev pub invariant-loop-u : goal.invariant-loop-u
invariant-loop-u l = record {
  first : IsRanked l.found l.u;
  second : IsRanked l.found l.v;
  ways : IsWayUp l.found l.y l.z l.u l.v;
}

abbrev pub decreases-loop-u : goal.decreases-loop-u
decreases-loop-u l = entry_at l.found.rank.items l.u + entry_at l.found.rank.items l.v
