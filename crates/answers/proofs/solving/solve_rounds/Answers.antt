use Rattle.std.proofs.Common.{arith}
use Rattle.answers.proofs.Solved.{solved_length, solved_whole}
use Rattle.answers.proofs.solving.solve_rounds.Goals as goal

pub add_counts-requires-clause-room : goal.add_counts-requires-clause-room
add_counts-requires-clause-room c =
    let (outcomes, are, adds, count) = c.in_ok-refused.ensures in
    omega (arith, solved_length c.args.measured.now.rounds outcomes c.add_links.new.rows c.add_rounds.new.rows are.of_rounds adds, c.in_ok-add_links.ensures.few, c.args.measured.now.few)

pub returns : goal.returns
returns c =
    let (outcomes, are, adds, count) = c.in_ok-refused.ensures in (
      outcomes,
      are,
      rw (← count) c.status_of.ensures,
      solved_whole c.args.measured.now.checked.topology c.args.measured.now.rounds outcomes c.new-rows.result c.add_links.new.rows c.add_rounds.new.rows c.add_counts.new.rows c.len.result c.in_ok-refused.refused
          c.new-rows.ensures c.in_ok-add_links.ensures.rows adds c.in_ok-add_counts.ensures are.of_rounds c.len.ensures count,
    )
