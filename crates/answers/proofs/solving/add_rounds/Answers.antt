use Rattle.std.proofs.Common.{refl, ◌∙◌}
use Rattle.answers.specs.Rounds.{Outcome}
use Rattle.answers.proofs.Solved.{solved_none, solved_more}
use Rattle.answers.proofs.solving.add_rounds.Goals as goal

pub loop-k-init : goal.loop-k-init
loop-k-init c = (solved_none c.args.measured.now.checked.topology.graph c.args.measured.now.checked.plan c.args.measured.now.rounds c.args.rows.now c.requires.between, refl)

pub loop-k-preserved : goal.loop-k-preserved
loop-k-preserved c =
    let (so_far, room) = c.loop-k.invariant in
    let outcome : Outcome = record { sums = c.round.result.now; answer = c.solve_round-verdict.result; delays = c.solve_round-verdict.new.out } in (
      rw c.refusals_of-refused.ensures.count
          (solved_more c.args.measured.now.checked.topology.graph c.args.measured.now.checked.plan c.args.measured.now.rounds c.args.rows.now c.loop-k.rows c.add_round.new.rows c.loop-k.k c.loop-k.refused outcome
          (rw c.len-k-end.ensures at c.loop-k-test.true) so_far c.round.ensures
          (record { verdict = rw c.graph-graph.ensures.graph at c.solve_round-verdict.ensures.verdict; means = rw c.graph-graph.ensures.graph at c.solve_round-verdict.ensures.means; tied = rw c.graph-graph.ensures.graph at c.solve_round-verdict.ensures.no_path })
          (rw c.refusals_of-refused.ensures.count at c.refusals_of-refused.ensures.one) c.in_ok-add_round.ensures),
      c.solve_round-verdict.ensures.same_length ∙ room,
    )
