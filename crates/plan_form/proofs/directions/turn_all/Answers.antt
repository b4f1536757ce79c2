use Rattle.std.proofs.Common.{arith}
use Rattle.std.proofs.lemmas.List.{take_all}
use Rattle.plan_form.proofs.Turning.{nodes_in-turned}
use Rattle.plan_form.proofs.directions.turn_all.Goals as goal

pub returns-clause-few_nodes : goal.returns-clause-few_nodes
returns-clause-few_nodes c =
    let same = take_all c.loop-i.i c.args.pool.now (omega (arith, c.loop-i-test.false, c.len-i-end.ensures.len)) in
    rw (c.loop-i.invariant, same, nodes_in-turned) c.len-i-end.ensures.few_nodes
