use Rattle.std.proofs.Common.{◌<◌, ltb-true, sym, ◌∙◌}
use Rattle.std.proofs.lemmas.Bool.{and_parts}
use Rattle.tomo_base.proofs.Ascending.{All-from_has}
use Rattle.planner.proofs.Allowing.{impossible}
use Rattle.planner.proofs.plans.make_plan_with.Goals as goal

pub judge-requires-clause-nodes : goal.judge-requires-clause-nodes
judge-requires-clause-nodes c = rw c.graph-2.ensures.graph (All-from_has (λ v. v < c.args.t.now.graph.nodes) c.in_ok-unbarred.unbarred
    (λ v there. ltb-true v c.args.t.now.graph.nodes (and_parts _ _ (sym ((rw c.graph.ensures.graph at c.in_ok-unbarred.ensures.nodes) v) ∙ there)).0))

pub returns-in-Bad-clause-made : goal.returns-in-Bad-clause-made
returns-in-Bad-clause-made c = impossible c.args.t.now c.graph.ensures.topology c.args.choice.now c.in_ok-unbarred.unbarred c.in-Bad.nodes
    (rw c.graph.ensures.graph at c.in_ok-unbarred.ensures.nodes) (rw (c.in-Bad.is, c.graph-2.ensures.graph) at c.in_ok-nodes.ensures.verdict)
