use Rattle.std.proofs.Common.{Ok, Err, Result, IfOk, ◌≡◌, ℕ, List, inl}
use Rattle.tomo_base.specs.Sets.{has}
use Rattle.tomo_base.specs.Identify.{Identifies}
use Rattle.topology.specs.Topology.{Topo}
use Rattle.plan_form.specs.Parts.{PlanParts}
use Rattle.plan_form.specs.PlanRows.{plan_rows}
use Rattle.planner.specs.Planned.{IsPlanFor}
use Rattle.answers.specs.declared.answer.Answer.{Answer}
use Rattle.answers.specs.declared.status.Status.TheVariants.{Done}
use Rattle.answers.specs.Planning.{IsKept, PlansFor}
use Rattle.answers.proofs.planning.plan_paths.Goals as goal

-- a plan that is told is one for the monitors
told_for : {E : Type 0} (t : Topo) (m : List ℕ) (p : PlanParts) (r : Result Answer E) → Identifies t.graph (has m) → IsPlanFor t.names t.graph m p → IsKept p → IfOk r (λ a. a.status ≡ Done) → IfOk r (λ a. a.rows.closed ≡ plan_rows p)
    → IfOk r (λ a. PlansFor t m a.status a.rows.closed)
told_for t m p (Err e) ident planned kept status rows = tt
told_for t m p (Ok a) ident planned kept status rows = inl (status, ident, p, planned, kept, rows)

pub returns : goal.returns
returns c =
    told_for c.args.placed.now.topology c.args.placed.now.monitors c.in_ok-plan.plan c.tell_plan.result (rw (c.in_default.is, c.graph.ensures.graph) at c.in_ok-nodes.ensures.verdict) c.in_ok-plan.ensures.planned c.tell_plan.ensures.kept c.tell_plan.ensures.status c.tell_plan.ensures.rows
