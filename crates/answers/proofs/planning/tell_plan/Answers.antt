use Rattle.std.proofs.Common.{◌≤◌, length}
use Rattle.rows.proofs.ReadBack.{read-printed}
use Rattle.rows.proofs.TextSizes.{text-fits}
use Rattle.topology.specs.Topology.{Topo, IsTopology}
use Rattle.plan_form.specs.Good.{IsGoodPlan}
use Rattle.plan_form.specs.Parts.{PlanParts, IsWellFormed}
use Rattle.plan_form.proofs.PrintedBack.{plan_read_back}
use Rattle.plan_form.proofs.Sizes.{plan_short}
use Rattle.plan_form.proofs.Within.{good_within}
use Rattle.answers.specs.Planning.{IsKept}
use Rattle.answers.proofs.planning.tell_plan.Goals as goal

-- the text of a good plan with no more paths than links holds it, and is short
keeps : (t : Topo) (p : PlanParts) → IsTopology t → IsWellFormed p → IsGoodPlan t.names t.graph p → length p.paths ≤ length p.links → IsKept p
keeps t p is formed good few = record {
  back = plan_read_back read-printed p formed;
  short = plan_short text-fits p (good_within t p is formed good few);
}

pub returns-in_err-plan_rows-clause-kept : goal.returns-in_err-plan_rows-clause-kept
returns-in_err-plan_rows-clause-kept c =
    keeps c.args.topology.now c.args.plan.now c.graph-graph.ensures.topology c.requires.formed c.requires.good c.requires.few_paths

pub returns-clause-kept : goal.returns-clause-kept
returns-clause-kept c =
    keeps c.args.topology.now c.args.plan.now c.graph-graph.ensures.topology c.requires.formed c.requires.good c.requires.few_paths
