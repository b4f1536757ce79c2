-- A plan that was printed is reported good.
use Rattle.std.proofs.Common.{◌≡◌, ◌∙◌, ◌+◌, refl, ap, ℕ, List, [], ◌∷◌, nat_lt, length, inl, inr, arith}
use Rattle.std.specs.Prelude.{codes, decimal}
use Rattle.std.proofs.lemmas.Bool.{cases_Bool, ltb-true}
use Rattle.tomo_base.specs.Pockets.{needs_of}
use Rattle.rows.specs.Rows.{Row, rows_of, text_of}
use Rattle.topology.specs.Topology.{Topo}
use Rattle.plan_form.specs.Parts.{PlanParts}
use Rattle.plan_form.specs.PlanRows.{plan_rows}
use Rattle.plan_form.specs.Good.{IsGoodPlan, pocket_sets}
use Rattle.cert_check.specs.Laws.{GoodHasNoFault}
use Rattle.cert_check.specs.declared.report.Report.TheVariants.{Good, Bad}
use Rattle.answers.specs.FileKinds.{limit}
use Rattle.answers.specs.Planning.{IsKept}
use Rattle.answers.specs.Reporting.{Reports}
use Rattle.answers.specs.declared.file_kind.FileKind.TheVariants.{PlanFile}
use Rattle.answers.specs.declared.inputs.Inputs.TheVariants.{OnFiles}
use Rattle.answers.specs.declared.inputs.FileInputs.TheVariants as files
use Rattle.answers.specs.declared.status.Status.{Status}
use Rattle.answers.specs.declared.status.Status.TheVariants.{Done}
use Rattle.tomo_run.specs.Machine.{Steps, TakesPlan}
use Rattle.tomo_run.specs.Headline.{IsReportedGood, PrintedIsReportedGood, ChosenIsReportedGood, PathsAreReportedGood}
use Rattle.tomo_run.specs.declared.table.PlanTask.TheVariants.{Check}
use Rattle.tomo_run.specs.declared.machine.Wants.TheVariants.{APlan}
use Rattle.tomo_run.specs.declared.machine.End.TheVariants.{Ready}
use Rattle.tomo_run.specs.declared.machine.Next.{Next}

-- a good plan is reported good, with the number of its monitors and the bound that its pockets show
told_good : GoodHasNoFault → (t : Topo) (p : PlanParts) (bound : ℕ) (status : Status) (rows : List Row)
    → IsGoodPlan t.names t.graph p → length p.forced + needs_of t.graph (pocket_sets p.pockets) ≡ bound → Reports t p status rows
    → (status ≡ Done) × (rows ≡ (codes "good" ∷ decimal (length p.monitors) ∷ decimal bound ∷ []) ∷ [])
told_good no_fault t p bound status rows good shown (Good monitors most, report, is, row) =
    (is, rw (report.monitors_are, report.bound_is ∙ shown) at row)
told_good no_fault t p bound status rows good shown (Bad f, fault, is, row) = absurd (no_fault t p f good fault)

-- the plan that is read is the one that was printed
rows_are_reported : GoodHasNoFault → (t : Topo) (p : PlanParts) (bound : ℕ) (name : List ℕ) (next : Next)
    → IsGoodPlan t.names t.graph p → length p.forced + needs_of t.graph (pocket_sets p.pockets) ≡ bound → IsKept p
    → TakesPlan Check t name (rows_of (text_of (plan_rows p))) next → IsReportedGood p bound next
rows_are_reported no_fault t p bound name next good shown kept (inl (q, formed, rows, on)) =
    let same : q ≡ p = kept.back.only q formed rows in (
      Ready (OnFiles (files.Check (record { topology = t; plan = p }))),
      rw same at on,
      λ others status rows ends. told_good no_fault t p bound status rows good shown ends,
    )
rows_are_reported no_fault t p bound name next good shown kept (inr (f, some, first, refused)) = absurd (some (kept.back.fine f first))

-- its text is within the limit
text_is_reported : GoodHasNoFault → (t : Topo) (p : PlanParts) (bound : ℕ) (name : List ℕ) (next : Next)
    → IsGoodPlan t.names t.graph p → length p.forced + needs_of t.graph (pocket_sets p.pockets) ≡ bound → IsKept p
    → Steps (APlan Check t) name (text_of (plan_rows p)) next → IsReportedGood p bound next
text_is_reported no_fault t p bound name next good shown kept steps =
    elim (cases_Bool (nat_lt (limit PlanFile) (length (text_of (plan_rows p))))) [
      | inl long ↦ absurd (omega (arith, ltb-true (limit PlanFile) (length (text_of (plan_rows p))) long, kept.short))
      | inr short ↦ rows_are_reported no_fault t p bound name next good shown kept (rw short at steps)
    ]

-- the pockets of a plan as promised show that all its monitors are needed
pub printed_is_reported_good : GoodHasNoFault → PrintedIsReportedGood
printed_is_reported_good no_fault t p name next planned kept steps =
    text_is_reported no_fault t p (length p.monitors) name next planned.sound.good (omega (arith, ap (λ xs. length xs) planned.unforced, planned.shown.total)) kept steps

-- those of a plan under a choice show that all its monitors are needed that are not forced
pub chosen_is_reported_good : GoodHasNoFault → ChosenIsReportedGood
chosen_is_reported_good no_fault t choice p name next planned kept steps =
    text_is_reported no_fault t p (length p.monitors) name next planned.sound.good (rw planned.shown.total planned.beside_forced) kept steps

-- a plan for given monitors has no pockets
pub paths_are_reported_good : GoodHasNoFault → PathsAreReportedGood
paths_are_reported_good no_fault t monitors p name next planned kept steps =
    text_is_reported no_fault t p 0 name next planned.sound.good (rw (planned.unforced, planned.no_pockets) refl) kept steps
