-- A plan that was printed is taken again.
use Rattle.std.proofs.Common.{◌≡◌, subst, ℕ, List, nat_lt, length, inl, inr, arith}
use Rattle.std.proofs.lemmas.Bool.{cases_Bool, ltb-true}
use Rattle.rows.specs.Rows.{rows_of, text_of}
use Rattle.topology.specs.Topology.{Topo}
use Rattle.plan_form.specs.Parts.{PlanParts}
use Rattle.plan_form.specs.PlanRows.{plan_rows}
use Rattle.plan_form.specs.Good.{IsGoodPlan}
use Rattle.cert_check.specs.Laws.{GoodHasNoFault}
use Rattle.tomo_run.specs.Machine.{TakesPlan, TakesGood}
use Rattle.answers.specs.FileKinds.{limit}
use Rattle.answers.specs.Planning.{IsKept}
use Rattle.tomo_run.specs.Headline.{PrintedIsTaken}
use Rattle.answers.specs.declared.file_kind.FileKind.TheVariants.{PlanFile}
use Rattle.tomo_run.specs.declared.table.PlanTask.TheVariants.{Solve}
use Rattle.answers.specs.declared.checked.Checked.{Checked}
use Rattle.tomo_run.specs.declared.machine.Wants.TheVariants.{Sums}
use Rattle.tomo_run.specs.declared.machine.Next.{Next}
use Rattle.tomo_run.specs.declared.machine.Next.TheVariants.{Ask}

-- the plan is taken, and its rounds are asked for
abbrev IsTaken : Topo → PlanParts → Next → Type 0
IsTaken t p next = (c : Checked) × (c.topology ≡ t) × (c.plan ≡ p) × (next ≡ Ask (Sums c))

-- a good plan goes on to its rounds
good_goes_on : GoodHasNoFault → (t : Topo) (p : PlanParts) (name : List ℕ) (next : Next) → IsGoodPlan t.names t.graph p → TakesGood (λ c. Ask (Sums c)) t p name next → IsTaken t p next
good_goes_on no_fault t p name next good (inl (c, of, next_is)) = (c, of.1, of.2, next_is)
good_goes_on no_fault t p name next good (inr (refusal, refuses, refused)) = absurd (no_fault t p refuses.0 good refuses.1)

-- the plan that is read is the one that was printed
plan_goes_on : GoodHasNoFault → (t : Topo) (p : PlanParts) (name : List ℕ) (next : Next) → IsGoodPlan t.names t.graph p → IsKept p → TakesPlan Solve t name (rows_of (text_of (plan_rows p))) next → IsTaken t p next
plan_goes_on no_fault t p name next good kept (inl (q, formed, rows, on)) =
    good_goes_on no_fault t p name next good (subst (λ (q : PlanParts). TakesGood (λ c. Ask (Sums c)) t q name next) (kept.back.only q formed rows) on)
plan_goes_on no_fault t p name next good kept (inr (f, some, first, refused)) = absurd (some (kept.back.fine f first))

-- its text is within the limit
pub printed_is_taken : GoodHasNoFault → PrintedIsTaken
printed_is_taken no_fault t p name next good kept steps = elim (cases_Bool (nat_lt (limit PlanFile) (length (text_of (plan_rows p))))) [
  | inl long ↦ absurd (omega (arith, ltb-true (limit PlanFile) (length (text_of (plan_rows p))) long, kept.short))
  | inr short ↦ plan_goes_on no_fault t p name next good kept (rw short at steps)
]
