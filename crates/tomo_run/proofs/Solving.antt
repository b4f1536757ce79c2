-- Over a plan that was printed no round is refused for a path.
use Rattle.std.proofs.Common.{◌≡◌, sym, subst, ℕ, List, [], ◌∷◌, nat_lt, length, inl, inr}
use Rattle.std.specs.Prelude.{codes, decimal}
use Rattle.std.proofs.lemmas.Bool.{cases_Bool}
use Rattle.std.proofs.lemmas.List.Elements.{All-nil, All-cons}
use Rattle.rows.specs.Rows.{Row, rows_of}
use Rattle.topology.specs.Topology.{Topo}
use Rattle.plan_form.specs.Parts.{PlanParts}
use Rattle.plan_form.specs.Good.{IsGoodPlan}
use Rattle.plan_form.specs.Tied.{AreTied}
use Rattle.cert_check.specs.Laws.{GoodHasNoFault}
use Rattle.answers.specs.FileKinds.{limit}
use Rattle.answers.specs.Refusals.{refused, round_reason, round_place}
use Rattle.answers.specs.Rounds.{IsNoPathRow, NameNoPath}
use Rattle.answers.specs.declared.file_kind.FileKind.TheVariants.{RoundFile}
use Rattle.answers.specs.declared.checked.Checked.{Checked}
use Rattle.answers.specs.declared.status.Status.{Status}
use Rattle.answers.specs.declared.inputs.Inputs.TheVariants.{OnFiles}
use Rattle.answers.specs.declared.inputs.FileInputs.TheVariants as files
use Rattle.answers.proofs.NoPath.{solves_no_path}
use Rattle.tomo_run.specs.Machine.{Steps, TakesSums}
use Rattle.tomo_run.specs.Ends.{Ends}
use Rattle.tomo_run.specs.Headline.{IsPrinted, PrintedNamesNoPath}
use Rattle.tomo_run.specs.declared.machine.Wants.TheVariants.{Sums}
use Rattle.tomo_run.specs.declared.machine.End.{End}
use Rattle.tomo_run.specs.declared.machine.End.TheVariants.{Ready, Refused}
use Rattle.tomo_run.specs.declared.machine.Next.{Next}
use Rattle.tomo_run.specs.declared.machine.Next.TheVariants.{Stop}
use Rattle.tomo_run.proofs.Retaking.{printed_is_taken}

-- the row that refuses a word is that of no round
refused_no_path : (word reason place : List ℕ) → NameNoPath (refused word reason place).closed
refused_no_path word reason place number path =
    let row : List (List ℕ) = codes "refused" ∷ word ∷ reason ∷ place ∷ [] in
    let other : IsNoPathRow number path row = λ e. cc e in
    All-cons (IsNoPathRow number path) row [] other (All-nil (IsNoPathRow number path))

-- so is what is printed where a file is refused
refusal_no_path : (word reason place : List ℕ) (end : End) (others : List (List ℕ)) (status : Status) (rows : List Row)
    → ◌≡◌ {A = Next} (Stop end) (Stop (Refused (refused word reason place)))
    → Ends others end status rows → NameNoPath rows
refusal_no_path word reason place end others status rows is ends =
    let same : end ≡ Refused (refused word reason place) = cc is in
    let printed = (subst (λ (x : End). Ends others x status rows) same ends).1 in
    subst NameNoPath (sym printed) (refused_no_path word reason place)

-- its plan is tied
abbrev IsTied : Checked → Type 0
IsTied c = AreTied c.topology.graph.links c.plan.paths c.plan.recipes

-- what is printed where the rounds were read
read_no_path : (c : Checked) (file : List ℕ) (content : List Row) (end : End) (others : List (List ℕ)) (status : Status) (rows : List Row)
    → IsTied c → TakesSums c file content (Stop end) → Ends others end status rows → NameNoPath rows
read_no_path c file content end others status rows tied (inl (m, over, rounds, is)) ends =
    let same : end ≡ Ready (OnFiles (files.Solve m)) = cc is in
    let solves = subst (λ (x : End). Ends others x status rows) same ends in
    solves_no_path m.checked.topology m.checked.plan m.rounds status rows (subst IsTied (sym over) tied) solves
read_no_path c file content end others status rows tied (inr (f, some, first, is)) ends =
    refusal_no_path file (round_reason f) (round_place f) end others status rows is ends

-- what is printed after the file of rounds, whatever it holds
sums_no_path : (c : Checked) → IsTied c → (file content : List ℕ) (end : End) (others : List (List ℕ)) (status : Status) (rows : List Row)
    → Steps (Sums c) file content (Stop end) → Ends others end status rows → NameNoPath rows
sums_no_path c tied file content end others status rows steps ends = elim (cases_Bool (nat_lt (limit RoundFile) (length content))) [
  | inl long ↦ refusal_no_path file (codes "long") (decimal (limit RoundFile)) end others status rows (rw long at steps) ends
  | inr short ↦ read_no_path c file (rows_of content) end others status rows tied (rw short at steps) ends
]

-- a plan that is printed is good
printed_good : (t : Topo) (p : PlanParts) → IsPrinted t p → IsGoodPlan t.names t.graph p
printed_good t p (inl planned, kept) = planned.sound.good
printed_good t p (inr (inl (monitors, planned)), kept) = planned.sound.good
printed_good t p (inr (inr (choice, planned)), kept) = planned.sound.good

-- and tied
printed_tied : (t : Topo) (p : PlanParts) → IsPrinted t p → AreTied p.links p.paths p.recipes
printed_tied t p (inl planned, kept) = planned.sound.tied
printed_tied t p (inr (inl (monitors, planned)), kept) = planned.sound.tied
printed_tied t p (inr (inr (choice, planned)), kept) = planned.sound.tied

-- so it is taken, and no round over it is refused for a path
pub printed_names_no_path : GoodHasNoFault → PrintedNamesNoPath
printed_names_no_path no_fault t p name next printed steps =
    let good = printed_good t p printed in
    let tied : AreTied t.graph.links p.paths p.recipes = rw good.links at (printed_tied t p printed) in
    let (c, topology, plan, is) = printed_is_taken no_fault t p name next good printed.1 steps in
    (c, is, sums_no_path c (rw (topology, plan) tied))
