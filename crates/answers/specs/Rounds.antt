-- What is printed of rounds of sums.
use Rattle.std.specs.Prelude.{ℕ, ◌≡◌, ◌≢◌, ◌==◌, if◌then◌else◌, List, [], ◌∷◌, ◌++◌, map, length, All, codes, decimal, slice_index_or}
use Rattle.std.specs.List.{sum_by}
use Rattle.tomo_base.specs.Network.{Network}
use Rattle.tomo_base.specs.declared.graph.Link.{Link}
use Rattle.rows.specs.Rows.{Row}
use Rattle.topology.specs.Topology.{Topo}
use Rattle.plan_form.specs.Parts.{PlanParts}
use Rattle.plan_form.specs.PlanRows.{numbered}
use Rattle.plan_form.specs.Tied.{AreTied}
use Rattle.link_solver.specs.Verdict.{Means, NamesNoPath, AnswersRound}
use Rattle.link_solver.specs.declared.answer.Why.{Why}
use Rattle.link_solver.specs.declared.answer.Why.TheVariants.{Odd, Negative, Large}
use Rattle.link_solver.specs.declared.answer.Answer.{Answer}
use Rattle.link_solver.specs.declared.answer.Answer.TheVariants as answers
use Rattle.answers.specs.declared.status.Status.{Status}
use Rattle.answers.specs.declared.status.Status.TheVariants as statuses

-- a round: its sums, what is said of them, and the delays where there is one assignment
pub record Outcome : Type 0 where
  pub sums : List ℕ
  pub answer : Answer
  pub delays : List ℕ

-- what is said is the verdict over the plan; it means that the delays are the one assignment with these sums, or that none has them; over a tied plan, as those that are printed, it names no path
pub record IsOutcome (g : Network) (p : PlanParts) (o : Outcome) : Type 0 where
  pub verdict : AnswersRound g p.paths p.recipes o.sums o.delays o.answer
  pub means : Means g p.paths o.sums o.delays o.answer
  pub tied : AreTied g.links p.paths p.recipes → NamesNoPath o.answer

-- one outcome for each round
pub record AreOutcomes (g : Network) (p : PlanParts) (rounds : List (List ℕ)) (outcomes : List Outcome) : Type 0 where
  pub of_rounds : map (λ o. o.sums) outcomes ≡ rounds
  pub each : All (IsOutcome g p) outcomes

-- why a link has no delay
abbrev pub why_word : Why → List ℕ
why_word Odd = codes "odd"
why_word Negative = codes "negative"
why_word Large = codes "large"

-- the delays, or the link or path that shows that there are none
abbrev pub told : Answer → List ℕ → Row
told answers.Solved delays = codes "ok" ∷ map decimal delays
told (answers.Link i why) delays = why_word why ∷ decimal i ∷ []
told (answers.Path i) delays = codes "path" ∷ decimal i ∷ []

-- the row of a round
abbrev pub round_row : ℕ → Outcome → Row
round_row k o = codes "round" ∷ decimal k ∷ told o.answer o.delays

-- the row of a link, with the names of its ends
abbrev pub ends_row : List (List ℕ) → ℕ → Link → Row
ends_row names i l = codes "link" ∷ decimal i ∷ slice_index_or names l.a [] ∷ slice_index_or names l.b [] ∷ []

-- 1 for a round that is refused
abbrev pub refusals : Answer → ℕ
refusals answers.Solved = 0
refusals (answers.Link i why) = 1
refusals (answers.Path i) = 1

-- how many rounds are refused
abbrev pub refused_count : List Outcome → ℕ
refused_count outcomes = sum_by (λ o. refusals o.answer) outcomes

-- how many rounds there were, and how many were refused
abbrev pub count_row : ℕ → ℕ → Row
count_row rounds refused = codes "end" ∷ decimal rounds ∷ decimal refused ∷ []

-- the links, the rounds, and their counts
abbrev pub solution_rows : Topo → List Outcome → List Row
solution_rows t outcomes =
    numbered (ends_row t.names) 0 t.graph.links ++ numbered round_row 0 outcomes ++ count_row (length outcomes) (refused_count outcomes) ∷ []

-- done where no round is refused
abbrev pub solution_status : ℕ → Status
solution_status refused = if refused == 0 then statuses.Done else statuses.Negative

-- what is printed of rounds over a plan for the topology
abbrev pub Solves : Topo → PlanParts → List (List ℕ) → Status → List Row → Type 0
Solves t p rounds status rows =
    (outcomes : List Outcome) × AreOutcomes t.graph p rounds outcomes × (status ≡ solution_status (refused_count outcomes)) × (rows ≡ solution_rows t outcomes)

-- the row does not refuse the round with this number for the path with that one
abbrev pub IsNoPathRow : List ℕ → List ℕ → Row → Type 0
IsNoPathRow number place row = row ≢ codes "round" ∷ number ∷ codes "path" ∷ place ∷ []

-- no row refuses a round for a path
abbrev pub NameNoPath : List Row → Type 0
NameNoPath rows = (number place : List ℕ) → All (IsNoPathRow number place) rows
