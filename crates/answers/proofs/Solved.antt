-- Rounds are solved one after the other.
use Rattle.std.proofs.Common.{◌≡◌, ◌∙◌, ℕ, ◌+◌, ◌<◌, ◌≤◌, List, [], ◌∷◌, ◌++◌, map, length, take, get_or, refl, sym, ap, arith, append_assoc, length-append}
use Rattle.std.specs.Prelude.{All}
use Rattle.std.proofs.lemmas.List.{take_more, take_all, append-nil, length-map, map-append, length-take-le}
use Rattle.std.proofs.lemmas.List.Sums.{sum_by_push}
use Rattle.std.proofs.lemmas.List.Elements.{All-nil, All-push}
use Rattle.tomo_base.specs.Network.{Network}
use Rattle.rows.specs.Rows.{RowList}
use Rattle.plan_form.specs.Parts.{PlanParts}
use Rattle.plan_form.specs.PlanRows.{numbered, AddsRows}
use Rattle.plan_form.proofs.Numbering.{numbered-push, length-numbered}
use Rattle.topology.specs.Topology.{Topo}
use Rattle.answers.specs.Refusals.{only}
use Rattle.answers.specs.Rounds.{Outcome, IsOutcome, AreOutcomes, round_row, ends_row, count_row, solution_rows, refusals, refused_count}

-- the first k rounds were solved: their rows were added, and so many of them are refused
pub record Solved (g : Network) (p : PlanParts) (rounds : List (List ℕ)) (old : RowList) (k : ℕ) (now : RowList) (refused : ℕ) : Type 0 where
  pub outcomes : List Outcome
  pub of_rounds : map (λ o. o.sums) outcomes ≡ take k rounds
  pub each : All (IsOutcome g p) outcomes
  pub closed : now.closed ≡ old.closed ++ numbered round_row 0 outcomes
  pub current : now.current ≡ []
  pub count : length now.closed ≡ length old.closed + k
  pub refused_are : refused ≡ refused_count outcomes
  pub few : refused ≤ k

-- none yet
pub solved_none : (g : Network) (p : PlanParts) (rounds : List (List ℕ)) (old : RowList) → old.current ≡ [] → Solved g p rounds old 0 old 0
unfolding numbered
solved_none g p rounds old none = record {
  outcomes = [];
  of_rounds = refl;
  each = All-nil (IsOutcome g p);
  closed = sym (append-nil old.closed);
  current = none;
  count = omega arith;
  refused_are = refl;
  few = omega arith;
}

-- one more
pub solved_more : (g : Network) (p : PlanParts) (rounds : List (List ℕ)) (old now new : RowList) (k refused : ℕ) (o : Outcome) → k < length rounds → Solved g p rounds old k now refused
    → o.sums ≡ get_or rounds k [] → IsOutcome g p o → refusals o.answer ≤ 1 → AddsRows now new (round_row k o ∷ []) → Solved g p rounds old (k + 1) new (refused + refusals o.answer)
solved_more g p rounds old now new k refused o l before sums is one adds =
    let number : 0 + length before.outcomes ≡ k =
    omega (arith, ap length before.of_rounds, length-map before.outcomes (λ (o : Outcome). o.sums), length-take-le k rounds (omega (arith, l))) in
    let more : numbered round_row 0 (before.outcomes ++ o ∷ []) ≡ numbered round_row 0 before.outcomes ++ round_row k o ∷ [] = rw (numbered-push round_row 0 before.outcomes o, number) refl in
    record {
      outcomes = before.outcomes ++ o ∷ [];
      of_rounds = map-append (λ (o : Outcome). o.sums) before.outcomes (o ∷ []) ∙ rw (before.of_rounds, sums, take_more rounds k [] l) refl;
      each = All-push (IsOutcome g p) before.outcomes o before.each is;
      closed = adds.0 ∙ (ap (λ rs. rs ++ round_row k o ∷ []) before.closed ∙ (append_assoc old.closed (numbered round_row 0 before.outcomes) (round_row k o ∷ []) ∙ ap (λ rs. old.closed ++ rs) (sym more)));
      current = adds.1;
      count = omega (arith, ap length adds.0, length-append now.closed (round_row k o ∷ []), before.count);
      refused_are = rw (sum_by_push (λ (o : Outcome). refusals o.answer) before.outcomes o, ← before.refused_are) refl;
      few = omega (arith, before.few, one);
    }

-- all of them
pub solved_all : (g : Network) (p : PlanParts) (rounds : List (List ℕ)) (old : RowList) (k : ℕ) (now : RowList) (refused : ℕ) → length rounds ≤ k → Solved g p rounds old k now refused
    → (outcomes : List Outcome) × AreOutcomes g p rounds outcomes × AddsRows old now (numbered round_row 0 outcomes) × (refused ≡ refused_count outcomes)
solved_all g p rounds old k now refused l s =
    (s.outcomes, record { of_rounds = s.of_rounds ∙ take_all k rounds l; each = s.each }, (s.closed, s.current), s.refused_are)

-- how many rows there are after the rounds
pub solved_length : (rounds : List (List ℕ)) (outcomes : List Outcome) (old new : RowList) → map (λ o. o.sums) outcomes ≡ rounds → AddsRows old new (numbered round_row 0 outcomes)
    → length new.closed ≡ length old.closed + length rounds
solved_length rounds outcomes old new of_rounds adds =
    omega (arith, ap length adds.0, length-append old.closed (numbered round_row 0 outcomes), length-numbered round_row 0 outcomes, ap length of_rounds, length-map outcomes (λ (o : Outcome). o.sums))

-- the links, the rounds and the counts are the rows of the whole
pub solved_whole : (t : Topo) (rounds : List (List ℕ)) (outcomes : List Outcome) (r₀ r₁ r₂ r₃ : RowList) (all refused : ℕ) → r₀ ≡ only [] → AddsRows r₀ r₁ (numbered (ends_row t.names) 0 t.graph.links)
    → AddsRows r₁ r₂ (numbered round_row 0 outcomes) → AddsRows r₂ r₃ (count_row all refused ∷ []) → map (λ o. o.sums) outcomes ≡ rounds → all ≡ length rounds → refused ≡ refused_count outcomes
    → r₃.closed ≡ solution_rows t outcomes
solved_whole t rounds outcomes r₀ r₁ r₂ r₃ all refused none links sums counts of_rounds all_are refused_are =
    let start : r₀.closed ≡ [] = ap (λ (r : RowList). r.closed) none in
    let number : all ≡ length outcomes = all_are ∙ (ap length (sym of_rounds) ∙ length-map outcomes (λ (o : Outcome). o.sums)) in
    rw (counts.0, sums.0, links.0, start, number, refused_are) refl
