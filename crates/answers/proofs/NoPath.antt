-- Rounds over a tied plan are never refused for a path.
use Rattle.std.proofs.Common.{◌≡◌, ℕ, suc, ◌+◌, List, [], ◌∷◌, ◌++◌, length, arith}
use Rattle.std.specs.Prelude.{◌≢◌, All, codes}
use Rattle.std.proofs.lemmas.List.Elements.{All-nil, All-cons, All-append}
use Rattle.tomo_base.specs.declared.graph.Link.{Link}
use Rattle.rows.specs.Rows.{Row}
use Rattle.topology.specs.Topology.{Topo}
use Rattle.plan_form.specs.Parts.{PlanParts}
use Rattle.plan_form.specs.PlanRows.{numbered}
use Rattle.plan_form.specs.Tied.{AreTied}
use Rattle.link_solver.specs.Verdict.{NamesNoPath}
use Rattle.link_solver.specs.declared.answer.Why.TheVariants.{Odd, Negative, Large}
use Rattle.link_solver.specs.declared.answer.Answer.{Answer}
use Rattle.link_solver.specs.declared.answer.Answer.TheVariants as answers
use Rattle.answers.specs.declared.status.Status.{Status}
use Rattle.answers.specs.Rounds.{Outcome, IsNoPathRow, NameNoPath, Solves, ends_row, count_row, refused_count, round_row, solution_rows, told}

-- what is told of a round does not begin with the word of a path
told_no_path : (a : Answer) (delays place : List ℕ) → NamesNoPath a → told a delays ≢ codes "path" ∷ place ∷ []
told_no_path answers.Solved delays place named e = cc e
told_no_path (answers.Link i Odd) delays place named e = cc e
told_no_path (answers.Link i Negative) delays place named e = cc e
told_no_path (answers.Link i Large) delays place named e = cc e
told_no_path (answers.Path i) delays place named e = absurd named

-- the row of such a round
round_no_path : (k : ℕ) (o : Outcome) (number place : List ℕ) → NamesNoPath o.answer → IsNoPathRow number place (round_row k o)
round_no_path k o number place named e =
    let same : told o.answer o.delays ≡ codes "path" ∷ place ∷ [] = cc e in
    told_no_path o.answer o.delays place named same

-- the rows of rounds one after the other
rounds_no_path : (k : ℕ) (outcomes : List Outcome) (number place : List ℕ) → All (λ o. NamesNoPath o.answer) outcomes
    → All (IsNoPathRow number place) (numbered round_row k outcomes)
unfolding numbered
rounds_no_path k [] number place named = All-nil (IsNoPathRow number place)
rounds_no_path k (o ∷ outcomes) number place named =
    All-cons (IsNoPathRow number place) (round_row k o) (numbered round_row (k + 1) outcomes)
    (round_no_path k o number place (named 0 o (omega arith)))
    (rounds_no_path (k + 1) outcomes number place (λ i d l. named (suc i) d (omega (arith, l))))

-- the row of a link is that of no round
link_no_path : (names : List (List ℕ)) (i : ℕ) (l : Link) (number place : List ℕ) → IsNoPathRow number place (ends_row names i l)
link_no_path names i l number place e = cc e

-- nor is one of the rows of links
links_no_path : (names : List (List ℕ)) (i : ℕ) (links : List Link) (number place : List ℕ)
    → All (IsNoPathRow number place) (numbered (ends_row names) i links)
unfolding numbered
links_no_path names i [] number place = All-nil (IsNoPathRow number place)
links_no_path names i (l ∷ links) number place =
    All-cons (IsNoPathRow number place) (ends_row names i l) (numbered (ends_row names) (i + 1) links) (link_no_path names i l number place)
    (links_no_path names (i + 1) links number place)

-- nor is the row of the counts
counts_no_path : (all refused : ℕ) (number place : List ℕ) → IsNoPathRow number place (count_row all refused)
counts_no_path all refused number place e = cc e

-- so none of all of them is
solution_no_path : (t : Topo) (outcomes : List Outcome) → All (λ o. NamesNoPath o.answer) outcomes → NameNoPath (solution_rows t outcomes)
solution_no_path t outcomes named number place =
    let P : Row → Type 0 = IsNoPathRow number place in
    let count = count_row (length outcomes) (refused_count outcomes) in
    let rounds = numbered round_row 0 outcomes in
    let links = numbered (ends_row t.names) 0 t.graph.links in
    let of_links = links_no_path t.names 0 t.graph.links number place in
    let first = All-append P links rounds of_links (rounds_no_path 0 outcomes number place named) in
    let last = All-cons P count [] (counts_no_path (length outcomes) (refused_count outcomes) number place) (All-nil P) in
    All-append P (links ++ rounds) (count ∷ []) first last

-- what is printed of rounds over a tied plan
pub solves_no_path : (t : Topo) (p : PlanParts) (rounds : List (List ℕ)) (status : Status) (rows : List Row)
    → AreTied t.graph.links p.paths p.recipes → Solves t p rounds status rows → NameNoPath rows
solves_no_path t p rounds status rows tied (outcomes, are, is, printed) =
    rw printed (solution_no_path t outcomes (λ i d l. (are.each i d l).tied tied))
