-- What a verdict means.
use Rattle.std.specs.Prelude.{ℕ, ◌<◌, List, [], length, slice_index_or}
use Rattle.tomo_base.specs.Network.{Network, IsGraph}
use Rattle.tomo_base.specs.Walks.{IsWalk}
use Rattle.simple_path.specs.declared.recipe.Term.{Term}
use Rattle.plan_form.specs.Good.{AreGoodRecipes}
use Rattle.plan_form.specs.Tied.{AreTied}
use Rattle.link_solver.specs.declared.answer.Answer.{Answer}
use Rattle.link_solver.specs.Verdict.{Means, NamesNoPath, AnswersRound}

-- where each link has a recipe over the paths, a verdict means what it says: one assignment, or none
abbrev pub OneOrNone : Type 0
OneOrNone = (g : Network) (paths : List (List ℕ)) (recipes : List (List Term)) (sums out : List ℕ) (answer : Answer) → AreGoodRecipes g paths recipes →
    AnswersRound g paths recipes sums out answer → Means g paths sums out answer

-- where the recipes along each path add up to twice the path, no verdict names a path: whatever the sums are, the halves agree with them along every path
abbrev pub TiedNamesNoPath : Type 0
TiedNamesNoPath = (g : Network) (paths : List (List ℕ)) (recipes : List (List Term)) (sums out : List ℕ) (answer : Answer) → IsGraph g → ((i : ℕ) → i < length paths → IsWalk g (slice_index_or paths i [])) →
    AreGoodRecipes g paths recipes → AreTied g.links paths recipes → AnswersRound g paths recipes sums out answer → NamesNoPath answer
