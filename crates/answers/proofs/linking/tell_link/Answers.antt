use Rattle.std.proofs.Common.{inr}
use Rattle.answers.specs.Linking.{TellsRecipe, TellsLink}
use Rattle.answers.specs.declared.answer.Answer.{Answer}
use Rattle.answers.proofs.TermRows.{ok_map}
use Rattle.answers.proofs.linking.tell_link.Goals as goal

pub returns-in-Some-between : goal.returns-in-Some-between
returns-in-Some-between c =
    let t = c.args.placed.now.topology in
    let m = c.args.placed.now.monitors in
    let joined = rw c.graph.ensures.graph at c.in-Some-between.ensures.found in
    ok_map c.tell_recipe.result (λ (a : Answer). TellsRecipe t m c.in-Some-between.link a.status a.rows.closed) (λ (a : Answer). TellsLink t m c.args.first.now c.args.second.now a.status a.rows.closed)
    (λ a told. inr (c.in-Some.a, c.in-Some.ensures.found, inr (c.in-Some-find.b, c.in-Some-find.ensures.found, inr (c.in-Some-between.link, joined, told)))) c.tell_recipe.ensures
