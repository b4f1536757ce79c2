use Rattle.std.proofs.Common.{◌∙◌, sym}
use Rattle.std.proofs.lemmas.Bool.{eqb-true}
use Rattle.link_solver.proofs.Tallying.{twice}
use Rattle.link_solver.proofs.tied.is_tied.Goals as goal

pub returns-in-Some-add_along-clause-tied : goal.returns-in-Some-add_along-clause-tied
returns-in-Some-add_along-clause-tied c none k =
    let left = sym c.in-Some-add_along.ensures.count ∙ eqb-true c.in-Some-add_along.count 0 none in
    twice c.args.sums.now c.add_term.new.sums c.add_along.new.sums _ c.args.number c.requires.none left c.in-Some.ensures.sums c.in-Some-add_along.ensures.sums k
