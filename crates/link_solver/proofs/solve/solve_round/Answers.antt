use Rattle.std.proofs.Common.{[], arith}
use Rattle.link_solver.specs.declared.answer.Answer.TheVariants.{Solved, Link, Path}
use Rattle.link_solver.specs.Verdict.{HasSums, halves}
use Rattle.link_solver.proofs.Agreeing.{agrees, tied_names_no_path}
use Rattle.link_solver.proofs.Solving.{one_or_none, halves_fit}
use Rattle.link_solver.proofs.solve.solve_round.Goals as goal

pub fill_in-requires-clause-names : goal.fill_in-requires-clause-names
fill_in-requires-clause-names c = rw (c.recipes.ensures.recipes, c.requires.sums) (λ i l. (c.requires.recipes.each i l).names)

pub returns-in-Err-clause-means : goal.returns-in-Err-clause-means
returns-in-Err-clause-means c = one_or_none c.args.g.now c.args.p.now.paths c.args.p.now.recipes c.args.sums.now c.fill_in.new.out (Link c.in-Err.link c.in-Err.why) c.requires.recipes (rw c.recipes.ensures.recipes at c.in-Err.ensures.refused)

pub first_other-requires-clause-small : goal.first_other-requires-clause-small
first_other-requires-clause-small c =
    let fit = halves_fit c.args.g.now c.args.p.now.paths c.args.p.now.recipes c.requires.recipes c.args.sums.now (rw c.recipes.ensures.recipes at c.in_default.ensures.all) in
    rw (c.as_slice.ensures, c.in_default.ensures.halves, c.recipes.ensures.recipes) (λ k d l. omega (arith, fit.in_range k d l))

pub returns-in-Some-clause-means : goal.returns-in-Some-clause-means
returns-in-Some-clause-means c =
    one_or_none c.args.g.now c.args.p.now.paths c.args.p.now.recipes c.args.sums.now c.fill_in.new.out (Path c.in-Some.path) c.requires.recipes
    (rw c.recipes.ensures.recipes at c.in_default.ensures.all, rw (c.paths.ensures.paths, c.as_slice.ensures, c.in_default.ensures.halves, c.recipes.ensures.recipes) at c.in-Some.ensures.found)

pub returns-in-None-clause-means : goal.returns-in-None-clause-means
returns-in-None-clause-means c =
    one_or_none c.args.g.now c.args.p.now.paths c.args.p.now.recipes c.args.sums.now c.fill_in.new.out Solved c.requires.recipes
    (rw c.recipes.ensures.recipes at c.in_default.ensures.all, rw (c.paths.ensures.paths, c.as_slice.ensures, c.in_default.ensures.halves, c.recipes.ensures.recipes) at c.in-None.ensures.none, rw c.recipes.ensures.recipes at c.in_default.ensures.halves)

pub returns-in-Some-clause-no_path : goal.returns-in-Some-clause-no_path
returns-in-Some-clause-no_path c = λ tied.
    tied_names_no_path c.args.g.now c.args.p.now.paths c.args.p.now.recipes c.args.sums.now c.fill_in.new.out (Path c.in-Some.path) c.nodes-nodes.ensures.graph (λ i l. (c.requires.paths.each i [] l).linked) c.requires.recipes tied
    (rw c.recipes.ensures.recipes at c.in_default.ensures.all, rw (c.paths.ensures.paths, c.as_slice.ensures, c.in_default.ensures.halves, c.recipes.ensures.recipes) at c.in-Some.ensures.found)

pub returns-in-Some-clause-solved : goal.returns-in-Some-clause-solved
returns-in-Some-clause-solved c = λ tied all. absurd (returns-in-Some-clause-no_path c tied)

-- over a tied plan, once each link has a delay
pub returns-then-is_tied-clause-verdict : goal.returns-then-is_tied-clause-verdict
returns-then-is_tied-clause-verdict c =
    let all = rw c.recipes.ensures.recipes at c.in_default.ensures.all in
    let sums : HasSums c.args.g.now c.args.p.now.paths c.args.sums.now (halves c.args.sums.now c.args.p.now.recipes) = λ k l.
    agrees c.args.g.now c.args.p.now.paths c.args.p.now.recipes c.nodes-nodes.ensures.graph c.requires.recipes c.args.sums.now all (c.requires.tied c.if-is_tied.true) k l (c.requires.paths.each k [] l).linked in
    (all, sums, rw c.recipes.ensures.recipes at c.in_default.ensures.halves)

pub returns-then-is_tied-clause-means : goal.returns-then-is_tied-clause-means
returns-then-is_tied-clause-means c =
    one_or_none c.args.g.now c.args.p.now.paths c.args.p.now.recipes c.args.sums.now c.fill_in.new.out Solved c.requires.recipes (returns-then-is_tied-clause-verdict c)
