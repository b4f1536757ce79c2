use Rattle.std.proofs.Common.{map, arith, refl}
use Rattle.plan_form.specs.Steps.{term_of}
use Rattle.plan_form.proofs.Tallies.{kept, merged_kept, kept_some, kept_none, kept_small, kept_few}
use Rattle.std.proofs.lemmas.List.{take_all}
use Rattle.plan_form.proofs.sums.keep_some.Goals as goal
use Rattle.plan_form.proofs.sums.keep_some.Goals.{in-Some+in_ok-push, in_default}

pub some_term-requires : goal.some_term-requires
some_term-requires c = kept_small c.args.tallies.now c.loop-tally.tally-index _ (c.requires.short (kept (map term_of c.args.tallies.now)) (merged_kept (map term_of c.args.tallies.now) c.requires.ascending)) c.loop-tally-test.true

pub push-requires : goal.push-requires
push-requires c =
    let few = kept_few c.args.tallies.now c.loop-tally.tally-index (c.requires.short (kept (map term_of c.args.tallies.now)) (merged_kept (map term_of c.args.tallies.now) c.requires.ascending)) in
    rw c.loop-tally.invariant (omega (arith, few))

pub loop-tally-preserved : goal.loop-tally-preserved
loop-tally-preserved c = elim c.match-some_term.branch [
  | in-Some+in_ok-push w ↦ rw (w.recipe-is, w.in_ok-push.ensures.ok, kept_some c.args.tallies.now c.loop-tally.tally-index _ c.loop-tally-test.true w.in-Some.ensures.some.1, w.in-Some.ensures.some.0, c.loop-tally.invariant) refl
  | in_default w ↦ rw (w.recipe-is, kept_none c.args.tallies.now c.loop-tally.tally-index _ c.loop-tally-test.true w.in_default.ensures.none) c.loop-tally.invariant
]

pub returns : goal.returns
returns c =
    let all = take_all c.loop-tally.tally-index c.args.tallies.now c.loop-tally-test.false in
    rw (c.loop-tally.invariant, all) (merged_kept (map term_of c.args.tallies.now) c.requires.ascending)
