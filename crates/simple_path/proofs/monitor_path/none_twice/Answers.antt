use Rattle.std.proofs.Common.{refl, false, take, slice_index_or, arith}
use Rattle.std.proofs.lemmas.Bool.{both_ways}
use Rattle.tomo_base.proofs.Paths.{none_twice_from, none_twice_at, has_no_entry, has_entry, new_more}
use Rattle.simple_path.proofs.monitor_path.none_twice.Goals as goal

pub returns-then-contains : goal.returns-then-contains
returns-then-contains c =
    let path = c.args.path.now in
    let i = c.loop-i.i in
    let again = c.if-contains.ensures.cases in
    (λ t. absurd (both_ways false refl t), λ once. absurd (both_ways _ (none_twice_at path once i c.loop-i-test.true) (has_entry (take i path) (slice_index_or path i 0) again.0 again.1 again.2)))

pub loop-i-preserved : goal.loop-i-preserved
loop-i-preserved c = new_more c.args.path.now c.loop-i.i (has_no_entry _ _ c.if-contains.ensures.cases) c.loop-i.invariant

pub returns : goal.returns
returns c = (λ t. none_twice_from c.args.path.now (λ k l. c.loop-i.invariant k (omega (arith, l, c.loop-i-test.false))), λ once. refl)
