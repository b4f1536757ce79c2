use Rattle.std.proofs.Common.{refl, false, arith}
use Rattle.std.proofs.lemmas.Bool.{both_ways}
use Rattle.cert_check.proofs.Turns.{walk_below, ends_ascend_at, ends_ascend_from}
use Rattle.cert_check.proofs.paths.is_good_path.Goals.{then-path-lt2-via-then-path-lt2, then-path-lt2-via-else-path-lt2+then-path, then-not-ends_in-via-then-not-ends_in, then-not-ends_in-via-else-not-ends_in+then-not-is_walk}
use Rattle.cert_check.proofs.paths.is_good_path.Goals as goal

pub returns-then-path-lt2-clause-good : goal.returns-then-path-lt2-clause-good
returns-then-path-lt2-clause-good c = (
  λ t. absurd (both_ways false refl t),
  λ good. absurd (elim c.then-path-lt2.branch [
    | then-path-lt2-via-then-path-lt2 w ↦ omega (arith, w.if-path-lt2.true, good.0.two)
    | then-path-lt2-via-else-path-lt2+then-path w ↦ omega (arith, w.if-path.true, ends_ascend_at c.args.path.now good.1)
  ]),
)

pub returns-then-not-ends_in-clause-good : goal.returns-then-not-ends_in-clause-good
returns-then-not-ends_in-clause-good c = (
  λ t. absurd (both_ways false refl t),
  λ good. absurd (elim c.then-not-ends_in.branch [
    | then-not-ends_in-via-then-not-ends_in w ↦ both_ways _ w.if-not-ends_in.true (c.ends_in.ensures.1 good.0.ends)
    | then-not-ends_in-via-else-not-ends_in+then-not-is_walk w ↦ both_ways _ w.if-not-is_walk.true (w.is_walk.ensures.1 good.0.linked)
  ]),
)

pub none_twice-requires-clause-nodes : goal.none_twice-requires-clause-nodes
none_twice-requires-clause-nodes c = rw c.requires.size (walk_below c.args.g.now c.args.path.now c.nodes-nodes.ensures.graph c.if-path-lt2.false (c.is_walk.ensures.0 c.if-not-is_walk.false))

pub returns-clause-good : goal.returns-clause-good
returns-clause-good c = (
  λ t. (
    record {
      two = c.if-path-lt2.false;
      different = c.none_twice.ensures.once.0 t;
      linked = c.is_walk.ensures.0 c.if-not-is_walk.false;
      ends = c.ends_in.ensures.0 c.if-not-ends_in.false;
    },
    ends_ascend_from c.args.path.now (omega (arith, c.if-path-lt2.false)) c.if-path.false,
  ),
  λ good. c.none_twice.ensures.once.1 good.0.different,
)
