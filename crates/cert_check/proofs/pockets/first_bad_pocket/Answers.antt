use Rattle.std.proofs.Common.{◌≡◌, ◌∙◌, ◌<◌, [], length, arith}
use Rattle.std.proofs.lemmas.Bool.{both_ways}
use Rattle.std.proofs.lemmas.Option.{slice_get-get_or}
use Rattle.cert_check.specs.Faults.{IsGoodPocketAt, pocket_at}
use Rattle.cert_check.proofs.Places.{one_more}
use Rattle.cert_check.proofs.Seen.{seen_forced, seen_more, good_at, new_at}
use Rattle.cert_check.proofs.pockets.first_bad_pocket.Goals.{then-not-branch-via-then-not-branch, then-not-branch-via-else-not-branch+in_ok-all_new+then-not-branch-2}
use Rattle.cert_check.proofs.pockets.first_bad_pocket.Goals as goal

pub loop-i-init : goal.loop-i-init
loop-i-init c = (λ j l. absurd (omega (arith, l)), seen_forced c.args.p.now.forced c.args.p.now.pockets c.in_ok-seen.seen (c.in_ok-seen.ensures ∙ c.forced.ensures.forced))

-- the pocket that was read
pocket_read : (c : goal.After-pocket_need) → (c.pocket-nodes.result.now ≡ (pocket_at c.args.p.now.pockets c.loop-i.i).nodes) × (c.pocket_need.result ≡ (pocket_at c.args.p.now.pockets c.loop-i.i).need)
pocket_read c =
    let at = slice_get-get_or c.args.p.now.pockets c.loop-i.i (record { need = 0; nodes = [] }) (omega (arith, c.loop-i-test.true, c.pocket_count-i-end.ensures.count)) in
    (c.pocket-nodes.ensures _ at, c.pocket_need.ensures _ at)

pub is_good_pocket-requires : goal.is_good_pocket-requires
is_good_pocket-requires c =
    rw (pocket_read c).0 (c.pocket_count-i-end.ensures.formed.pockets.each c.loop-i.i (record { need = 0; nodes = [] }) (omega (arith, c.loop-i-test.true, c.pocket_count-i-end.ensures.count))).1.0

pub all_new-requires-clause-below : goal.all_new-requires-clause-below
all_new-requires-clause-below c = λ k d l. omega (arith, (c.in_ok-is_good_pocket.ensures.0 c.if-not-branch.false).nodes k d l, c.nodes-nodes.ensures.few, c.nodes-nodes.ensures.nodes)

pub returns-then-not-branch-clause-some : goal.returns-then-not-branch-clause-some
returns-then-not-branch-clause-some c =
    let g = c.args.g.now in
    let pockets = c.args.p.now.pockets in
    let here : c.loop-i.i < length pockets = omega (arith, c.loop-i-test.true, c.pocket_count-i-end.ensures.count) in
    let at = slice_get-get_or pockets c.loop-i.i (record { need = 0; nodes = [] }) here in
    let exact = rw (c.pocket-nodes.ensures _ at, c.pocket_need.ensures _ at) at c.in_ok-is_good_pocket.ensures in (
      here,
      (
        c.loop-i.invariant.0,
        λ good. elim c.then-not-branch.branch [
          | then-not-branch-via-then-not-branch w ↦ both_ways _ w.if-not-branch.true (exact.1 good.good)
          | then-not-branch-via-else-not-branch+in_ok-all_new+then-not-branch-2 w ↦
              let fresh = rw (c.pocket-nodes.ensures _ at) at w.in_ok-all_new.ensures.new in
              both_ways _ w.if-not-branch-2.true (fresh.1 (new_at g c.args.p.now.forced pockets c.loop-i.i c.loop-i.seen c.loop-i.invariant.1 good))
        ],
      ),
    )

pub loop-i-preserved : goal.loop-i-preserved
loop-i-preserved c =
    let g = c.args.g.now in
    let pockets = c.args.p.now.pockets in
    let at = slice_get-get_or pockets c.loop-i.i (record { need = 0; nodes = [] }) (omega (arith, c.loop-i-test.true, c.pocket_count-i-end.ensures.count)) in
    let exact = rw (c.pocket-nodes.ensures _ at, c.pocket_need.ensures _ at) at c.in_ok-is_good_pocket.ensures in
    let fresh = rw (c.pocket-nodes.ensures _ at) at c.in_ok-all_new.ensures.new in
    let grown = rw (c.pocket-nodes.ensures _ at) at (c.in_ok-all_new.ensures.nodes c.if-not-branch-2.false) in (
      one_more (IsGoodPocketAt g c.args.p.now.forced pockets) c.loop-i.i c.loop-i.invariant.0 (good_at g c.args.p.now.forced pockets c.loop-i.i c.loop-i.seen c.loop-i.invariant.1 (exact.0 c.if-not-branch.false) (fresh.0 c.if-not-branch-2.false)),
      seen_more c.args.p.now.forced pockets c.loop-i.i c.loop-i.seen c.all_new.new.seen c.loop-i.invariant.1 grown,
    )
