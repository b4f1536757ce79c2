use Rattle.std.proofs.Common.{◌≡◌, ◌-◌, suc, get_or, IsTrue, arith}
use Rattle.std.proofs.lemmas.Bool.{both_ways}
use Rattle.tomo_base.specs.Network.{linked}
use Rattle.tomo_base.proofs.Links.{linked_below}
use Rattle.tomo_base.proofs.Paths.{walk_at}
use Rattle.cert_check.proofs.Uses.{no_steps, step_more}
use Rattle.cert_check.proofs.steps.steps_of.Goals as goal

pub loop-i-init : goal.loop-i-init
loop-i-init c = rw (c.in_ok-reserve.ensures.items, c.new-steps.ensures.items) (no_steps c.args.g.now.links c.args.path.now)

-- a link joins the node to the one before
joined : (c : goal.After-shared_slice_known-in-loop-i-2-1) → IsTrue (linked c.args.g.now (get_or c.args.path.now (c.loop-i.i - 1) 0) (get_or c.args.path.now c.loop-i.i 0))
joined c =
    let whole : suc (c.loop-i.i - 1) ≡ c.loop-i.i = omega (arith, c.loop-i.auto.i) in
    rw whole at (walk_at c.args.g.now c.args.path.now c.requires.walk (c.loop-i.i - 1) (omega (arith, whole, c.loop-i-test.true)))

pub between-requires-clause-first : goal.between-requires-clause-first
between-requires-clause-first c = (linked_below c.args.g.now.nodes c.args.g.now.links _ _ c.nodes-nodes.ensures.graph (joined c)).0

pub between-requires-clause-second : goal.between-requires-clause-second
between-requires-clause-second c = (linked_below c.args.g.now.nodes c.args.g.now.links _ _ c.nodes-nodes.ensures.graph (joined c)).1

pub unreachable-requires : goal.unreachable-requires
unreachable-requires c =
    let whole : suc (c.loop-i.i - 1) ≡ c.loop-i.i = omega (arith, c.loop-i.auto.i) in
    both_ways _ c.in-None.ensures.none (rw whole at (walk_at c.args.g.now c.args.path.now c.requires.walk (c.loop-i.i - 1) (omega (arith, whole, c.loop-i-test.true))))

pub loop-i-preserved : goal.loop-i-preserved
loop-i-preserved c = rw c.in_ok-push-in-Some.ensures.items (step_more c.args.g.now c.args.path.now c.loop-i.i c.in-Some.link _ c.nodes-nodes.ensures.graph c.loop-i.auto.i c.loop-i-test.true c.in-Some.ensures.found c.loop-i.invariant)
