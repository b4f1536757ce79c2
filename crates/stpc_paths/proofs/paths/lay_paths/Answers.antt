use Rattle.std.proofs.Common.{arith}
use Rattle.stpc_paths.proofs.Laying.{root_link, root_below, paths_more, paths_room, paths_all}
use Rattle.stpc_paths.proofs.paths.lay_paths.Goals as goal

pub path_into-requires-clause-node : goal.path_into-requires-clause-node
path_into-requires-clause-node c = (root_below c.args.t.now c.args.roots.now c.loop-root.root-index _ c.requires.rooted.forest c.requires.rooted.roots c.loop-root-test.true).0

pub path_into-requires-clause-other : goal.path_into-requires-clause-other
path_into-requires-clause-other c = (root_below c.args.t.now c.args.roots.now c.loop-root.root-index _ c.requires.rooted.forest c.requires.rooted.roots c.loop-root-test.true).1

pub path_into-requires-clause-owned : goal.path_into-requires-clause-owned
path_into-requires-clause-owned c = (root_link c.args.t.now c.args.roots.now c.loop-root.root-index _ c.requires.rooted.roots c.loop-root-test.true).2.owned

pub add-requires-clause-nodes : goal.add-requires-clause-nodes
add-requires-clause-nodes c =
    rw c.deref-in-loop-root.ensures.value (paths_room c.args.t.now c.args.roots.now c.loop-root.root-index c.loop-root.pool c.path_into.new.path.items _ c.requires.rooted.forest (omega (arith, c.requires.nodes, c.requires.rooted.few_nodes)) c.requires.rooted.few_roots c.requires.rooted.roots
    c.loop-root-test.true c.in_ok-path_into.ensures c.loop-root.invariant)

pub loop-root-preserved : goal.loop-root-preserved
loop-root-preserved c =
    rw (c.in_ok-add.ensures.ok, c.deref-in-loop-root.ensures.value) (paths_more c.args.t.now c.args.roots.now c.loop-root.root-index c.loop-root.pool c.path_into.new.path.items _ c.requires.rooted.forest (omega (arith, c.requires.nodes, c.requires.rooted.few_nodes)) c.requires.rooted.roots
    c.loop-root-test.true c.in_ok-path_into.ensures c.loop-root.invariant)

pub returns : goal.returns
returns c = paths_all c.args.t.now c.args.roots.now c.loop-root.root-index c.loop-root.pool (omega (arith, c.loop-root-test.false, c.loop-root.auto.root-index-end)) c.loop-root.invariant
