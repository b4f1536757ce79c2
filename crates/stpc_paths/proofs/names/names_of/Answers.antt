use Rattle.std.proofs.Common.{arith}
use Rattle.stpc_paths.proofs.Laying.{no_root, root_link, root_below}
use Rattle.stpc_paths.proofs.PuttingNames.{named_more, named_same, named_all}
use Rattle.stpc_paths.proofs.names.names_of.Goals as goal
use Rattle.stpc_paths.proofs.names.names_of.Goals.{in-Some, in-None}

pub put_name-requires-clause-tree : goal.put_name-requires-clause-tree
put_name-requires-clause-tree c = (rw c.in-Some.is at (root_link c.args.t.now c.args.roots.now c.loop-link.link no_root c.requires.rooted.roots c.loop-link-test.true).2.owned).0

pub put_name-requires-clause-node : goal.put_name-requires-clause-node
put_name-requires-clause-node c = (
  (root_below c.args.t.now c.args.roots.now c.loop-link.link no_root c.requires.rooted.forest c.requires.rooted.roots c.loop-link-test.true).0,
  (rw c.in-Some.is at (root_link c.args.t.now c.args.roots.now c.loop-link.link no_root c.requires.rooted.roots c.loop-link-test.true).2.owned).1.free,
)

pub loop-link-preserved : goal.loop-link-preserved
loop-link-preserved c = elim c.match-root.branch [
  | in-Some w ↦ rw w.names-is
      (named_more c.args.t.now c.requires.rooted.forest c.args.roots.now c.requires.rooted.roots c.loop-link.link w.in-Some.tree no_root c.loop-link.names.items w.put_name.new.names.items
      (rw w.in-Some.is at (root_link c.args.t.now c.args.roots.now c.loop-link.link no_root c.requires.rooted.roots c.loop-link-test.true).2.owned).0 c.loop-link-test.true w.in-Some.is w.put_name.ensures c.loop-link.invariant)
  | in-None w ↦ rw w.names-is (named_same c.args.t.now c.requires.rooted.forest c.args.roots.now c.requires.rooted.roots c.loop-link.link no_root c.loop-link.names.items c.loop-link-test.true w.in-None.is c.loop-link.invariant)
]

pub returns : goal.returns
returns c = named_all c.args.t.now c.requires.rooted.forest c.args.roots.now c.requires.rooted.roots c.loop-link.link c.loop-link.names.items (omega (arith, c.loop-link-test.false)) c.loop-link.invariant
