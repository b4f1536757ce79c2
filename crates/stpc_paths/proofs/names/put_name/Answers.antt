use Rattle.std.proofs.Common.{inl, inr}
use Rattle.stpc_paths.proofs.PuttingNames.{names_none, names_more, names_all}
use Rattle.stpc_paths.proofs.names.put_name.Goals as goal

pub loop-init : goal.loop-init
loop-init c = names_none c.args.t.now c.args.tree c.args.from c.args.name c.args.names.now.items c.requires.forest c.requires.tree c.requires.node

pub returns-then-has : goal.returns-then-has
returns-then-has c =
    rw c.cell_of.ensures (names_all c.args.t.now c.args.tree c.args.from c.loop.node c.loop.counter c.args.name c.args.names.now.items c.loop.names.items c.requires.forest c.requires.tree c.requires.size c.loop.invariant
    (inl (rw (c.has.ensures, c.requires.monitors, c.parent_of-below.ensures.parent, c.next_tree.ensures.next) at c.if-has.true)))

pub returns-then-parent_of-node : goal.returns-then-parent_of-node
returns-then-parent_of-node c =
    rw c.cell_of.ensures (names_all c.args.t.now c.args.tree c.args.from c.loop.node c.loop.counter c.args.name c.args.names.now.items c.loop.names.items c.requires.forest c.requires.tree c.requires.size c.loop.invariant
    (inr (rw (c.parent_of.ensures.parent, c.parent_of-below.ensures.parent, c.next_tree.ensures.next) at c.if-parent_of-node.true)))

pub loop-preserved : goal.loop-preserved
loop-preserved c =
    rw (c.cell_of.ensures, c.parent_of-below.ensures.parent, c.next_tree.ensures.next) (names_more c.args.t.now c.args.tree c.args.from c.loop.node c.loop.counter c.args.name c.args.names.now.items c.loop.names.items c.requires.forest c.requires.tree c.requires.size c.loop.invariant
    (rw (c.has.ensures, c.requires.monitors, c.parent_of-below.ensures.parent, c.next_tree.ensures.next) at c.if-has.false)
    (rw (c.parent_of.ensures.parent, c.parent_of-below.ensures.parent, c.next_tree.ensures.next) at c.if-parent_of-node.false))
