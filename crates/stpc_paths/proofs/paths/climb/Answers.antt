use Rattle.std.proofs.Common.{◌≡◌, ◌++◌, ◌∷◌, [], sym, ◌∙◌, rules}
use Rattle.stpc_paths.proofs.TreePaths.{climb_none, climb_more, climb_all}
use Rattle.stpc_paths.proofs.paths.climb.Goals as goal

pub loop-init : goal.loop-init
loop-init c = climb_none c.args.t.now c.args.tree c.args.from c.args.out.now.items c.requires.forest c.requires.tree c.requires.node

pub returns-then-monitors-node : goal.returns-then-monitors-node
returns-then-monitors-node c =
    let grown : c.push.new.self.items ≡ c.loop.out.items ++ c.loop.node ∷ [] = search rules in
    climb_all c.args.t.now c.args.tree c.args.from c.loop.node c.loop.counter c.args.out.now.items c.loop.out.items c.push.new.self.items (sym (c.requires.monitors.each c.loop.node c.loop.invariant.below) ∙ c.if-monitors-node.true) grown c.loop.invariant

pub loop-preserved : goal.loop-preserved
loop-preserved c =
    let grown : c.push.new.self.items ≡ c.loop.out.items ++ c.loop.node ∷ [] = search rules in
    climb_more c.args.t.now c.args.tree c.args.from c.loop.node c.loop.counter c.parent_of-node.result c.args.out.now.items c.loop.out.items c.push.new.self.items c.requires.forest c.requires.tree
    (sym (c.requires.monitors.each c.loop.node c.loop.invariant.below) ∙ c.if-monitors-node.false) c.parent_of-node.ensures.parent grown c.loop.invariant
