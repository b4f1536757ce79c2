use Rattle.std.proofs.Common.{◌≡◌, true, false, sym, ◌∙◌}
use Rattle.tomo_base.specs.Sets.{has}
use Rattle.answers.proofs.growing.add_node.Goals as goal

pub returns-then-has : goal.returns-then-has
returns-then-has c =
    let root : has c.args.t.now.monitors c.args.v ≡ true = rw c.requires.monitors (sym c.has.ensures ∙ c.if-has.true) in
    rw root c.add_root.ensures

pub returns-else-has : goal.returns-else-has
returns-else-has c =
    let free : has c.args.t.now.monitors c.args.v ≡ false = rw c.requires.monitors (sym c.has.ensures ∙ c.if-has.false) in
    rw free c.add_tree.ensures
