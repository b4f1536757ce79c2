-- The new tree has its facts: its parts are the two trees.
use Rattle.std.proofs.Common.{subst, sym, ◌≡◌, ◌+◌, [], ◌∷◌, arith}
use Rattle.split_tree.specs.Trees.{Facts, depth_of}
use Rattle.split_tree.specs.declared.tree.Tree.{Split}
use Rattle.split_tree.proofs.tree.joined.Goals as goal

pub returns-clause-facts : goal.returns-clause-facts
unfolding Rattle.split_tree.specs.declared.tree.Tree.TheBlock.hidden-the_row-Tree-Split-2-1-1 denote.Hole.Carrier.hidden
returns-clause-facts c =
    let parts : c.push-2.new.self ≡ c.args.left ∷ c.args.right ∷ [] =
    grind (arith, c.in_ok-new.ensures, c.in_ok-new-2.ensures, c.in_ok-push.ensures, c.in_ok-push-2.ensures, c.new-parts.ensures) in
    λ n is cut left right. subst (λ xs. Facts n (Split c.args.piece c.args.pair xs)) (sym parts) (is, cut, ((left, tt), ((right, tt), tt)))

pub returns-clause-depth : goal.returns-clause-depth
unfolding Rattle.split_tree.specs.declared.tree.Tree.TheBlock.hidden-the_row-Tree-Split-2-1-1 denote.Hole.Carrier.hidden
returns-clause-depth c =
    let parts : c.push-2.new.self ≡ c.args.left ∷ c.args.right ∷ [] =
    grind (arith, c.in_ok-new.ensures, c.in_ok-new-2.ensures, c.in_ok-push.ensures, c.in_ok-push-2.ensures, c.new-parts.ensures) in
    subst (λ xs. depth_of (Split c.args.piece c.args.pair xs) ≡ Prim.Native.Nat.max (depth_of c.args.left) (depth_of c.args.right) + 1) (sym parts) (omega arith)
