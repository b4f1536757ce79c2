use Rattle.std.proofs.Common.{ℕ, ◌<◌}
use Rattle.indep_trees.specs.Trees.{parent_in}
use Rattle.stpc_paths.specs.Roots.{Owns}
use Rattle.stpc_paths.specs.Kept.{monitor_in}
use Rattle.stpc_paths.proofs.roots.owning_tree.Given as goal

-- in none of the trees so far
abbrev pub invariant-loop-tree : goal.invariant-loop-tree
invariant-loop-tree l = (i : ℕ) → i < l.tree → Owns (monitor_in l.t) (parent_in l.t) i l.v l.w → ⊥
