use Rattle.stpc_paths.specs.Kept.{IsForest}
use Rattle.stpc_paths.proofs.Adding.{all_laid}
use Rattle.stpc_paths.proofs.lay.stpc.Goals as goal

pub returns-in-Ok-clause-ok : goal.returns-in-Ok-clause-ok
returns-in-Ok-clause-ok c =
    let forest : IsForest c.args.t.now = record { graph = rw c.requires.graph c.nodes-nodes.ensures.graph; trees = c.requires.trees } in
    rw (c.requires.graph, c.requires.monitors) at (all_laid c.args.t.now c.in_ok-roots.roots.items c.in_ok-names.names.items c.lay_paths.new.pool c.in_ok-recipes.recipes forest
    (c.in_ok-roots.ensures) (rw c.deref-4.ensures.value at c.in-Ok.ensures) c.in_ok-names.ensures (rw (c.deref-2.ensures.value, c.deref-3.ensures.value) at c.in_ok-recipes.ensures))
