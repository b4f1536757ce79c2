use Rattle.std.proofs.Common.{◌≡◌, ◌≤◌, ◌∙◌, take, length, arith}
use Rattle.simple_path.specs.Region.{end_from}
use Rattle.simple_path.proofs.Regions.{length-paths, region_less, paths_less, end_none, end_last}
use Rattle.simple_path.proofs.path_pool.PathPool.cut_back.Goals as goal
use Rattle.simple_path.proofs.path_pool.PathPool.cut_back.Goals.{then-len-eq0, else-len-eq0}

-- the end of the paths that stay
new_end : (c : goal.After-truncate-2) → c.if-len-eq0.end ≡ end_from 0 (take c.args.len c.self.inside.spans.items)
new_end c =
    let few : c.args.len ≤ length c.self.inside.spans.items = rw length-paths at (rw (← c.self.view_is) at c.requires) in
    elim c.if-len-eq0.branch [
      | then-len-eq0 w ↦ w.end-is ∙ end_none c.self.inside.spans.items c.args.len w.if-len-eq0.true
      | else-len-eq0 w ↦ w.end-is ∙ end_last c.self.inside.spans.items c.args.len w.index.result.now (omega (arith, w.if-len-eq0.false)) few w.index.ensures
    ]

pub invariant_of-self : goal.invariant_of-self
invariant_of-self c = rw (c.truncate-2.ensures.items, c.truncate.ensures.items) (region_less c.self.inside.nodes.items c.self.inside.spans.items c.args.len c.if-len-eq0.end c.self.invariant (new_end c))

pub returns : goal.returns
returns c = rw (← c.self.view_is, c.truncate-2.ensures.items, c.truncate.ensures.items) (paths_less c.self.inside.nodes.items c.self.inside.spans.items c.args.len c.if-len-eq0.end c.self.invariant (new_end c))
