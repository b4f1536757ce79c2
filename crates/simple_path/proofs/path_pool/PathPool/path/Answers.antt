use Rattle.std.proofs.Common.{◌<◌, length, arith}
use Rattle.simple_path.proofs.Regions.{length-paths, span_read, span_lent}
use Rattle.simple_path.proofs.path_pool.PathPool.path.Goals as goal

pub slice_bounds-result-count : goal.slice_bounds-result-count
slice_bounds-result-count c =
    let here : c.args.i < length c.self.inside.spans.items = rw length-paths at (rw (← c.self.view_is) at c.requires) in
    (span_read c.self.inside.nodes.items c.self.inside.spans.items c.args.i c.index-span.result.now c.self.invariant here c.index-span.ensures).0

pub slice_bounds-result-start : goal.slice_bounds-result-start
slice_bounds-result-start c =
    let here : c.args.i < length c.self.inside.spans.items = rw length-paths at (rw (← c.self.view_is) at c.requires) in
    let at = span_lent c.self.inside.nodes.items c.deref.result.now c.self.inside.spans.items c.args.i c.index-span.result.now c.self.invariant here c.index-span.ensures c.deref.ensures.value in
    omega (arith, at.0, at.1)

pub slice_bounds-result-end : goal.slice_bounds-result-end
slice_bounds-result-end c =
    let here : c.args.i < length c.self.inside.spans.items = rw length-paths at (rw (← c.self.view_is) at c.requires) in
    let at = span_lent c.self.inside.nodes.items c.deref.result.now c.self.inside.spans.items c.args.i c.index-span.result.now c.self.invariant here c.index-span.ensures c.deref.ensures.value in
    omega (arith, at.0, at.1)
