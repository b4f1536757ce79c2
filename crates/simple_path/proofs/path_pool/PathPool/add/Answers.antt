use Rattle.std.proofs.Common.{◌≡◌, ◌∙◌, ◌++◌, length, ap}
use Rattle.simple_path.proofs.Regions.{length-paths, nodes_all, region_more, paths_more}
use Rattle.simple_path.proofs.path_pool.PathPool.add.Goals as goal

pub invariant_of-self-2 : goal.invariant_of-self-2
invariant_of-self-2 c =
    let nodes = c.self.inside.nodes.items in
    let spans = c.self.inside.spans.items in
    let paths = rw length-paths at (rw (← c.self.view_is) at c.requires.paths) in
    let room = rw (nodes_all nodes spans c.self.invariant) at (rw (← c.self.view_is) at c.requires.nodes) in
    let begins : c.len-start.result ≡ length nodes = c.len-start.ensures ∙ c.self.inside.nodes.ok.0 in
    let ends : c.len.result ≡ length (nodes ++ c.args.path.now) = c.len.ensures ∙ (c.extend_from_slice.new.self.ok.0 ∙ ap (λ xs. length xs) c.in_ok-extend_from_slice.ensures.items) in
    rw (c.in_ok-push.ensures.items, c.in_ok-extend_from_slice.ensures.items, c.in_ok-reserve.ensures.items)
    (region_more nodes c.args.path.now spans _ c.self.invariant begins ends paths room)

pub returns-clause-ok : goal.returns-clause-ok
returns-clause-ok c =
    let nodes = c.self.inside.nodes.items in
    let spans = c.self.inside.spans.items in
    let begins : c.len-start.result ≡ length nodes = c.len-start.ensures ∙ c.self.inside.nodes.ok.0 in
    let ends : c.len.result ≡ length (nodes ++ c.args.path.now) = c.len.ensures ∙ (c.extend_from_slice.new.self.ok.0 ∙ ap (λ xs. length xs) c.in_ok-extend_from_slice.ensures.items) in
    rw (← c.self.view_is, c.in_ok-push.ensures.items, c.in_ok-extend_from_slice.ensures.items, c.in_ok-reserve.ensures.items)
    (paths_more nodes c.args.path.now spans _ c.self.invariant begins ends)
