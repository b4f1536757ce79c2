use Rattle.std.proofs.Common.{◌≡◌, map, refl, ap, ap₂, ◌∙◌}
use Rattle.indexmap.specs.IndexSet.{insert_key}
use Rattle.tomo_base.specs.Table.{in_order}
use Rattle.topology.specs.Topology.{link_between, same_link}
use Rattle.topology.proofs.Distinct.{map-inserted}
use Rattle.topology.proofs.Graphs.{in_order_turned, in_order_kept}
use Rattle.topology.proofs.links.Links.add.Goals as goal
use Rattle.topology.proofs.links.Links.add.Goals.{then-b-a, else-b-a}

pub returns-clause-ok : goal.returns-clause-ok
returns-clause-ok c =
    let keys = c.in_ok-insert.ensures.keys in
    let turned : link_between c.if-b-a.ends ≡ in_order (link_between (c.args.a, c.args.b)) = elim c.if-b-a.branch [
      | then-b-a w ↦ ap link_between w.ends-is ∙ in_order_turned c.args.a c.args.b w.if-b-a.true
      | else-b-a w ↦ ap link_between w.ends-is ∙ in_order_kept c.args.a c.args.b w.if-b-a.false
    ] in
    ap (map link_between) keys ∙ (map-inserted link_between _ same_link (λ x y. refl) c.self.inside.ends.keys c.if-b-a.ends ∙ ap₂ (insert_key same_link) c.self.view_is turned)
