use Rattle.std.proofs.Common.{ap, arith}
use Rattle.std.proofs.lemmas.Option.{slice_get-get_or}
use Rattle.tomo_base.specs.declared.graph.Link.{Link}
use Rattle.tomo_base.proofs.Links.{link_at}
use Rattle.rows.specs.Rows.{RowList}
use Rattle.answers.specs.Rounds.{ends_row}
use Rattle.plan_form.proofs.Numbering.{added_none, added_more}
use Rattle.answers.proofs.solving.add_links.Goals as goal

pub loop-i-init : goal.loop-i-init
loop-i-init c = added_none (ends_row c.args.topology.now.names) c.links-links.result.now c.args.rows.now (ap (λ (r : RowList). r.current) c.requires)

pub add_link-requires-clause-ends : goal.add_link-requires-clause-ends
add_link-requires-clause-ends c =
    let l : Link = record { a = 0; b = 0 } in
    let at = link_at _ _ c.loop-i.i _ c.graph.ensures.topology.graph (slice_get-get_or c.args.topology.now.graph.links c.loop-i.i l (rw (c.links-links.ensures.links, c.graph.ensures.graph) at c.loop-i-test.true)) in
    rw (c.links-links.ensures.links, c.graph.ensures.graph) (omega (arith, at.0, at.1), at.1)

pub loop-i-preserved : goal.loop-i-preserved
loop-i-preserved c =
    added_more (ends_row c.args.topology.now.names) c.links-links.result.now c.args.rows.now c.loop-i.rows c.add_link.new.rows c.loop-i.i (record { a = 0; b = 0 }) c.loop-i-test.true c.loop-i.invariant c.in_ok-add_link.ensures
