use Rattle.std.proofs.Common.{◌∙◌}
use Rattle.tomo_base.proofs.Links.{joins_comm, any_joins_comm}
use Rattle.tomo_base.proofs.Entering.{rows_after, joins_its_ends}
use Rattle.tomo_base.proofs.hop_rows.enter.Goals as goal

pub returns-clause-entered : goal.returns-clause-entered
returns-clause-entered c = λ links are new is_last.
    rows_after links c.args.link c.args.rows.now c.add_hop.new.hops c.add_hop-2.new.hops c.index-rows-link.result c.index-rows-link-2.result c.requires.ordered c.requires.within are
    (λ h. c.in_ok-add_hop.ensures.added links c.args.link.a c.args.link h (joins_its_ends c.args.link) new is_last)
    (λ h. c.in_ok-add_hop-2.ensures.added links c.args.link.b c.args.link h (joins_comm c.args.link c.args.link.b c.args.link.a ∙ joins_its_ends c.args.link) (any_joins_comm links c.args.link.b c.args.link.a ∙ new) is_last)
