use Rattle.ear_order.proofs.Spots.{zone_from}
use Rattle.ear_order.proofs.candidates.widened.Goals as goal

pub returns-clause-zone : goal.returns-clause-zone
returns-clause-zone c = zone_from c.args.part.now c.in_ok-zone.zone.items c.mark.new.marks.items c.mark-2.new.marks.items c.args.ear.now c.args.low c.args.high c.requires.low c.requires.high c.requires.end
    (c.in_ok-zone.ensures.items_if_clones_equal (λ y h e. e)) c.mark.ensures.marks c.mark-2.ensures.marks
