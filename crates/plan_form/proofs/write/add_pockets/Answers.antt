use Rattle.std.proofs.Common.{map, []}
use Rattle.std.proofs.lemmas.List.{length-map, get_or-map}
use Rattle.plan_form.specs.Held.{part_of}
use Rattle.plan_form.specs.PlanRows.{pocket_row}
use Rattle.plan_form.proofs.Numbering.{added_none, added_more}
use Rattle.plan_form.proofs.write.add_pockets.Goals as goal

pub loop-i-init : goal.loop-i-init
loop-i-init c = added_none pocket_row (map part_of c.args.pockets.now) c.args.rows.now c.requires.0

pub loop-i-preserved : goal.loop-i-preserved
loop-i-preserved c = added_more pocket_row (map part_of c.args.pockets.now) c.args.rows.now c.loop-i.rows c.add_counted.new.rows c.loop-i.i (record { need = 0; nodes = [] }) (rw length-map c.loop-i-test.true) c.loop-i.invariant
    (rw (get_or-map part_of c.args.pockets.now c.loop-i.i c.index-pockets-i.result (record { need = 0; nodes = [] }) c.loop-i-test.true, ← c.index-pockets-i.is)
    (rw (c.deref-in-loop-i.ensures.value, c.in_ok-numbers_joined.ensures, c.deref.ensures.value) at c.in_ok-add_counted.ensures))
