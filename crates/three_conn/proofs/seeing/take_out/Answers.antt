use Rattle.std.proofs.Common.{◌<◌, ◌∙◌, length, get_or, refl, arith, length-set}
use Rattle.three_conn.proofs.Sight.{none_taken, taken_more}
use Rattle.three_conn.proofs.seeing.take_out.Goals as goal

pub loop-v-init : goal.loop-v-init
loop-v-init c = record { nodes_length = refl; free_length = c.requires.free; nodes = none_taken _; free = none_taken _ }

pub loop-v-preserved : goal.loop-v-preserved
loop-v-preserved c =
    let order = c.args.order.now in
    let i = c.loop-v.v-index in
    let x = get_or order i 0 in
    let i_v = c.loop-v.invariant in
    let below : x < length c.args.nodes.now.items = c.requires.nodes i 0 c.loop-v-test.true in
    record {
      nodes_length = length-set _ _ _ ∙ i_v.nodes_length;
      free_length = length-set _ _ _ ∙ i_v.free_length;
      nodes = λ w. taken_more c.args.nodes.now.items c.loop-v.nodes.items order i x w c.loop-v-test.true refl (omega (arith, below, i_v.nodes_length)) (i_v.nodes w);
      free = λ w. taken_more c.args.free.now.items c.loop-v.free.items order i x w c.loop-v-test.true refl (omega (arith, below, i_v.free_length)) (i_v.free w);
    }
