use Rattle.std.proofs.Common.{true, false, refl, ◌∙◌}
use Rattle.cert_check.proofs.Balances.{counted_more, gain_is, loss_is, byte_same}
use Rattle.cert_check.proofs.counts.Counts.add.Goals as goal

pub returns-then-coef-gt0 : goal.returns-then-coef-gt0
returns-then-coef-gt0 c =
    let coef = c.args.coef in
    let same = byte_same coef c.requires.coefficient in
    let weight = gain_is coef c.from-weight.result (rw same at c.if-coef-gt0.true) (c.from-weight.ensures ∙ rw same at c.unsigned_abs.ensures.value) in
    counted_more c.args.self.now coef c.args.steps.now c.count_steps.result true c.from-weight.result _ weight.0 weight.1 refl c.count_steps.ensures.size c.count_steps.ensures.counted c.count_steps.ensures.links c.count_steps.ensures.kept c.count_steps.ensures.touched

pub returns-else-coef-gt0 : goal.returns-else-coef-gt0
returns-else-coef-gt0 c =
    let coef = c.args.coef in
    let call = c.count_steps-else-coef-gt0 in
    let same = byte_same coef c.requires.coefficient in
    let weight = loss_is coef c.from-weight.result c.requires.coefficient (rw same at c.if-coef-gt0.false) (c.from-weight.ensures ∙ rw same at c.unsigned_abs.ensures.value) in
    counted_more c.args.self.now coef c.args.steps.now call.result false c.from-weight.result _ weight.0 weight.1 refl call.ensures.size call.ensures.counted call.ensures.links call.ensures.kept call.ensures.touched
