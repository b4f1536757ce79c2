use Rattle.std.proofs.Common.{◌≡◌, length, ap, ◌∙◌, arith}
use Rattle.topology.specs.Numbered.{decimals}
use Rattle.topology.proofs.Decimals.{decimals_more, length-decimals}
use Rattle.topology.proofs.names.Names.decimals.Goals as goal

pub loop-v-init : goal.loop-v-init
unfolding decimals
loop-v-init c = c.new-names.ensures

pub number-requires : goal.number-requires
number-requires c =
    let long : length c.loop-v.names ≡ length (decimals c.loop-v.v) = ap (λ xs. length xs) c.loop-v.invariant in
    omega (arith, long, length-decimals c.loop-v.v, c.loop-v-test.true, c.requires)

pub loop-v-preserved : goal.loop-v-preserved
loop-v-preserved c = (rw (c.format.ensures.text, c.loop-v.invariant) at c.in_ok-number.ensures.names) ∙ decimals_more c.loop-v.v (omega (arith, c.loop-v-test.true, c.requires))
