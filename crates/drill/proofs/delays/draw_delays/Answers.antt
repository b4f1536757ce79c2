use Rattle.std.proofs.Common.{◌≡◌, ℕ, List, ◌++◌, ◌∷◌, [], refl, sym, ap, ap₂, ◌∙◌, arith}
use Rattle.drill.specs.Draws.{draw, state, draws, drawn_delay_limit}
use Rattle.drill.proofs.Drawing.{draws_more}
use Rattle.drill.proofs.Growth.{state_more}
use Rattle.drill.proofs.delays.draw_delays.Goals as goal

pub loop-init : goal.loop-init
unfolding state draws
loop-init c = (refl, c.new-delays.ensures.items)

pub loop-preserved : goal.loop-preserved
loop-preserved c =
    let number : c.from.result ≡ draw drawn_delay_limit (state c.args.draws.now c.loop.counter) = c.from.ensures ∙ (c.draw.ensures.gives ∙ ap (draw drawn_delay_limit) c.loop.invariant.0) in (
      c.draw.ensures.state ∙ state_more c.args.draws.now c.loop.counter c.loop.draws c.loop.invariant.0,
      ◌∙◌ {A = List ℕ} c.in_ok-push.ensures.items (ap₂ (λ xs x. xs ++ x ∷ []) c.loop.invariant.1 number ∙ sym (draws_more c.args.draws.now drawn_delay_limit c.loop.counter)),
    )

pub returns : goal.returns
returns c =
    let all : c.loop.counter ≡ c.args.count = omega (arith, c.loop.auto.counter-end, c.loop-test.false) in
    c.loop.invariant.1 ∙ ap (draws c.args.draws.now drawn_delay_limit) all
