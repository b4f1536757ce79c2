use Rattle.std.proofs.Common.{◌≡◌, length, arith, ap, refl, ◌∙◌}
use Rattle.plan_form.specs.Building.{turned}
use Rattle.plan_form.proofs.Turning.{turned_reverse, turned_same, turned_none}
use Rattle.plan_form.proofs.directions.turn_into.Goals as goal
use Rattle.plan_form.proofs.directions.turn_into.Goals.{else-len-gt0-via-then-len-gt0+else-index, else-len-gt0-via-else-len-gt0}

pub returns-then-index : goal.returns-then-index
returns-then-index c =
    let nodes = c.extend_from_slice.new.self.items in
    let copied : nodes ≡ c.args.path.now = c.in_ok-extend_from_slice.ensures.items ∙ rw c.clear.ensures.items refl in
    let lens : c.len-len.result ≡ length nodes = omega (arith, c.len-len.ensures, c.extend_from_slice.new.self.ok.0) in
    let turns = turned_reverse nodes c.index-then-len-gt0.result.now c.index.result.now (rw lens at c.if-len-gt0.true) c.index-then-len-gt0.ensures (rw lens at c.index.ensures) c.if-index.true in
    c.reverse.ensures.items ∙ (turns ∙ ap turned copied)

pub returns-else-len-gt0 : goal.returns-else-len-gt0
returns-else-len-gt0 c =
    let nodes = c.extend_from_slice.new.self.items in
    let copied : nodes ≡ c.args.path.now = c.in_ok-extend_from_slice.ensures.items ∙ rw c.clear.ensures.items refl in
    let lens : c.len-len.result ≡ length nodes = omega (arith, c.len-len.ensures, c.extend_from_slice.new.self.ok.0) in
    let same : nodes ≡ turned nodes = elim c.else-len-gt0.branch [
      | else-len-gt0-via-then-len-gt0+else-index w ↦ turned_same nodes w.index-then-len-gt0.result.now w.index.result.now (rw lens at w.if-len-gt0.true) w.index-then-len-gt0.ensures (rw lens at w.index.ensures) w.if-index.false
      | else-len-gt0-via-else-len-gt0 w ↦ turned_none nodes (rw lens at w.if-len-gt0.false)
    ] in
    same ∙ ap turned copied
