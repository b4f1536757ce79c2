use Rattle.std.proofs.Common.{◌<◌, length, Some, ap, ◌∙◌, arith}
use Rattle.unit_flow.specs.Arrays.{put}
use Rattle.unit_flow.specs.Steps.{entry_of}
use Rattle.unit_flow.proofs.Writes.{array_put}
use Rattle.unit_flow.proofs.arrays.follow.Goals as goal

pub returns-clause-followed : goal.returns-clause-followed
returns-clause-followed c = λ t ok arcs queue.
    let state = c.walk-end.ensures.walked t ok arcs queue in
    let after = c.walk-end.new.before in
    let v = c.args.target in
    let room : v < length after = omega (arith, c.requires.target, c.walk-end.ensures.same_length) in
    record {
      walked = entry_of after;
      first = state.0;
      state = state.1;
      moved = λ w. array_put after v w (Some c.walk-end.result) room ∙ ap (λ z. put (entry_of after) v (Some z) w) c.walk-end.ensures.node;
    }
