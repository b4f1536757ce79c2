use Rattle.std.proofs.Common.{◌+◌, ◌≤◌, ◌∙◌, length, arith}
use Rattle.tomo_run.proofs.Written.{appends-next, rest-length}
use Rattle.tomo_run.proofs.write.write_all.Goals as goal

pub loop-done-preserved : goal.loop-done-preserved
loop-done-preserved g c =
    let (within, taken, later, sure) = c.loop-done.invariant in
    let count = c.in-Ok.ensures.count in
    let rest = rest-length c.args.bytes.now c.loop-done.done in
    let below : c.loop-done.done + c.in-Ok.count ≤ length c.args.bytes.now = omega (arith, count.1, rest, within) in (
      below,
      appends-next _ _ _ c.args.bytes.now c.loop-done.done c.in-Ok.count taken c.in-Ok.ensures.taken,
      omega (arith, later, c.in-Ok.ensures.later),
      λ enough.
          let (room, same) = sure enough in
          let (less, still) = c.in-Ok.ensures.sure (omega (arith, rest, room)) in
          (omega (arith, less, room), still ∙ same),
    )
