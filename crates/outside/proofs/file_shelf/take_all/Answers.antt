use Rattle.std.proofs.Common.{arith, take}
use Rattle.outside.proofs.Reading.{one-piece-more}
use Rattle.outside.proofs.file_shelf.take_all.Goals as goal

pub returns-then-count-limit-clause-stops : goal.returns-then-count-limit-clause-stops
returns-then-count-limit-clause-stops g c =
    one-piece-more _ (g.F.Read.remaining c.loop-out.file) _ c.loop-out.out.items (take c.in-Ok.count c.read.new.buf) c.args.limit _ c.loop-out.invariant.0 (omega (arith, c.in-Ok.ensures.bound, c.read.auto.buf)) c.loop-out.invariant.1 c.in-Ok.ensures.bytes.0

pub returns-then-is_err-clause-stops : goal.returns-then-is_err-clause-stops
returns-then-is_err-clause-stops g c =
    one-piece-more _ (g.F.Read.remaining c.loop-out.file) _ c.loop-out.out.items (take c.in-Ok.count c.read.new.buf) c.args.limit _ c.loop-out.invariant.0 (omega (arith, c.in-Ok.ensures.bound, c.read.auto.buf)) c.loop-out.invariant.1 c.in-Ok.ensures.bytes.0
