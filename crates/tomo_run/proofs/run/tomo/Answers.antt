use Rattle.std.proofs.Common.{◌<◌, sym, length}
use Rattle.std.proofs.Math.Nat.{lt_of_not-le}
use Rattle.tomo_run.proofs.Ending.{stops_at, run_of}
use Rattle.tomo_run.proofs.run.tomo.Goals as goal

pub returns-in-Err-clause-stops : goal.returns-in-Err-clause-stops
returns-in-Err-clause-stops g c =
    stops_at (g.S.Shelf.told c.args.shelf.now) c.args.words.now c.in-Some.shape _ _ (sym c.in-Some.ensures) c.gather.ensures.stops

pub returns-then-write_all-clause-stops : goal.returns-then-write_all-clause-stops
returns-then-write_all-clause-stops g c =
    stops_at (g.S.Shelf.told c.args.shelf.now) c.args.words.now c.in-Some.shape _ _ (sym c.in-Some.ensures) c.gather.ensures.stops

pub returns-clause-stops : goal.returns-clause-stops
returns-clause-stops g c =
    stops_at (g.S.Shelf.told c.args.shelf.now) c.args.words.now c.in-Some.shape _ _ (sym c.in-Some.ensures) c.gather.ensures.stops

pub returns-clause-wrote : goal.returns-clause-wrote
returns-clause-wrote g c =
    let (rows, ends, text) = c.in-Ok-output_of.ensures.ends in
    let (count, short, written) = c.if-write_all.ensures.part in
    let over : g.K.Sink.sure c.args.sink.now < length c.deref.result.now = lt_of_not-le (λ enough. cc (c.if-write_all.ensures.sure enough).0) in (
      c.in-Ok-output_of.output.status,
      c.in-Ok-output_of.output.bytes.items,
      count,
      run_of (g.S.Shelf.told c.args.shelf.now) c.args.words.now c.in-Some.shape c.in-Ok.end _ rows _ (sym c.in-Some.ensures) c.in-Ok.ensures.leads ends text,
      rw c.deref.ensures.value at short,
      rw c.deref.ensures.value at over,
      rw c.deref.ensures.value at written,
    )
