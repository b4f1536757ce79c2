use Rattle.std.proofs.Common.{◌≡◌, ◌≤◌, ◌-◌, length, take}
use Rattle.std.specs.Io.KnownBytes.{Appends}
use Rattle.tomo_run.proofs.write.write_all.Given as goal

abbrev pub invariant-loop-done : goal.invariant-loop-done
invariant-loop-done g l =
    (l.done ≤ length l.bytes)
    × Appends (g.K.Sink.taken l.initial.sink) (g.K.Sink.taken l.sink) (take l.done l.bytes)
    × (g.K.Sink.faults l.initial.sink ≤ g.K.Sink.faults l.sink)
    × (length l.bytes ≤ g.K.Sink.sure l.initial.sink → (length l.bytes - l.done ≤ g.K.Sink.sure l.sink) × (g.K.Sink.faults l.sink ≡ g.K.Sink.faults l.initial.sink))

-- each turn takes a byte or ends
abbrev pub decreases-loop-done : goal.decreases-loop-done
decreases-loop-done g l = length l.bytes - l.done
