-- What a reader gave away in several reads, one after the other.
use Rattle.std.proofs.Common.{◌≤◌, ◌+◌, ◌++◌, ℕ, List, Option, length, length-append, arith}
use Rattle.std.specs.Io.KnownBytes.{Consumes}
use Rattle.std.proofs.KnownBytes.{Consumes-trans}
use Rattle.outside.specs.Devices.{TakesAtMost}

-- bytes within the limit and then one more piece
pub one-piece-more : (before between after : Option (List ℕ)) (front piece : List ℕ) (limit most : ℕ)
    → length front ≤ limit → length piece ≤ most → Consumes before between front → Consumes between after piece → TakesAtMost before after (limit + most)
one-piece-more before between after front piece limit most within small first second =
    (front ++ piece, Consumes-trans before between after front piece first second, omega (arith, length-append front piece))
