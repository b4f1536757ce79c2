-- What the files of the machine keep, what a reading of one file leaves, and what standard output
-- counts.
use Rattle.std.specs.Prelude.{ℕ, ◌≡◌, ◌<◌, ◌≤◌, ◌⊎◌, ◌++◌, List, [], ◌∷◌, length, Option, Result, Ok, Err, IfSome}
use Rattle.std.specs.Io.KnownBytes.{Consumes}
use Rattle.outside.specs.Causes.{next_count}
use Rattle.outside.specs.declared.shelf.Got.{Got}
use Rattle.outside.specs.declared.shelf.Got.TheVariants.{Whole, TooLong}
use Rattle.outside.specs.declared.shelf.ShelfFault.{ShelfFault}
use Rattle.outside.specs.declared.shelf.ShelfFault.TheVariants.{NoMemory, Failed}
use Rattle.outside.specs.declared.sink.SinkFault.{SinkFault}

-- the names asked for so far, and how often a read failed
pub record FileReads : Type 0 where
  pub asked : List (List ℕ)
  pub faults : ℕ

-- the files after a read of a name with this answer, which asked for it; want of memory may have
-- come before that
abbrev pub IsAfterRead : FileReads → FileReads → List ℕ → Result Got ShelfFault → Type 0
IsAfterRead old new name (Ok got) = new ≡ record old { asked = old.asked ++ name ∷ [] }
IsAfterRead old new name (Err Failed) = new ≡ record { asked = old.asked ++ name ∷ []; faults = next_count old.faults }
IsAfterRead old new name (Err NoMemory) = (new ≡ record old { asked = old.asked ++ name ∷ [] }) ⊎ (new ≡ old)

-- the count of faults of standard output after a write with this answer
abbrev pub faults_after : ℕ → Result ℕ SinkFault → ℕ
faults_after faults (Ok k) = faults
faults_after faults (Err e) = next_count faults

-- the whole of what a reader has left, where it tells that, or nothing where that is longer than
-- the limit or can't be had
abbrev pub ReadsAll : Option (List ℕ) → ℕ → Result Got ShelfFault → List ℕ → Type 0
ReadsAll left limit (Ok Whole) out = (length out ≤ limit) × IfSome left (λ bytes. out ≡ bytes)
ReadsAll left limit (Ok TooLong) out = (out ≡ []) × IfSome left (λ bytes. limit < length bytes)
ReadsAll left limit (Err e) out = out ≡ []

-- the reader gave away no more bytes than this
abbrev pub TakesAtMost : Option (List ℕ) → Option (List ℕ) → ℕ → Type 0
TakesAtMost old new most = (bytes : List ℕ) × Consumes old new bytes × (length bytes ≤ most)
