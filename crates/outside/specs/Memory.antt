-- What a contract sees of a shelf and a sink in memory, and what a call does to each.
use Rattle.std.specs.Prelude.{ℕ, ◌≡◌, ◌<◌, ◌≤◌, ◌-◌, ◌⊎◌, ◌==◌, List, length, take, min, Bool, true, false, [], ◌∷◌, ◌++◌, if◌then◌else◌}
use Rattle.std.specs.Prelude.{Some, None, Result, Ok, Err, IsSomeAnd, refl}
use Rattle.std.specs.List.{list_any}
use Rattle.std.specs.Coded.{Coded, code_by, coded×, coded_ℕ, coded_list}
use Rattle.std.specs.FinMap.{code, get}
use Rattle.outside.specs.Causes.{next_count}
use Rattle.outside.specs.Shelf.{Files}
use Rattle.outside.specs.declared.shelf.Got.{Got}
use Rattle.outside.specs.declared.shelf.Got.TheVariants.{Whole, TooLong}
use Rattle.outside.specs.declared.shelf.ShelfFault.{ShelfFault}
use Rattle.outside.specs.declared.shelf.ShelfFault.TheVariants.{NoMemory, Failed}
use Rattle.outside.specs.declared.sink.SinkFault.{SinkFault}

-- a shelf in memory: what each name gives, the names asked for, how many reads were made, the
-- numbers of the reads that are set to fail, and how many failed
pub record MemoryFiles : Type 0 where
  pub files : Files
  pub asked : List (List ℕ)
  pub reads : ℕ
  pub failing : List ℕ
  pub faults : ℕ

-- stored as the tuple of its fields
abbrev pub memory_files_code : Coded MemoryFiles
memory_files_code =
    code_by (Files × (List (List ℕ) × (ℕ × (List ℕ × ℕ))))
    (coded× (code (coded_list coded_ℕ) (coded_list coded_ℕ))
    (coded× (coded_list (coded_list coded_ℕ)) (coded× coded_ℕ (coded× (coded_list coded_ℕ) coded_ℕ))))
    (λ m. (m.files, (m.asked, (m.reads, (m.failing, m.faults)))))
    (λ p. record { files = p.0; asked = p.1.0; reads = p.1.1.0; failing = p.1.1.1.0; faults = p.1.1.1.1 })
    (λ _. refl)

-- a sink in memory: what it took, the room that is left, how much it takes at a time, how many
-- writes were made, the numbers of the writes that are set to fail, and how many failed
pub record MemoryBytes : Type 0 where
  pub taken : List ℕ
  pub room : ℕ
  pub piece : ℕ
  pub writes : ℕ
  pub failing : List ℕ
  pub faults : ℕ

-- no call is set to fail
abbrev pub none_set : List ℕ → Bool
none_set [] = true
none_set (n ∷ ns) = false

-- the call with this number, next_count from 1, is set to fail
abbrev pub is_set : List ℕ → ℕ → Bool
is_set failing call = list_any (λ n. n == call) failing

-- the next read is set to fail
abbrev pub read_is_set : MemoryFiles → Bool
read_is_set shelf = is_set shelf.failing (next_count shelf.reads)

-- what a read answers: the content, or that it is longer than the limit, or a failure where the
-- read is set to fail or the name isn't known
abbrev pub AnswersRead : MemoryFiles → List ℕ → ℕ → Result Got ShelfFault → List ℕ → Type 0
AnswersRead shelf name limit (Ok Whole) out =
    (read_is_set shelf ≡ false) × (get shelf.files name ≡ Some out) × (length out ≤ limit)
AnswersRead shelf name limit (Ok TooLong) out =
    (read_is_set shelf ≡ false) × IsSomeAnd (get shelf.files name) (λ content. limit < length content) × (out ≡ [])
AnswersRead shelf name limit (Err Failed) out =
    ((read_is_set shelf ≡ true) ⊎ (get shelf.files name ≡ None)) × (out ≡ [])
AnswersRead shelf name limit (Err NoMemory) out = out ≡ []

-- the shelf after a read with this answer; where memory was wanted it is as it was
abbrev pub after_read : MemoryFiles → List ℕ → Result Got ShelfFault → MemoryFiles
after_read shelf name (Ok got) =
    record shelf { asked = shelf.asked ++ name ∷ []; reads = next_count shelf.reads }
after_read shelf name (Err Failed) =
    record shelf { asked = shelf.asked ++ name ∷ []; reads = next_count shelf.reads; faults = next_count shelf.faults }
after_read shelf name (Err NoMemory) = shelf

-- of how many bytes a sink is sure: those of the room left, where no write is set to fail
abbrev pub sure_room : MemoryBytes → ℕ
sure_room sink = if none_set sink.failing then sink.room else 0

-- the next write is set to fail
abbrev pub write_is_set : MemoryBytes → Bool
write_is_set sink = is_set sink.failing (next_count sink.writes)

-- what a write answers: it takes as many bytes as it can, and fails where it is set to fail or no
-- room is left
abbrev pub AnswersWrite : MemoryBytes → List ℕ → Result ℕ SinkFault → Type 0
AnswersWrite sink bytes (Ok k) =
    (write_is_set sink ≡ false) × (0 < sink.room) × (k ≡ min (min (length bytes) sink.piece) sink.room)
AnswersWrite sink bytes (Err e) = (write_is_set sink ≡ true) ⊎ (sink.room ≡ 0)

-- the sink after a write with this answer
abbrev pub after_write : MemoryBytes → List ℕ → Result ℕ SinkFault → MemoryBytes
after_write sink bytes (Ok k) =
    record sink { taken = sink.taken ++ take k bytes; room = sink.room - k; writes = next_count sink.writes }
after_write sink bytes (Err e) =
    record sink { writes = next_count sink.writes; faults = next_count sink.faults }
