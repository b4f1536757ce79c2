-- The files that the program reads.
use Rattle.std.specs.Prelude.{ℕ}
use Rattle.answers.specs.declared.file_kind.FileKind.{FileKind}
use Rattle.answers.specs.declared.file_kind.FileKind.TheVariants.{PlanFile, RoundFile}

-- the most bytes of a file: more for plans and for rounds
abbrev pub limit : FileKind → ℕ
limit PlanFile = 134217728
limit RoundFile = 16777216
limit _ = 4194304
