-- Which statuses come only where all files were read.
use Rattle.answers.specs.declared.status.Status.{Status}
use Rattle.answers.specs.declared.status.Status.TheVariants.{Done, Negative}

-- a status of a command that has read all its files
abbrev pub IsResult : Status → Type 0
IsResult Done = Unit {0}
IsResult Negative = Unit {0}
IsResult _ = ⊥
