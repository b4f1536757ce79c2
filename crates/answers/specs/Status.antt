-- Which statuses come with an answer.
use Rattle.answers.specs.declared.status.Status.{Status}
use Rattle.answers.specs.declared.status.Status.TheVariants.{Done, Negative, BadInput}

-- a status that a whole output comes with
abbrev pub IsAnswered : Status → Type 0
IsAnswered Done = Unit {0}
IsAnswered Negative = Unit {0}
IsAnswered BadInput = Unit {0}
IsAnswered _ = ⊥
