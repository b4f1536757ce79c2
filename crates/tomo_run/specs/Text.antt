-- How a status is told: by a number, and to standard error.
use Rattle.std.specs.Prelude.{ℕ, List, [], codes}
use Rattle.answers.specs.declared.status.Status.{Status}
use Rattle.answers.specs.declared.status.Status.TheVariants.{Done, Negative, Usage, BadInput, ReadFault, WriteFault, NoMemory}

-- the exit status
abbrev pub status_number : Status → ℕ
status_number Done = 0
status_number Negative = 1
status_number Usage = 2
status_number BadInput = 3
status_number ReadFault = 4
status_number WriteFault = 5
status_number NoMemory = 6

-- the line to standard error
abbrev pub fault_text : Status → List ℕ
fault_text Done = []
fault_text Negative = []
fault_text Usage = codes "tomo: usage"
fault_text BadInput = []
fault_text ReadFault = codes "tomo: read fault"
fault_text WriteFault = codes "tomo: write fault"
fault_text NoMemory = codes "tomo: no memory"
