use Rattle.std.proofs.Common.{length}
use Rattle.tomo_base.proofs.Paths.{IsNewTo}
use Rattle.cert_check.proofs.Turns.{IsMet}
use Rattle.cert_check.proofs.paths.none_twice.Given as goal

-- the nodes so far differ from those before them, and were met in this turn
abbrev pub invariant-loop-v : goal.invariant-loop-v
invariant-loop-v l = IsNewTo l.path l.v-index × IsMet (length l.initial.last) l.path l.v-index l.turn l.last
