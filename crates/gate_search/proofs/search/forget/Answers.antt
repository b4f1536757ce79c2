use Rattle.std.proofs.Common.{refl}
use Rattle.gate_search.proofs.Stopping.{forgotten_none}
use Rattle.gate_search.proofs.search.forget.Goals as goal

pub loop-k-init : goal.loop-k-init
loop-k-init c = record { order = refl; parents = c.requires.room.parents; ranks = forgotten_none _ _ c.requires.room }
