use Rattle.std.proofs.Common.{◌≡◌, ◌<◌, ◌||◌, ℕ, false, take, get_or}
use Rattle.tomo_base.specs.Sets.{has}
use Rattle.cert_check.proofs.pockets.all_new.Given as goal

-- the nodes so far were new, and were put into the set
abbrev pub invariant-loop-v : goal.invariant-loop-v
invariant-loop-v l =
    ((j : ℕ) → j < l.v-index → has l.initial.seen (get_or l.nodes j 0) ≡ false) × ((w : ℕ) → has l.seen w ≡ (has l.initial.seen w || has (take l.v-index l.nodes) w))
