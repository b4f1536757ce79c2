use Rattle.std.proofs.Common.{◌≡◌, ℕ, ◌<◌, length, take, nat_lt}
use Rattle.std.specs.List.{filter}
use Rattle.tomo_base.specs.Search.{entry_at}
use Rattle.indep_trees.specs.Numbers.{spot}
use Rattle.indep_trees.specs.Placing.{In}
use Rattle.indep_trees.proofs.counting.numbered.Given as goal

-- the nodes so far have their places
abbrev pub invariant-loop-v : goal.invariant-loop-v
invariant-loop-v l = (length l.numbers.items ≡ l.n) × (l.next ≡ length (filter (λ w. nat_lt w l.n) (take l.v-index l.order)))
    × ((v : ℕ) → v < l.n → In v (take l.v-index l.order) → entry_at l.numbers.items v ≡ spot v (filter (λ w. nat_lt w l.n) (take l.v-index l.order)))
