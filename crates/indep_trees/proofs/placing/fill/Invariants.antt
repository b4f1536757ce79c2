use Rattle.std.proofs.Common.{◌≡◌, ℕ, suc, ◌<◌, length, false}
use Rattle.tomo_base.specs.Search.{entry_at}
use Rattle.ear_order.specs.Turns.{between}
use Rattle.indep_trees.proofs.placing.fill.Given as goal

-- the nodes so far have the number
abbrev pub invariant-loop-i : goal.invariant-loop-i
invariant-loop-i l = (length l.values.items ≡ length l.fn.values.items) × ((k : ℕ) → k < l.i → entry_at l.values.items (entry_at l.ear (suc k)) ≡ l.number)
    × ((v : ℕ) → between l.ear v ≡ false → entry_at l.values.items v ≡ entry_at l.fn.values.items v)
