use Rattle.std.proofs.Common.{◌≡◌, ℕ, length, map, take}
use Rattle.tomo_base.specs.Search.{mark_of}
use Rattle.ear_order.specs.Ears.{in_ears}
use Rattle.ear_order.proofs.marks.in_some_ear.Given as goal

-- the nodes of the ears so far are marked
abbrev pub invariant-loop-ear : goal.invariant-loop-ear
invariant-loop-ear l = (length l.marks.items ≡ l.n) × ((v : ℕ) → mark_of l.marks.items v ≡ in_ears (map (λ e. e.items) (take l.ear-index l.ears)) v)
