use Rattle.std.proofs.Common.{◌≡◌, ◌<◌, ℕ, length}
use Rattle.tomo_base.specs.Search.{mark_of}
use Rattle.tomo_base.specs.Sets.{has}
use Rattle.stpc_paths.proofs.paths.monitor_marks.Given as goal

-- the nodes so far have their marks
abbrev pub invariant-loop-v : goal.invariant-loop-v
invariant-loop-v l = (length l.marks.items ≡ l.v) × ((v : ℕ) → v < l.v → mark_of l.marks.items v ≡ has l.m v)
