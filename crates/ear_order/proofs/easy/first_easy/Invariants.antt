use Rattle.std.proofs.Common.{◌≡◌, ℕ, length}
use Rattle.tomo_base.specs.Search.{mark_of}
use Rattle.ear_order.proofs.easy.first_easy.Given as goal

-- the marks are as before
abbrev pub invariant-loop-place : goal.invariant-loop-place
invariant-loop-place l = (length l.gone.items ≡ l.g.nodes) × ((w : ℕ) → mark_of l.gone.items w ≡ mark_of l.old w)
