use Rattle.std.proofs.Common.{◌≡◌, ◌<◌, ◌+◌, ℕ, length}
use Rattle.tomo_base.specs.Search.{entry_at}
use Rattle.tomo_base.specs.Sets.{has}
use Rattle.cert_check.specs.Faults.{IsGoodPathAt}
use Rattle.cert_check.proofs.paths.first_bad_path.Given as goal

-- the paths so far are good
abbrev pub invariant-loop-i : goal.invariant-loop-i
invariant-loop-i l = ((j : ℕ) → j < l.i → IsGoodPathAt l.g (has l.m) l.paths j) × (length l.last.items ≡ l.g.nodes) × ((v : ℕ) → entry_at l.last.items v < l.i + 1)
