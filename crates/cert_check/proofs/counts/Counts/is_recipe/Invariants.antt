use Rattle.std.proofs.Common.{◌<◌, ℕ}
use Rattle.tomo_base.specs.Search.{entry_at}
use Rattle.cert_check.proofs.Balances.{IsRightAt}
use Rattle.cert_check.proofs.counts.Counts.is_recipe.Given as goal

-- link i and the links looked at so far are right
abbrev pub invariant-loop-k : goal.invariant-loop-k
invariant-loop-k l = IsRightAt l.self l.i l.i × ((j : ℕ) → j < l.k-index → IsRightAt l.self l.i (entry_at l.self.touched.items j))
