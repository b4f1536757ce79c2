use Rattle.std.proofs.Common.{◌≡◌, length}
use Rattle.tomo_base.specs.Search.{entry_at}
use Rattle.indep_trees.specs.Shortening.{IsLow, AreChosen}
use Rattle.indep_trees.proofs.shortening.shorten.Given as goal

-- the parents so far are old ones or neighbours below
abbrev pub invariant-loop-v : goal.invariant-loop-v
invariant-loop-v l = (length l.parents.items ≡ length l.initial.parents.items) × (length l.steps.items ≡ length l.numbers)
    × AreChosen (IsLow l.g (entry_at l.numbers) (entry_at l.ears)) l.initial.parents.items l.parents.items
