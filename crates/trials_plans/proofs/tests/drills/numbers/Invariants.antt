use Rattle.std.proofs.Common.{◌≡◌, ◌≤◌, ◌^◌, length, All}
use Rattle.trials_plans.proofs.tests.drills.numbers.Given as goal

abbrev pub invariant-loop-number : goal.invariant-loop-number
invariant-loop-number l = (length l.numbers.items ≡ l.number) × All (λ d. d ≤ 2 ^ 32) l.numbers.items
