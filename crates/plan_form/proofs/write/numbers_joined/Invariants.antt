use Rattle.std.proofs.Common.{◌≡◌, take}
use Rattle.plan_form.specs.Spelling.{numbers_text}
use Rattle.plan_form.proofs.write.numbers_joined.Given as goal

abbrev pub invariant-loop-i : goal.invariant-loop-i
invariant-loop-i l = l.text.items ≡ numbers_text (take l.i l.numbers)
