use Rattle.std.proofs.Common.{◌≡◌, take}
use Rattle.plan_form.specs.Spelling.{terms_text}
use Rattle.plan_form.proofs.write.terms_joined.Given as goal

abbrev pub invariant-loop-i : goal.invariant-loop-i
invariant-loop-i l = l.text.items ≡ terms_text (take l.i l.terms)
