use Rattle.std.proofs.Common.{◌≡◌, ◌<◌, ◌^◌, take}
use Rattle.std.specs.Str.Parse.{AllDigits, digits_value}
use Rattle.plan_form.proofs.numerals.value_of.Given as goal

-- the digits so far have the value so far
abbrev pub invariant-loop-byte : goal.invariant-loop-byte
invariant-loop-byte l = AllDigits 10 (take l.byte-index l.digits) × (digits_value 10 (take l.byte-index l.digits) ≡ l.value) × (l.value < 2 ^ 32)
