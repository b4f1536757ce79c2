use Rattle.std.proofs.Common.{◌+◌, ◌<◌, get_or, arith}
use Rattle.std.specs.Char.{digit_value}
use Rattle.std.proofs.lemmas.Str.{digit_value_digit}
use Rattle.std.proofs.lemmas.Int.Digits.{digits_more}
use Rattle.plan_form.proofs.Digits.{digit_at, front_least, one_more}
use Rattle.plan_form.proofs.numerals.value_of.Goals as goal
use Rattle.plan_form.proofs.numerals.value_of.Goals.{then-byte-lt48-via-then-byte-lt48, then-byte-lt48-via-else-byte-lt48+then-byte-gt57}

pub returns-then-byte-lt48-clause-none : goal.returns-then-byte-lt48-clause-none
returns-then-byte-lt48-clause-none c = λ all.
    let at = digit_at c.args.digits.now all c.loop-byte.byte-index 0 c.loop-byte-test.true in
    absurd (elim c.then-byte-lt48.branch [
      | then-byte-lt48-via-then-byte-lt48 w ↦ omega (arith, at, w.if-byte-lt48.true)
      | then-byte-lt48-via-else-byte-lt48+then-byte-gt57 w ↦ omega (arith, at, w.if-byte-gt57.true)
    ])

pub overflow_mul-value : goal.overflow_mul-value
overflow_mul-value c = omega (arith, c.loop-byte.invariant.2)

pub overflow_add-value : goal.overflow_add-value
overflow_add-value c = omega (arith, c.loop-byte.invariant.2)

pub loop-byte-preserved : goal.loop-byte-preserved
loop-byte-preserved c =
    let ds = c.args.digits.now in
    let i = c.loop-byte.byte-index in
    let inv = c.loop-byte.invariant in
    let digit : digit_value (get_or ds i 0) < 10 = omega (arith, digit_value_digit (get_or ds i 0) (c.if-byte-lt48.false, c.if-byte-gt57.false), c.if-byte-gt57.false) in (
      digits_more 10 ds i c.loop-byte-test.true inv.0 digit,
      one_more ds i c.loop-byte.value c.loop-byte-test.true inv.1 c.if-byte-lt48.false c.if-byte-gt57.false,
      omega (arith, c.if-value.false),
    )

pub returns-then-value-clause-none : goal.returns-then-value-clause-none
returns-then-value-clause-none c = λ all.
    let ds = c.args.digits.now in
    let i = c.loop-byte.byte-index in
    omega (arith, front_least ds (i + 1), one_more ds i c.loop-byte.value c.loop-byte-test.true c.loop-byte.invariant.1 c.if-byte-lt48.false c.if-byte-gt57.false, c.if-value.true)

pub overflow_cast-result : goal.overflow_cast-result
overflow_cast-result c = omega (arith, c.loop-byte.invariant.2)
