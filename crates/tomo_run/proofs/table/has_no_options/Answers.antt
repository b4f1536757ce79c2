use Rattle.std.proofs.Common.{◌∙◌, sym, ap, length, ◌≤◌, arith}
use Rattle.std.proofs.lemmas.List.{drop_all}
use Rattle.tomo_run.specs.Table.{no_options}
use Rattle.tomo_run.proofs.Shape.{option_here, option_later, option_none}
use Rattle.tomo_run.proofs.table.has_no_options.Goals as goal

pub returns-then-is_option : goal.returns-then-is_option
returns-then-is_option c =
    sym (c.loop-place.invariant ∙ option_here c.args.words.now c.loop-place.place (rw c.len-place-end.ensures.len at c.loop-place-test.true) (rw c.at.ensures at (sym c.is_option.ensures ∙ c.if-is_option.true)))

pub loop-place-preserved : goal.loop-place-preserved
loop-place-preserved c =
    c.loop-place.invariant ∙ option_later c.args.words.now c.loop-place.place (rw c.len-place-end.ensures.len at c.loop-place-test.true) (rw c.at.ensures at (sym c.is_option.ensures ∙ c.if-is_option.false))

pub returns : goal.returns
returns c =
    let over : length c.args.words.now ≤ c.loop-place.place = omega (arith, c.len-place-end.ensures.len, c.loop-place-test.false) in
    sym (c.loop-place.invariant ∙ ap no_options (drop_all c.loop-place.place c.args.words.now over) ∙ option_none)
