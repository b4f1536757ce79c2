use Rattle.std.proofs.Common.{◌<◌, length, arith, sym, ◌∙◌}
use Rattle.std.proofs.lemmas.Bool.Decides.{nat_tests}
use Rattle.rows.proofs.Blanks.{first_goes, first_stays, none_stay}
use Rattle.rows.proofs.trim.without_first_blanks.Goals as goal

pub loop-rest-preserved : goal.loop-rest-preserved
loop-rest-preserved c = first_goes c.loop-rest.rest.now c.in-len1-up.len_at_least (sym c.is_blank.ensures ∙ c.if-is_blank.true) ∙ c.loop-rest.invariant

pub returns-then-rest-lt1 : goal.returns-then-rest-lt1
returns-then-rest-lt1 c =
    let none : length c.loop-rest.rest.now < 1 = grind (arith, nat_tests) in
    sym (none_stay c.loop-rest.rest.now none) ∙ c.loop-rest.invariant

pub returns-else-is_blank : goal.returns-else-is_blank
returns-else-is_blank c = sym (first_stays c.loop-rest.rest.now c.in-len1-up.len_at_least (sym c.is_blank.ensures ∙ c.if-is_blank.false)) ∙ c.loop-rest.invariant
