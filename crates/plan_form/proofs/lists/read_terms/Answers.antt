use Rattle.std.proofs.Common.{length-append, arith, [], ◌∷◌}
use Rattle.plan_form.specs.Parts.{IsTerm}
use Rattle.plan_form.specs.Spelling.{space, term_text}
use Rattle.plan_form.proofs.Cutting.{first_part}
use Rattle.plan_form.proofs.Items.{read_last, read_not, read_longer, some_pushed}
use Rattle.plan_form.proofs.Texts.{term_lacks}
use Rattle.plan_form.proofs.lists.read_terms.Goals as goal

pub returns-in_default : goal.returns-in_default
returns-in_default c terms is e =
    let first = first_part space c.loop-term.rest.now c.cut.result.0.now c.cut.result.1 c.cut.ensures.last c.cut.ensures.more in
    read_not space term_text IsTerm c.args.text.now c.loop-term.rest.now c.cut.result.0.now c.loop-term.recipe c.loop-term.invariant.1 term_lacks first.0 first.1 c.in_default.ensures terms is.0 is.2 e

pub returns-then-terms-eq-TERM_LIMIT : goal.returns-then-terms-eq-TERM_LIMIT
returns-then-terms-eq-TERM_LIMIT c terms is e =
    let first = first_part space c.loop-term.rest.now c.cut.result.0.now c.cut.result.1 c.cut.ensures.last c.cut.ensures.more in
    let longer = read_longer space term_text IsTerm c.args.text.now c.loop-term.rest.now c.cut.result.0.now c.loop-term.recipe c.loop-term.invariant.1 term_lacks first.0 first.1 terms is.0 is.2 e in
    absurd (omega (arith, longer, is.1, c.if-terms-eq-TERM_LIMIT.true, rw c.terms.ensures.terms at c.if-terms-eq-TERM_LIMIT.true))

pub returns-in-None : goal.returns-in-None
returns-in-None c =
    let last = read_last space term_text IsTerm c.args.text.now c.loop-term.rest.now c.cut.result.0.now c.loop-term.recipe c.loop-term.invariant.1 c.in-Some.term (rw c.in-None.is at c.cut.ensures.last) c.in-Some.ensures in
    rw c.in_ok-push.ensures.ok ((some_pushed c.loop-term.recipe c.in-Some.term, omega (arith, length-append c.loop-term.recipe (c.in-Some.term ∷ []), c.loop-term.invariant.0, c.if-terms-eq-TERM_LIMIT.false, rw c.terms.ensures.terms at c.if-terms-eq-TERM_LIMIT.false), last.0), last.1)
