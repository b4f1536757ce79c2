use Rattle.std.proofs.Common.{◌≤◌, length}
use Rattle.plan_form.specs.Parts.{IsTerm}
use Rattle.plan_form.specs.Spelling.{space, term_text}
use Rattle.plan_form.proofs.Items.{ReadTo}
use Rattle.plan_form.proofs.lists.read_terms.Given as goal

abbrev pub invariant-loop-term : goal.invariant-loop-term
invariant-loop-term l = (length l.recipe ≤ 16) × ReadTo space term_text IsTerm l.text l.rest l.recipe

abbrev pub decreases-loop-term : goal.decreases-loop-term
decreases-loop-term l = length l.rest
