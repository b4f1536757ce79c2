use Rattle.plan_form.proofs.Numbering.{Added}
use Rattle.answers.specs.Components.{cut_row}
use Rattle.answers.proofs.components.add_cuts.Given as goal

-- the rows of the cut vertices so far were added
abbrev pub invariant-loop-v : goal.invariant-loop-v
invariant-loop-v l = Added (λ _ v. cut_row v) l.cuts l.initial.rows l.v-index l.rows
