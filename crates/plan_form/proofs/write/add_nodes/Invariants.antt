use Rattle.std.proofs.Common.{[], ◌∷◌}
use Rattle.std.specs.Fmt.{decimal}
use Rattle.plan_form.proofs.Numbering.{Added}
use Rattle.plan_form.proofs.write.add_nodes.Given as goal

-- a row of the word for each node so far
abbrev pub invariant-loop-v : goal.invariant-loop-v
invariant-loop-v l = Added (λ _ v. l.word ∷ decimal v ∷ []) l.nodes l.initial.rows l.v-index l.rows
