use Rattle.std.proofs.Common.{◌≡◌, arith, rules}
use Rattle.std.specs.Prelude.{codes}
use Rattle.std.proofs.lemmas.Slice.Eq.{text_from_reads}
use Rattle.plan_form.proofs.kinds.kind_named.Goals as goal

pub returns-in-pocket : goal.returns-in-pocket
returns-in-pocket c = (let e : c.args.word.now ≡ codes "pocket" = text_from_reads c.args.word.now (codes "pocket") (omega arith) (search rules) in rw e)

pub returns-in-recipe : goal.returns-in-recipe
returns-in-recipe c = (let e : c.args.word.now ≡ codes "recipe" = text_from_reads c.args.word.now (codes "recipe") (omega arith) (search rules) in rw e)

pub returns-in-monitor : goal.returns-in-monitor
returns-in-monitor c = (let e : c.args.word.now ≡ codes "monitor" = text_from_reads c.args.word.now (codes "monitor") (omega arith) (search rules) in rw e)
