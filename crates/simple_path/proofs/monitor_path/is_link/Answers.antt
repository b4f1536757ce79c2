use Rattle.std.proofs.Common.{sym, ◌∙◌}
use Rattle.tomo_base.proofs.Rows.{is_some_linked, not_linked}
use Rattle.simple_path.proofs.monitor_path.is_link.Goals as goal

pub returns-then-a-count : goal.returns-then-a-count
returns-then-a-count c = sym (not_linked c.args.g.now c.args.a c.args.b c.nodes-count.ensures.graph (rw c.nodes-count.ensures.nodes at c.then-a-count.either))

pub returns : goal.returns
returns c = c.is_some.ensures ∙ is_some_linked c.args.g.now c.args.a c.args.b c.between.result c.between.ensures.found c.between.ensures.none
