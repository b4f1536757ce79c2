use Rattle.std.proofs.Common.{sym, ◌∙◌, arith}
use Rattle.std.proofs.lemmas.Result.{IfOk-weaker}
use Rattle.tomo_base.specs.Sets.{has}
use Rattle.tomo_base.proofs.Links.{joins_comm, linked_below, linked_comm}
use Rattle.cross_links.specs.Joining.{one_term}
use Rattle.cross_links.proofs.Tasks.{differ}
use Rattle.tomo_base.proofs.Places.{only_joins}
use Rattle.cross_links.proofs.Terms.{by_one}
use Rattle.cross_links.proofs.Naming.{names_recipe}
use Rattle.cross_links.proofs.crossing.between.Goals as goal

pub one_path-requires-clause-room : goal.one_path-requires-clause-room
one_path-requires-clause-room c = let below = linked_below c.args.g.now.nodes c.args.g.now.links c.args.v c.args.w c.requires.graph c.requires.linked in omega (arith, below.0, c.requires.room)

pub to_monitor-requires-clause-link : goal.to_monitor-requires-clause-link
to_monitor-requires-clause-link c = record { graph = c.requires.graph; linked = linked_comm c.args.g.now c.args.v c.args.w c.requires.linked; plain = sym c.in-true-false.ensures'; none = c.requires.none; nodes = c.requires.nodes }

pub returns-in-true-true-clause-ok : goal.returns-in-true-true-clause-ok
returns-in-true-true-clause-ok c =
    let g = c.args.g.now in
    let m = has c.args.m.now in
    IfOk-weaker c.one_path.result _ _ (λ r names i at. names_recipe g m i c.args.pool.now c.one_path.new.pool r (one_term c.args.v c.args.w) c.requires.graph names
    (by_one g m c.args.v c.args.w c.requires.linked (differ g c.requires.graph c.args.v c.args.w c.requires.linked) i (only_joins g i c.args.v c.args.w c.requires.graph at) (sym c.in-true-true.ensures) (sym c.in-true-true.ensures'))) c.one_path.ensures.ok

pub returns-in-true-false-clause-ok : goal.returns-in-true-false-clause-ok
returns-in-true-false-clause-ok c = IfOk-weaker c.to_monitor.result _ _ (λ r adds i at. adds i (at.0, at.1, joins_comm at.0 c.args.w c.args.v ∙ at.2)) c.to_monitor.ensures.ok
