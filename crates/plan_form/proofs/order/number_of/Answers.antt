use Rattle.plan_form.proofs.Sorting.{search_finds, search_number}
use Rattle.plan_form.proofs.order.number_of.Goals as goal

pub unreachable-requires : goal.unreachable-requires
unreachable-requires c = search_finds c.args.paths.now c.turn_into.new.nodes.items c.in-Err.field-0 c.requires.ascending (rw (← c.in_ok-turn_into.ensures) at c.requires.member) c.in-Err.ensures.position

pub returns : goal.returns
returns c = search_number c.args.paths.now c.turn_into.new.nodes c.args.path.now c.in-Ok.place c.in-Ok.ensures.bound c.in-Ok.ensures.ok c.in_ok-turn_into.ensures
