use Rattle.std.proofs.Common.{◌∷◌, [], length, ap, arith}
use Rattle.unit_flow.specs.Flows.{later_of}
use Rattle.cross_links.proofs.Turned.{length-turned_onto}
use Rattle.cross_links.proofs.Naming.{nodes_more}
use Rattle.unit_flow.proofs.Loads.{take_later}
use Rattle.cross_links.proofs.adding.three_paths.Goals as goal

pub add_term-requires-2-clause-nodes : goal.add_term-requires-2-clause-nodes
add_term-requires-2-clause-nodes c = omega (
  arith,
  c.requires.room,
  nodes_more c.args.pool.now c.add_term.new.pool (c.args.w ∷ []) c.args.a.now c.in_ok-add_term.ensures.pool,
  length-turned_onto (c.args.w ∷ []) c.args.a.now,
  length-turned_onto (c.args.w ∷ []) c.args.b.now,
)

pub add_term-requires-3-clause-nodes : goal.add_term-requires-3-clause-nodes
add_term-requires-3-clause-nodes c = omega (
  arith,
  c.requires.room,
  nodes_more c.args.pool.now c.add_term.new.pool (c.args.w ∷ []) c.args.a.now c.in_ok-add_term.ensures.pool,
  nodes_more c.add_term.new.pool c.add_term-2.new.pool (c.args.w ∷ []) c.args.b.now c.in_ok-add_term-2.ensures.pool,
  length-turned_onto (c.args.w ∷ []) c.args.a.now,
  length-turned_onto (c.args.w ∷ []) c.args.b.now,
  length-turned_onto (later_of c.args.a.now) c.args.b.now,
  ap length (take_later c.args.a.now),
)
