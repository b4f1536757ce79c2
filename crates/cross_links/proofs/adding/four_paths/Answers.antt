use Rattle.std.proofs.Common.{◌≡◌, ◌+◌, ◌-◌, ℕ, List, take, drop, length, ap, arith}
use Rattle.simple_path.specs.Pools.{nodes_in}
use Rattle.unit_flow.specs.Flows.{later_of}
use Rattle.cross_links.specs.Joining.{four_terms, term_paths}
use Rattle.cross_links.proofs.Turned.{length-turned_onto}
use Rattle.cross_links.proofs.Naming.{nodes_more}
use Rattle.unit_flow.proofs.Loads.{take_later}
use Rattle.cross_links.proofs.adding.four_paths.Goals as goal
use Rattle.cross_links.proofs.adding.four_paths.Goals.{In_ok-add_term, In_ok-add_term-2}

-- the nodes of the four terms
four_nodes : (a b c d : List ℕ) → nodes_in (term_paths (four_terms a b c d)) ≡ (length c + length a) + (length b + length d) + (length (later_of a) + length b) + (length (later_of c) + length d)
four_nodes a b c d = omega (arith, length-turned_onto c a, length-turned_onto b d, length-turned_onto (later_of a) b, length-turned_onto (later_of c) d)

-- those in the pool after the first
after_first : (c : In_ok-add_term) → nodes_in c.add_term.new.pool ≡ nodes_in c.args.pool.now + (length c.args.c.now + length c.args.a.now)
after_first c = nodes_more c.args.pool.now c.add_term.new.pool c.args.c.now c.args.a.now c.in_ok-add_term.ensures.pool

-- and after the second
after_second : (c : In_ok-add_term-2) (n : ℕ) → nodes_in c.add_term.new.pool ≡ n → nodes_in c.add_term-2.new.pool ≡ n + (length c.args.b.now + length c.args.d.now)
after_second c n before = omega (arith, before, nodes_more c.add_term.new.pool c.add_term-2.new.pool c.args.b.now c.args.d.now c.in_ok-add_term-2.ensures.pool)

pub add_term-requires-clause-nodes : goal.add_term-requires-clause-nodes
add_term-requires-clause-nodes c = omega (arith, c.requires.room, four_nodes c.args.a.now c.args.b.now c.args.c.now c.args.d.now)

pub add_term-requires-2-clause-nodes : goal.add_term-requires-2-clause-nodes
add_term-requires-2-clause-nodes c =
    let first = after_first (goal.at.add_term-requires-2-clause-nodes c).In_ok-add_term in
    omega (arith, c.requires.room, first, four_nodes c.args.a.now c.args.b.now c.args.c.now c.args.d.now)

pub add_term-requires-3-clause-nodes : goal.add_term-requires-3-clause-nodes
add_term-requires-3-clause-nodes c =
    let at = goal.at.add_term-requires-3-clause-nodes c in
    let second = after_second at.In_ok-add_term-2 _ (after_first at.In_ok-add_term) in
    omega (arith, c.requires.room, second, four_nodes c.args.a.now c.args.b.now c.args.c.now c.args.d.now, ap length (take_later c.args.a.now))

pub add_term-requires-4-clause-nodes : goal.add_term-requires-4-clause-nodes
add_term-requires-4-clause-nodes c =
    let at = goal.at.add_term-requires-4-clause-nodes c in
    let second = after_second at.In_ok-add_term-2 _ (after_first at.In_ok-add_term) in
    let third = nodes_more c.add_term-2.new.pool c.add_term-3.new.pool (take (length c.args.a.now - 1) (drop 1 c.args.a.now)) c.args.b.now c.in_ok-add_term-3.ensures.pool in
    let later = ap length (take_later c.args.c.now) in
    omega (arith, c.requires.room, second, third, later, four_nodes c.args.a.now c.args.b.now c.args.c.now c.args.d.now, ap length (take_later c.args.a.now))
