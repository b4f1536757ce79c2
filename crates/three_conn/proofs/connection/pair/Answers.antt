use Rattle.std.proofs.Common.{[]}
use Rattle.three_conn.proofs.Whole.{IsAdded, added, not_added, two_added}
use Rattle.three_conn.proofs.connection.pair.Goals as goal
use Rattle.three_conn.proofs.connection.pair.Goals.{then-c-n+in_ok-insert, else-c-n, then-d-n+in_ok-insert-2, else-d-n}

first_added : (c : goal.Joined-d-n) → IsAdded c.args.n c.args.c [] c.if-c-n.set
first_added c = elim c.if-c-n.branch [
  | then-c-n+in_ok-insert w ↦ rw w.set-is (added c.args.n c.args.c [] _ w.if-c-n.true (rw c.new-set.ensures at w.in_ok-insert.ensures.nodes) w.in_ok-insert.ensures.ascending)
  | else-c-n w ↦ rw (w.set-is, c.new-set.ensures) (not_added c.args.n c.args.c [] w.if-c-n.false)
]

second_added : (c : goal.Joined-d-n) → IsAdded c.args.n c.args.d c.if-c-n.set c.if-d-n.set
second_added c = elim c.if-d-n.branch [
  | then-d-n+in_ok-insert-2 w ↦ rw w.set-is (added c.args.n c.args.d c.if-c-n.set _ w.if-d-n.true w.in_ok-insert-2.ensures.nodes w.in_ok-insert-2.ensures.ascending)
  | else-d-n w ↦ rw w.set-is (not_added c.args.n c.args.d c.if-c-n.set w.if-d-n.false)
]

pub returns-clause-size : goal.returns-clause-size
returns-clause-size c = (two_added c.args.n c.args.c c.args.d c.if-c-n.set c.if-d-n.set (first_added c) (second_added c)).0

pub returns-clause-below : goal.returns-clause-below
returns-clause-below c = (two_added c.args.n c.args.c c.args.d c.if-c-n.set c.if-d-n.set (first_added c) (second_added c)).1

pub returns-clause-nodes : goal.returns-clause-nodes
returns-clause-nodes c = (two_added c.args.n c.args.c c.args.d c.if-c-n.set c.if-d-n.set (first_added c) (second_added c)).3

pub returns-clause-ascending : goal.returns-clause-ascending
returns-clause-ascending c = (two_added c.args.n c.args.c c.args.d c.if-c-n.set c.if-d-n.set (first_added c) (second_added c)).2
