use Rattle.std.proofs.Common.{◌≡◌, length, map, take, []}
use Rattle.tomo_base.specs.Network.{AreLinks}
use Rattle.tomo_base.specs.Table.{in_order, AreRows}
use Rattle.tomo_base.proofs.graph.Graph.new.Given as goal

abbrev pub invariant-loop : goal.invariant-loop
invariant-loop l = record {
  so_many : length l.rows.items ≡ l.counter;
  empty : AreRows [] l.rows.items;
}

abbrev pub invariant-loop-i : goal.invariant-loop-i
invariant-loop-i l = record {
  kept : l.kept.items ≡ map in_order (take l.i l.links);
  fine : AreLinks l.n l.kept.items;
  one_each : length l.rows.items ≡ l.n;
  hops : AreRows l.kept.items l.rows.items;
}
