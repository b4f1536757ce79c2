use Rattle.std.proofs.Common.{◌<◌, All}
use Rattle.tomo_base.specs.Sets.{has}
use Rattle.ident_laws.specs.Walk.{IsTriedTo}
use Rattle.drop_place.proofs.lowest.drop_nodes.Given as goal

-- the nodes from u on are tried
abbrev pub invariant-loop-u : goal.invariant-loop-u
invariant-loop-u l = record {
  tried : IsTriedTo l.g (λ v. v) (has l.must) (has l.not) l.u (has l.kept);
  nodes : All (λ v. v < l.g.nodes) l.kept;
}
