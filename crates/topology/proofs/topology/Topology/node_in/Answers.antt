use Rattle.topology.proofs.Finding.{name_found, no_name_stands, missed_name}
use Rattle.topology.proofs.topology.Topology.node_in.Goals as goal

pub returns-in_err-name-clause-none : goal.returns-in_err-name-clause-none
returns-in_err-name-clause-none c = rw (c.from_residual.ensures, ← c.self.view_is) (no_name_stands c.self.inside.names _ c.self.invariant.named c.in_err-name.ensures.none)

pub returns-clause-found : goal.returns-clause-found
returns-clause-found c = rw (← c.self.view_is, c.find.ensures, ← c.in_ok-name.ensures.name.0) (name_found c.self.inside.names c.in_ok-name.name.now)

pub returns-clause-none : goal.returns-clause-none
returns-clause-none c = rw (← c.self.view_is, ← c.in_ok-name.ensures.name.0) (missed_name c.self.inside.names c.in_ok-name.name.now c.find.result c.find.ensures)
