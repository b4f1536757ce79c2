use Rattle.topology.proofs.Finding.{name_found, name_is_found}
use Rattle.topology.proofs.topology.Topology.find.Goals as goal

pub returns-clause-found : goal.returns-clause-found
returns-clause-found c = rw (← c.self.view_is, c.find.ensures) (name_found c.self.inside.names c.args.name.now)

pub returns-clause-only : goal.returns-clause-only
returns-clause-only c = rw (← c.self.view_is, c.find.ensures) (λ v at. name_is_found c.self.inside.names c.args.name.now v c.self.invariant.different at)
