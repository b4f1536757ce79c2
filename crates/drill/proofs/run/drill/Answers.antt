use Rattle.std.proofs.Common.{length, ap, ◌∙◌, subst, sym}
use Rattle.tomo_base.specs.Walks.{IsConnected}
use Rattle.topology.specs.Topology.{Topo}
use Rattle.drill.proofs.Growth.{drawn_connected}
use Rattle.drill.proofs.Drawing.{drawn_assignment}
use Rattle.drill.proofs.run.drill.Goals as goal

pub numbered-requires-clause-connected : goal.numbered-requires-clause-connected
numbered-requires-clause-connected c = subst IsConnected (sym (rw c.new-draws.ensures at c.in_ok-g.ensures.graph)) (drawn_connected c.args.seed c.args.n c.args.l c.requires.3)

pub measured-requires-clause-assignment : goal.measured-requires-clause-assignment
measured-requires-clause-assignment c = drawn_assignment c.in-Ok.t.graph c.network.new.draws c.args.l c.deref.result.now
    (ap (λ (t : Topo). length t.graph.links) c.in-Ok.ensures.topology ∙ c.in_ok-g.ensures.count) (c.deref.ensures.value ∙ c.in_ok-delays.ensures)
