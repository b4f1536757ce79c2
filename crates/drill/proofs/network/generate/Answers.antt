use Rattle.std.proofs.Common.{◌≡◌, subst, sym}
use Rattle.std.proofs.lemmas.Result.{IfOk-weaker}
use Rattle.tomo_base.specs.Walks.{IsConnected}
use Rattle.drill.specs.Generated.{generated}
use Rattle.drill.proofs.Growth.{drawn_connected}
use Rattle.drill.proofs.network.generate.Goals as goal

pub returns-clause-connected : goal.returns-clause-connected
returns-clause-connected c = IfOk-weaker c.network.result (λ g. g ≡ generated c.args.seed c.args.n c.args.l) IsConnected
    (λ g is. subst IsConnected (sym is) (drawn_connected c.args.seed c.args.n c.args.l c.requires.3)) (rw c.new.ensures at c.network.ensures.graph)
