use Rattle.std.proofs.Common.{◌≡◌, ◌∙◌, ap}
use Rattle.tomo_base.specs.Network.{Network}
use Rattle.plan_form.specs.Good.{AreGoodForced, AreGoodBarred}
use Rattle.cert_check.proofs.Wholes.{forced_read, barred_read, barred_fault, monitors_from}
use Rattle.cert_check.proofs.checking.node_fault.Goals as goal
use Rattle.cert_check.proofs.checking.node_fault.Goals.{In_default, In_default-first_not_chosen}

-- the nodes that were counted are those of the topology
nodes : (c : In_default) → c.nodes-n.result ≡ c.args.t.now.graph.nodes
nodes c = c.nodes-n.ensures.nodes ∙ ap (λ (h : Network). h.nodes) c.graph.ensures.graph

-- the forced nodes are good
forced : (c : In_default) → AreGoodForced c.args.t.now.graph c.args.p.now.monitors c.args.p.now.forced
forced c = forced_read c.args.t.now.graph _ _ c.args.p.now.monitors _ _ c.args.p.now.forced (nodes c) c.monitors.ensures.monitors c.forced.ensures.forced c.in_ok-monitors.ensures c.in_default.ensures.none

-- so are the barred ones
barred : (c : In_default-first_not_chosen) → AreGoodForced c.args.t.now.graph c.args.p.now.monitors c.args.p.now.forced → c.nodes-n.result ≡ c.args.t.now.graph.nodes
    → AreGoodBarred c.args.t.now.graph c.args.p.now.forced c.args.p.now.monitors c.args.p.now.barred
barred c good same =
    barred_read c.args.t.now.graph _ _ c.args.p.now.monitors _ c.args.p.now.forced _ c.args.p.now.barred same c.monitors.ensures.monitors c.barred.ensures.barred c.in_ok-monitors.ensures good
    c.in_default-first_not_chosen.ensures.none

pub returns-in-Some-first_not_chosen-clause-some : goal.returns-in-Some-first_not_chosen-clause-some
returns-in-Some-first_not_chosen-clause-some c =
    let at = (goal.at.returns-in-Some-first_not_chosen-clause-some c).In_default in
    let p = c.args.p.now in
    (c.requires, forced at, barred_fault c.args.t.now.graph _ _ p.monitors _ p.forced _ p.barred _ (nodes at) c.monitors.ensures.monitors c.barred.ensures.barred c.in_ok-monitors.ensures (forced at) c.in-Some-first_not_chosen.ensures.some)

pub returns-in-Some-first_not_ascending-clause-some : goal.returns-in-Some-first_not_ascending-clause-some
returns-in-Some-first_not_ascending-clause-some c =
    let here = goal.at.returns-in-Some-first_not_ascending-clause-some c in
    let at = here.In_default in
    (c.requires, forced at, barred here.In_default-first_not_chosen (forced at) (nodes at), rw (nodes at, c.monitors-3.ensures.monitors) at c.in-Some-first_not_ascending.ensures.some)

pub returns-clause-none : goal.returns-clause-none
returns-clause-none c =
    let here = goal.at.returns-clause-none c in
    let at = here.In_default in
    record {
      of = c.requires;
      forced = forced at;
      barred = barred here.In_default-first_not_chosen (forced at) (nodes at);
      monitors = monitors_from c.args.t.now.graph c.args.p.now.monitors (rw (nodes at, c.monitors-3.ensures.monitors) at c.in_default-first_not_ascending.ensures.none);
    }
