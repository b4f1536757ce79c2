use Rattle.cert_check.proofs.Places.{if_none}
use Rattle.cert_check.proofs.Wholes.{pockets_read, paths_read, recipes_from}
use Rattle.cert_check.proofs.checking.proof_fault.Goals as goal

pub returns-in-Some-3-clause-some : goal.returns-in-Some-3-clause-some
returns-in-Some-3-clause-some c =
    let g = c.args.t.now.graph in
    let p = c.args.p.now in
    let graph = c.graph-g.ensures.graph in
    let pockets = pockets_read g _ p.forced p.pockets graph (if_none c.in_ok-i.field-0 _ c.in_default.not-Some c.in_ok-i.ensures.none) in
    let paths = paths_read g _ _ _ p.monitors _ p.paths graph c.in_ok-monitors.ensures c.monitors.ensures.monitors c.paths.ensures.paths (if_none c.in_ok-i-2.field-0 _ c.in_default-2.not-Some c.in_ok-i-2.ensures.none) in
    let within = rw c.in-Some-3.is at c.in_ok-i-3.ensures.within in
    let some = rw c.in-Some-3.is at c.in_ok-i-3.ensures.some in
    (c.requires, pockets, paths, rw (graph, c.recipes.ensures.recipes) at within, rw (graph, c.paths-2.ensures.paths, c.recipes.ensures.recipes) at some)

pub returns-clause-none : goal.returns-clause-none
returns-clause-none c =
    let g = c.args.t.now.graph in
    let p = c.args.p.now in
    let graph = c.graph-g.ensures.graph in
    let count = if_none c.in_ok-i-3.field-0 _ c.in_default-3.not-Some c.in_ok-i-3.ensures.count in
    let each = if_none c.in_ok-i-3.field-0 _ c.in_default-3.not-Some c.in_ok-i-3.ensures.none in
    record {
      names = c.requires.of.names;
      links = c.requires.of.links;
      forced = c.requires.forced;
      barred = c.requires.barred;
      monitors = c.requires.monitors;
      pockets = pockets_read g _ p.forced p.pockets graph (if_none c.in_ok-i.field-0 _ c.in_default.not-Some c.in_ok-i.ensures.none);
      paths = paths_read g _ _ _ p.monitors _ p.paths graph c.in_ok-monitors.ensures c.monitors.ensures.monitors c.paths.ensures.paths (if_none c.in_ok-i-2.field-0 _ c.in_default-2.not-Some c.in_ok-i-2.ensures.none);
      recipes = recipes_from g p.paths p.recipes (rw (graph, c.recipes.ensures.recipes) at count) (rw (graph, c.paths-2.ensures.paths, c.recipes.ensures.recipes) at each);
    }
