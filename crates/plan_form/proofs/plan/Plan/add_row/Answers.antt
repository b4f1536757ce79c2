use Rattle.std.proofs.Common.{◌≡◌, arith, map, refl, ap, List, Result, Ok, Err, OnOk, OnErr}
use Rattle.std.proofs.lemmas.List.{length-map}
use Rattle.std.specs.Fmt.{decimal}
use Rattle.topology.specs.Names.{row_at}
use Rattle.plan_form.specs.declared.kinds.Kind.TheVariants as kinds
use Rattle.plan_form.specs.contracts.plan.Plan.{the_view}
use Rattle.plan_form.specs.declared.plan.HeldPocket.{HeldPocket}
use Rattle.plan_form.specs.Held.{part_of}
use Rattle.plan_form.specs.Parts.{IsSmall}
use Rattle.plan_form.specs.Taking.{AddsItem}
use Rattle.plan_form.proofs.Growing.{formed_after, formed_more, node_after, takes_after}
use Rattle.plan_form.proofs.KindRows.{plan_tells, end_tells, must_tells, not_tells, monitor_tells, node_refused}
use Rattle.plan_form.proofs.Spelled.{unspelled}
use Rattle.plan_form.proofs.Taken.{takes_frame}
use Rattle.plan_form.proofs.plan.Plan.add_row.Goals as goal

-- what is kept of pockets is kept of what contracts see of them
same_parts : {T F : Type 0} (old new : List HeldPocket) (answer : Result T F) → OnErr answer (new ≡ old) → OnErr answer (map part_of new ≡ map part_of old)
same_parts old new (Ok x) kept = tt
same_parts old new (Err f) kept = ap (map part_of) kept

-- ---- room for one item more

pub add_name-requires-clause-room : goal.add_name-requires-clause-room
add_name-requires-clause-room c = omega (arith, ((rw (← c.self.view_is) at c.requires.room).numbers kinds.Node (omega arith, omega arith)))

pub add_link-requires-clause-room : goal.add_link-requires-clause-room
add_link-requires-clause-room c = omega (arith, ((rw (← c.self.view_is) at c.requires.room).numbers kinds.Link (omega arith, omega arith)))

pub add_pocket-requires-clause-room : goal.add_pocket-requires-clause-room
add_pocket-requires-clause-room c = omega (arith, ((rw (← c.self.view_is) at c.requires.room).numbers kinds.Pocket (omega arith, omega arith)), length-map c.self.inside.pockets.items part_of)

pub add_recipe-requires-clause-room : goal.add_recipe-requires-clause-room
add_recipe-requires-clause-room c = omega (arith, ((rw (← c.self.view_is) at c.requires.room).numbers kinds.Recipe (omega arith, omega arith)))

-- ---- a node more

must_added : (c : goal.After-add_node) → OnOk c.add_node.result (AddsItem kinds.Must (row_at c.args.rows.now.closed c.args.row) c.self.inside.forced.items c.add_node.new.nodes.items)
must_added c = let at = rw c.in-Must.is at c.requires.at in node_after kinds.Must (row_at c.args.rows.now.closed c.args.row) c.add_node.result (λ v. v) _ _ refl (λ v node. must_tells (row_at c.args.rows.now.closed c.args.row) v at.begins at.record_is node) c.add_node.ensures.adds

not_added : (c : goal.After-add_node-in-Not) → OnOk c.add_node-in-Not.result (AddsItem kinds.Not (row_at c.args.rows.now.closed c.args.row) c.self.inside.barred.items c.add_node-in-Not.new.nodes.items)
not_added c = let at = rw c.in-Not.is at c.requires.at in node_after kinds.Not (row_at c.args.rows.now.closed c.args.row) c.add_node-in-Not.result (λ v. v) _ _ refl (λ v node. not_tells (row_at c.args.rows.now.closed c.args.row) v at.begins at.record_is node) c.add_node-in-Not.ensures.adds

monitor_added : (c : goal.After-add_node-in-Monitor) → OnOk c.add_node-in-Monitor.result (AddsItem kinds.Monitor (row_at c.args.rows.now.closed c.args.row) c.self.inside.monitors.items c.add_node-in-Monitor.new.nodes.items)
monitor_added c = let at = rw c.in-Monitor.is at c.requires.at in node_after kinds.Monitor (row_at c.args.rows.now.closed c.args.row) c.add_node-in-Monitor.result (λ v. v) _ _ refl (λ v node. monitor_tells (row_at c.args.rows.now.closed c.args.row) v at.begins at.record_is node) c.add_node-in-Monitor.ensures.adds

-- ---- the plan can be spelled

pub invariant_of-self : goal.invariant_of-self
invariant_of-self c = formed_more kinds.Node (row_at c.args.rows.now.closed c.args.row) c.add_name.result (omega arith, omega arith) refl (the_view c.self.inside) c.add_name.new.names c.self.invariant ((rw (← c.self.view_is) at c.requires.room).numbers kinds.Node (omega arith, omega arith)) c.add_name.ensures.adds c.add_name.ensures.kept

pub invariant_of-self-in-Link : goal.invariant_of-self-in-Link
invariant_of-self-in-Link c = formed_more kinds.Link (row_at c.args.rows.now.closed c.args.row) c.add_link.result (omega arith, omega arith) refl (the_view c.self.inside) c.add_link.new.links.items c.self.invariant ((rw (← c.self.view_is) at c.requires.room).numbers kinds.Link (omega arith, omega arith)) c.add_link.ensures.adds c.add_link.ensures.kept

pub invariant_of-self-in-Pocket : goal.invariant_of-self-in-Pocket
invariant_of-self-in-Pocket c = formed_more kinds.Pocket (row_at c.args.rows.now.closed c.args.row) c.add_pocket.result (omega arith, omega arith) refl (the_view c.self.inside) (map part_of c.add_pocket.new.pockets.items) c.self.invariant ((rw (← c.self.view_is) at c.requires.room).numbers kinds.Pocket (omega arith, omega arith)) c.add_pocket.ensures.adds (same_parts c.self.inside.pockets.items c.add_pocket.new.pockets.items c.add_pocket.result c.add_pocket.ensures.kept)

pub invariant_of-self-in-Recipe : goal.invariant_of-self-in-Recipe
invariant_of-self-in-Recipe c = formed_more kinds.Recipe (row_at c.args.rows.now.closed c.args.row) c.add_recipe.result (omega arith, omega arith) refl (the_view c.self.inside) c.add_recipe.new.recipes c.self.invariant ((rw (← c.self.view_is) at c.requires.room).numbers kinds.Recipe (omega arith, omega arith)) c.add_recipe.ensures.adds c.add_recipe.ensures.kept

pub invariant_of-self-in-Must : goal.invariant_of-self-in-Must
invariant_of-self-in-Must c = formed_more kinds.Must (row_at c.args.rows.now.closed c.args.row) c.add_node.result (omega arith, omega arith) refl (the_view c.self.inside) c.add_node.new.nodes.items c.self.invariant ((rw (← c.self.view_is) at c.requires.room).numbers kinds.Must (omega arith, omega arith)) (must_added c) c.add_node.ensures.kept

pub invariant_of-self-in-Not : goal.invariant_of-self-in-Not
invariant_of-self-in-Not c = formed_more kinds.Not (row_at c.args.rows.now.closed c.args.row) c.add_node-in-Not.result (omega arith, omega arith) refl (the_view c.self.inside) c.add_node-in-Not.new.nodes.items c.self.invariant ((rw (← c.self.view_is) at c.requires.room).numbers kinds.Not (omega arith, omega arith)) (not_added c) c.add_node-in-Not.ensures.kept

pub invariant_of-self-in-Monitor : goal.invariant_of-self-in-Monitor
invariant_of-self-in-Monitor c = formed_more kinds.Monitor (row_at c.args.rows.now.closed c.args.row) c.add_node-in-Monitor.result (omega arith, omega arith) refl (the_view c.self.inside) c.add_node-in-Monitor.new.nodes.items c.self.invariant ((rw (← c.self.view_is) at c.requires.room).numbers kinds.Monitor (omega arith, omega arith)) (monitor_added c) c.add_node-in-Monitor.ensures.kept

pub invariant_of-self-in-Path : goal.invariant_of-self-in-Path
invariant_of-self-in-Path c =
    formed_after kinds.Path (row_at c.args.rows.now.closed c.args.row) c.add_path.result (omega arith, omega arith) (the_view c.self.inside) c.add_path.new.paths c.self.invariant c.add_path.ensures.adds c.add_path.ensures.few c.add_path.ensures.kept

-- ---- it takes the row

pub returns-in-Node-clause-takes : goal.returns-in-Node-clause-takes
returns-in-Node-clause-takes c = rw (c.in-Node.is, ← c.self.view_is) (takes_after kinds.Node (row_at c.args.rows.now.closed c.args.row) c.add_name.result (omega arith, omega arith) (the_view c.self.inside) c.add_name.new.names c.add_name.ensures.adds)

pub returns-in-Link-clause-takes : goal.returns-in-Link-clause-takes
returns-in-Link-clause-takes c = rw (c.in-Link.is, ← c.self.view_is) (takes_after kinds.Link (row_at c.args.rows.now.closed c.args.row) c.add_link.result (omega arith, omega arith) (the_view c.self.inside) c.add_link.new.links.items c.add_link.ensures.adds)

pub returns-in-Pocket-clause-takes : goal.returns-in-Pocket-clause-takes
returns-in-Pocket-clause-takes c = rw (c.in-Pocket.is, ← c.self.view_is) (takes_after kinds.Pocket (row_at c.args.rows.now.closed c.args.row) c.add_pocket.result (omega arith, omega arith) (the_view c.self.inside) (map part_of c.add_pocket.new.pockets.items) c.add_pocket.ensures.adds)

pub returns-in-Recipe-clause-takes : goal.returns-in-Recipe-clause-takes
returns-in-Recipe-clause-takes c = rw (c.in-Recipe.is, ← c.self.view_is) (takes_after kinds.Recipe (row_at c.args.rows.now.closed c.args.row) c.add_recipe.result (omega arith, omega arith) (the_view c.self.inside) c.add_recipe.new.recipes c.add_recipe.ensures.adds)

pub returns-in-Path-clause-takes : goal.returns-in-Path-clause-takes
returns-in-Path-clause-takes c = rw (c.in-Path.is, ← c.self.view_is) (takes_after kinds.Path (row_at c.args.rows.now.closed c.args.row) c.add_path.result (omega arith, omega arith) (the_view c.self.inside) c.add_path.new.paths c.add_path.ensures.adds)

pub returns-in-Must-clause-takes : goal.returns-in-Must-clause-takes
returns-in-Must-clause-takes c = rw (c.in-Must.is, ← c.self.view_is) (takes_after kinds.Must (row_at c.args.rows.now.closed c.args.row) c.add_node.result (omega arith, omega arith) (the_view c.self.inside) c.add_node.new.nodes.items (must_added c))

pub returns-in-Not-clause-takes : goal.returns-in-Not-clause-takes
returns-in-Not-clause-takes c = rw (c.in-Not.is, ← c.self.view_is) (takes_after kinds.Not (row_at c.args.rows.now.closed c.args.row) c.add_node-in-Not.result (omega arith, omega arith) (the_view c.self.inside) c.add_node-in-Not.new.nodes.items (not_added c))

pub returns-in-Monitor-clause-takes : goal.returns-in-Monitor-clause-takes
returns-in-Monitor-clause-takes c = rw (c.in-Monitor.is, ← c.self.view_is) (takes_after kinds.Monitor (row_at c.args.rows.now.closed c.args.row) c.add_node-in-Monitor.result (omega arith, omega arith) (the_view c.self.inside) c.add_node-in-Monitor.new.nodes.items (monitor_added c))

pub returns-in-Plan-clause-takes : goal.returns-in-Plan-clause-takes
returns-in-Plan-clause-takes c =
    let at = rw c.in-Plan.is at c.requires.at in
    rw c.in-Plan.is (takes_frame kinds.Plan (row_at c.args.rows.now.closed c.args.row) c.args.self.now (λ part. omega (arith, part.0)) (plan_tells (row_at c.args.rows.now.closed c.args.row) _ at.begins at.record_is))

pub returns-in-End-clause-takes : goal.returns-in-End-clause-takes
returns-in-End-clause-takes c =
    let at = rw c.in-End.is at c.requires.at in
    rw c.in-End.is (takes_frame kinds.End (row_at c.args.rows.now.closed c.args.row) c.args.self.now (λ part. omega (arith, part.1)) (end_tells (row_at c.args.rows.now.closed c.args.row) _ at.begins at.record_is))

-- ---- or refuses it

pub returns-in-Node-clause-refuses : goal.returns-in-Node-clause-refuses
returns-in-Node-clause-refuses c = rw (c.in-Node.is, ← c.self.view_is) c.add_name.ensures.refuses

pub returns-in-Link-clause-refuses : goal.returns-in-Link-clause-refuses
returns-in-Link-clause-refuses c = rw (c.in-Link.is, ← c.self.view_is) c.add_link.ensures.refuses

pub returns-in-Recipe-clause-refuses : goal.returns-in-Recipe-clause-refuses
returns-in-Recipe-clause-refuses c = rw (c.in-Recipe.is, ← c.self.view_is) c.add_recipe.ensures.refuses

pub returns-in-Path-clause-refuses : goal.returns-in-Path-clause-refuses
returns-in-Path-clause-refuses c = rw (c.in-Path.is, ← c.self.view_is) c.add_path.ensures.refuses

pub returns-in-Pocket-clause-refuses : goal.returns-in-Pocket-clause-refuses
returns-in-Pocket-clause-refuses c = rw (c.in-Pocket.is, ← c.self.view_is, length-map) c.add_pocket.ensures.refuses

pub returns-in-Must-clause-refuses : goal.returns-in-Must-clause-refuses
returns-in-Must-clause-refuses c = rw c.in-Must.is (node_refused kinds.Must _ _ (row_at c.args.rows.now.closed c.args.row) c.add_node.result (unspelled kinds.Must 1 IsSmall decimal (λ v. v) (λ i v fits. (fits, refl)) (row_at c.args.rows.now.closed c.args.row)) c.add_node.ensures.refuses)

pub returns-in-Not-clause-refuses : goal.returns-in-Not-clause-refuses
returns-in-Not-clause-refuses c = rw c.in-Not.is (node_refused kinds.Not _ _ (row_at c.args.rows.now.closed c.args.row) c.add_node-in-Not.result (unspelled kinds.Not 1 IsSmall decimal (λ v. v) (λ i v fits. (fits, refl)) (row_at c.args.rows.now.closed c.args.row)) c.add_node-in-Not.ensures.refuses)

pub returns-in-Monitor-clause-refuses : goal.returns-in-Monitor-clause-refuses
returns-in-Monitor-clause-refuses c = rw c.in-Monitor.is (node_refused kinds.Monitor _ _ (row_at c.args.rows.now.closed c.args.row) c.add_node-in-Monitor.result (unspelled kinds.Monitor 1 IsSmall decimal (λ v. v) (λ i v fits. (fits, refl)) (row_at c.args.rows.now.closed c.args.row)) c.add_node-in-Monitor.ensures.refuses)
