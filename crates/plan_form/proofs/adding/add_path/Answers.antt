use Rattle.std.proofs.Common.{◌<◌, ◌+◌, ◌^◌, ◌∷◌, [], length, arith, ap, Some, refl, length-append}
use Rattle.simple_path.specs.Pools.{nodes_in}
use Rattle.topology.specs.Names.{row_at}
use Rattle.plan_form.specs.declared.kinds.Kind.TheVariants as kinds
use Rattle.plan_form.specs.Kinds.{field}
use Rattle.plan_form.specs.Parts.{IsNodeList}
use Rattle.plan_form.specs.Spelling.{numbers_text}
use Rattle.plan_form.specs.Values.{Spells}
use Rattle.plan_form.proofs.Bytes.{path_room}
use Rattle.plan_form.proofs.KindRows.{path_tells, number_refused}
use Rattle.plan_form.proofs.Spelled.{refused}
use Rattle.plan_form.proofs.adding.add_path.Goals as goal
use Rattle.plan_form.proofs.adding.add_path.Goals.{In_ok-check_number}

pub returns-in_err-check_number-clause-refuses : goal.returns-in_err-check_number-clause-refuses
returns-in_err-check_number-clause-refuses c =
    let row = row_at c.args.rows.now.closed c.args.row in
    let spelled : Spells IsNodeList numbers_text (field row 2) (Some c.read_nodes.new.nodes.items) = rw (c.if-not-branch.false, c.at.ensures) at c.in_ok-read_nodes.ensures in
    refused kinds.Path _ _ row c.from_residual-in_err-check_number.result c.in_err-check_number.field-0.0 c.from_residual-in_err-check_number.ensures.1
    (number_refused kinds.Path row _ _ _ c.in_err-check_number.field-0.0 refl (path_tells row c.read_nodes.new.nodes.items c.requires.at.begins c.requires.at.record_is spelled) (rw c.len.ensures.len at c.in_err-check_number.ensures.fault))

-- there is room for the path
room : (c : In_ok-check_number) → (length c.args.paths.now + 1 < 2 ^ 31) × (nodes_in c.args.paths.now + length c.read_nodes.new.nodes.items < 2 ^ 31)
room c =
    let row = row_at c.args.rows.now.closed c.args.row in
    let spelled : Spells IsNodeList numbers_text (field row 2) (Some c.read_nodes.new.nodes.items) = rw (c.if-not-branch.false, c.at.ensures) at c.in_ok-read_nodes.ensures in
    let tells = path_tells row c.read_nodes.new.nodes.items c.requires.at.begins c.requires.at.record_is spelled in
    path_room row c.len.result c.args.paths.now c.read_nodes.new.nodes.items c.requires.formed spelled.0 (tells.row_is c.len.result (λ _. c.in_ok-check_number.ensures.is.1)) c.requires.bytes

pub add-requires-clause-paths : goal.add-requires-clause-paths
add-requires-clause-paths c = omega (arith, (room (goal.at.add-requires-clause-paths c).In_ok-check_number).0)

pub add-requires-clause-nodes : goal.add-requires-clause-nodes
add-requires-clause-nodes c = rw c.deref.ensures.value (omega (arith, (room (goal.at.add-requires-clause-nodes c).In_ok-check_number).1))

pub returns-clause-few : goal.returns-clause-few
returns-clause-few c = omega (arith, (room (goal.at.returns-clause-few c).In_ok-check_number).0, ap length c.in_ok-add.ensures.ok, length-append c.args.paths.now (c.deref.result.now ∷ []))
