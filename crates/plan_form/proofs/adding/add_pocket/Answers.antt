use Rattle.std.proofs.Common.{◌≡◌, ◌∙◌, map, length, Some, refl, rules}
use Rattle.std.proofs.lemmas.List.{length-map, map-append}
use Rattle.plan_form.specs.Held.{part_of}
use Rattle.topology.specs.Names.{row_at}
use Rattle.plan_form.specs.declared.kinds.Kind.TheVariants as kinds
use Rattle.plan_form.specs.Kinds.{field}
use Rattle.plan_form.specs.Parts.{PlanPocket, IsNodeList}
use Rattle.plan_form.specs.Spelling.{numbers_text}
use Rattle.plan_form.specs.Values.{Spells}
use Rattle.plan_form.proofs.KindRows.{adds_item, pocket_tells, number_refused}
use Rattle.plan_form.proofs.Spelled.{refused}
use Rattle.plan_form.proofs.adding.add_pocket.Goals as goal

pub returns-in_err-check_number-clause-refuses : goal.returns-in_err-check_number-clause-refuses
returns-in_err-check_number-clause-refuses c =
    let row = row_at c.args.rows.now.closed c.args.row in
    let spelled : Spells IsNodeList numbers_text (field row 3) (Some c.read_nodes.new.nodes.items) = rw (c.if-not-branch.false, c.at.ensures) at c.in_ok-read_nodes.ensures in
    let tells = pocket_tells row (record { need = c.in_ok-need.need; nodes = c.read_nodes.new.nodes.items }) c.requires.at.begins c.requires.at.record_is c.in_ok-need.ensures.number spelled in
    let same : c.len.result ≡ length c.args.pockets.now.items = search rules in
    refused kinds.Pocket _ _ row c.from_residual-in_err-check_number.result c.in_err-check_number.field-0.0 c.from_residual-in_err-check_number.ensures.1
    (number_refused kinds.Pocket row _ _ _ c.in_err-check_number.field-0.0 refl tells (rw same at c.in_err-check_number.ensures.fault))

pub returns-clause-adds : goal.returns-clause-adds
returns-clause-adds c =
    let row = row_at c.args.rows.now.closed c.args.row in
    let spelled : Spells IsNodeList numbers_text (field row 3) (Some c.read_nodes.new.nodes.items) = rw (c.if-not-branch.false, c.at.ensures) at c.in_ok-read_nodes.ensures in
    let pocket : PlanPocket = record { need = c.in_ok-need.need; nodes = c.read_nodes.new.nodes.items } in
    let nodes : c.in_ok-nodes.nodes.items ≡ c.read_nodes.new.nodes.items = c.in_ok-nodes.ensures.items_if_clones_equal (λ x y e. e) ∙ c.deref.ensures.value in
    let number : c.len.result ≡ length (map part_of c.args.pockets.now.items) = rw length-map (search rules) in
    adds_item kinds.Pocket row pocket (map part_of c.args.pockets.now.items) (map part_of c.push.new.self.items) (pocket_tells row pocket c.requires.at.begins c.requires.at.record_is c.in_ok-need.ensures.number spelled)
    (λ _. rw number at c.in_ok-check_number.ensures.is) (rw (c.in_ok-push.ensures.items, map-append, nodes) refl)
