use Rattle.std.proofs.Common.{◌≡◌, length, arith, sym, subst}
use Rattle.std.proofs.lemmas.Result.{err_from_is_err_and}
use Rattle.topology.specs.Names.{row_at}
use Rattle.plan_form.specs.Parts.{IsWellFormed}
use Rattle.plan_form.specs.PlanRows.{AreRowsOf}
use Rattle.plan_form.specs.Reading.{format_of}
use Rattle.plan_form.proofs.Numbering.{length-AreRowsOf}
use Rattle.plan_form.proofs.Ending.{walk_done, room_left}
use Rattle.plan_form.proofs.Spelled.{kind_tells}
use Rattle.plan_form.proofs.Reader.{Walked, walk_none, walk_on, kind_refused, row_refused}
use Rattle.plan_form.proofs.read.read_plan.Goals as goal

pub loop-row-init : goal.loop-row-init
loop-row-init c = rw c.empty-plan.ensures (walk_none (format_of c.args.rows.now.closed) c.args.rows.now.closed)

pub returns-in_err-kind-clause-fault : goal.returns-in_err-kind-clause-fault
returns-in_err-kind-clause-fault c =
    let p = err_from_is_err_and c.from_residual.result c.from_residual.ensures.1 in
    rw (p.1, p.2) (kind_refused (format_of c.args.rows.now.closed) c.args.rows.now.closed c.loop-row.row c.loop-row.last c.loop-row.plan c.loop-row.invariant (omega arith) c.in_err-kind.field-0.0 (rw c.format_of-format.ensures at c.in_err-kind.ensures.fault))

pub add_row-requires-clause-at : goal.add_row-requires-clause-at
add_row-requires-clause-at c =
    let tells = kind_tells c.format_of-format.result (row_at c.args.rows.now.closed c.loop-row.row) c.in_ok-kind.kind c.in_ok-kind.ensures.kind.kind in
    record { within = omega arith; number = omega arith; begins = tells.0; record_is = tells.1 }

pub add_row-requires-clause-room : goal.add_row-requires-clause-room
add_row-requires-clause-room c = room_left (format_of c.args.rows.now.closed) c.args.rows.now.closed c.loop-row.row c.loop-row.last c.loop-row.plan c.loop-row.invariant (omega arith) (omega arith) c.requires

pub returns-in_err-add_row-clause-fault : goal.returns-in_err-add_row-clause-fault
returns-in_err-add_row-clause-fault c =
    let p = err_from_is_err_and c.from_residual-in_err-add_row.result c.from_residual-in_err-add_row.ensures.1 in
    rw (p.1, p.2)
    (row_refused (format_of c.args.rows.now.closed) c.args.rows.now.closed c.loop-row.row c.loop-row.last c.loop-row.plan c.loop-row.invariant (omega arith) c.in_ok-kind.kind c.in_err-add_row.field-0.0 (rw c.format_of-format.ensures at c.in_ok-kind.ensures.kind) c.in_err-add_row.ensures.refuses)

pub loop-row-preserved : goal.loop-row-preserved
loop-row-preserved c = walk_on (format_of c.args.rows.now.closed) c.args.rows.now.closed c.loop-row.row c.loop-row.last c.loop-row.plan c.loop-row.invariant (omega arith) c.in_ok-kind.kind c.add_row.new.self (rw c.format_of-format.ensures at c.in_ok-kind.ensures.kind) c.in_ok-add_row.ensures.takes

-- the rows that were read are those of the plan
read_all : (c : goal.After-drop-room-2) → AreRowsOf c.args.rows.now.closed c.loop-row.plan
read_all c =
    let all : c.loop-row.row ≡ length c.args.rows.now.closed = omega arith in
    walk_done c.args.rows.now.closed c.loop-row.last c.loop-row.plan (subst (λ r. Walked (format_of c.args.rows.now.closed) c.args.rows.now.closed r c.loop-row.last c.loop-row.plan) all c.loop-row.invariant) (subst IsWellFormed c.plan-2.view_is c.plan-2.invariant) (sym c.if-not-is_end.ensures)

pub returns-clause-read : goal.returns-clause-read
returns-clause-read c = read_all c

pub returns-clause-few_rows : goal.returns-clause-few_rows
returns-clause-few_rows c = omega (arith, length-AreRowsOf c.args.rows.now.closed c.loop-row.plan (read_all c))
