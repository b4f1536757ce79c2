use Rattle.std.proofs.Common.{◌≡◌, map, take}
use Rattle.plan_form.proofs.write.add_row.Given as goal

-- the open row has the fields so far
abbrev pub invariant-loop-field : goal.invariant-loop-field
invariant-loop-field l = l.rows ≡ record { closed = l.initial.rows.closed; current = map (λ f. f.now) (take l.field-index l.fields) }
