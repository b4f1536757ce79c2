use Rattle.std.proofs.Common.{◌≡◌, ◌≤◌, ℕ, List, [], length, ap, arith}
use Rattle.rows.specs.Rows.{RowList, rows_of, byte_count}
use Rattle.rows.proofs.Totals.{fields-fit, rows-fit}
use Rattle.tomo_run.proofs.machine.take_in.Goals as goal

-- the rows that were read from the bytes of a file are those of its content
closed : (content bytes : List ℕ) (rows : RowList) → bytes ≡ content → rows ≡ record { closed = rows_of bytes; current = [] } → rows.closed ≡ rows_of content
closed content bytes rows same read = rw same at (ap (λ (r : RowList). r.closed) read)

-- they have no more bytes than it
few_bytes : (content bytes : List ℕ) (rows : RowList) → bytes ≡ content → rows ≡ record { closed = rows_of bytes; current = [] } → byte_count rows.closed ≤ length content
few_bytes content bytes rows same read = rw (closed content bytes rows same read) (fields-fit content)

-- nor are there more of them
few_rows : (content bytes : List ℕ) (rows : RowList) → bytes ≡ content → rows ≡ record { closed = rows_of bytes; current = [] } → length rows.closed ≤ length content
few_rows content bytes rows same read = rw (closed content bytes rows same read) (rows-fit content).0

pub take_plan-requires : goal.take_plan-requires
take_plan-requires c = omega (arith, few_bytes c.args.content.items _ _ c.deref.ensures.value c.in_ok-rows.ensures, rw c.in-APlan.is at c.requires)

pub take_sums-requires : goal.take_sums-requires
take_sums-requires c = omega (arith, few_rows c.args.content.items _ _ c.deref.ensures.value c.in_ok-rows.ensures, rw c.in-Sums.is at c.requires)

pub returns-in-Topology-clause-taken : goal.returns-in-Topology-clause-taken
returns-in-Topology-clause-taken c = rw (c.in-Topology.is, ← (closed c.args.content.items _ _ c.deref.ensures.value c.in_ok-rows.ensures)) c.take_topology.ensures.taken

pub returns-in-Monitors-clause-taken : goal.returns-in-Monitors-clause-taken
returns-in-Monitors-clause-taken c = rw (c.in-Monitors.is, ← (closed c.args.content.items _ _ c.deref.ensures.value c.in_ok-rows.ensures)) c.take_monitors.ensures.taken

pub returns-in-AChoice-clause-taken : goal.returns-in-AChoice-clause-taken
returns-in-AChoice-clause-taken c = rw (c.in-AChoice.is, ← (closed c.args.content.items _ _ c.deref.ensures.value c.in_ok-rows.ensures)) c.take_choice.ensures.taken

pub returns-in-APlan-clause-taken : goal.returns-in-APlan-clause-taken
returns-in-APlan-clause-taken c = rw (c.in-APlan.is, ← (closed c.args.content.items _ _ c.deref.ensures.value c.in_ok-rows.ensures)) c.take_plan.ensures.taken

pub returns-clause-taken : goal.returns-clause-taken
returns-clause-taken c = rw (c.in-Sums.is, ← (closed c.args.content.items _ _ c.deref.ensures.value c.in_ok-rows.ensures)) c.take_sums.ensures.taken
