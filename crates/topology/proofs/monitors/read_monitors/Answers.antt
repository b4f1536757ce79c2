use Rattle.std.proofs.Common.{◌<◌, length, arith}
use Rattle.std.proofs.lemmas.Option.{slice_get_within}
use Rattle.tomo_base.proofs.Ascending.{All_inserted}
use Rattle.topology.proofs.Named.{read_none, read_more, first_unknown, monitors_are}
use Rattle.topology.proofs.monitors.read_monitors.Goals as goal

pub loop-place-init : goal.loop-place-init
loop-place-init c = (read_none c.args.t.now.names c.args.rows.now.closed c.new-monitors.result c.new-monitors.ensures, rw c.new-monitors.ensures (λ k l. absurd (omega arith)), rw c.new-monitors.ensures (λ k d l. absurd (omega arith)))

pub returns-in_default-clause-fault : goal.returns-in_default-clause-fault
returns-in_default-clause-fault c =
    let within : c.loop-place.place < length c.args.rows.now.closed = omega (arith, c.loop-place-test.true, c.len-place-end.ensures.len) in
    first_unknown c.args.t.now.names c.args.rows.now.closed c.loop-place.place c.loop-place.invariant.0.known within (rw c.at.ensures at c.in_default.ensures.none)

pub insert-requires : goal.insert-requires
insert-requires c =
    let within : c.in-Some.v < length c.args.t.now.names = slice_get_within _ _ _ c.in-Some.ensures.found in
    omega (arith, within, c.in-Some.ensures.topology.one_each, c.in-Some.ensures.topology.few_nodes)

pub loop-place-preserved : goal.loop-place-preserved
loop-place-preserved c =
    let within : c.loop-place.place < length c.args.rows.now.closed = omega (arith, c.loop-place-test.true, c.len-place-end.ensures.len) in (
      read_more c.args.t.now.names c.args.rows.now.closed c.loop-place.monitors c.insert.new.self c.loop-place.place c.in-Some.v c.in-Some.ensures.topology.different within
          (rw c.at.ensures at c.in-Some.ensures.found) c.in_ok-insert.ensures.nodes c.loop-place.invariant.0,
      c.in_ok-insert.ensures.ascending,
      All_inserted (λ w. w < c.args.t.now.graph.nodes) c.loop-place.monitors c.insert.new.self c.in-Some.v c.in_ok-insert.ensures.nodes (omega (arith, slice_get_within c.args.t.now.names c.in-Some.v _ c.in-Some.ensures.found, c.in-Some.ensures.topology.one_each)) c.loop-place.invariant.2,
    )

pub returns-clause-monitors : goal.returns-clause-monitors
returns-clause-monitors c = monitors_are c.args.t.now.names c.args.rows.now.closed c.loop-place.place c.loop-place.monitors (omega (arith, c.loop-place-test.false, c.len-place-end.ensures.len))
    c.loop-place.invariant.1 c.loop-place.invariant.0.named
