use Rattle.std.proofs.Common.{◌<◌, ◌≡◌, arith}
use Rattle.std.proofs.lemmas.List.{get_or_read}
use Rattle.tomo_base.specs.Search.{entry_at}
use Rattle.three_conn.proofs.Ways.{ways_none, ways_turned, ways_first}
use Rattle.three_conn.proofs.meeting.meet.Goals as goal
use Rattle.three_conn.proofs.meeting.meet.Goals.{After-index-in-loop-u}

pub loop-u-init : goal.loop-u-init
loop-u-init c = record { first = c.requires.first; second = c.requires.second; ways = ways_none c.args.found.now c.args.y c.args.z }

-- the ranks that were read
ranks : (c : After-index-in-loop-u) → (c.index.result.now ≡ entry_at c.args.found.now.rank.items c.loop-u.u) × (c.index-in-loop-u.result.now ≡ entry_at c.args.found.now.rank.items c.loop-u.v)
ranks c = (
  get_or_read c.args.found.now.rank.items _ _ (omega (arith, c.loop-u.invariant.first.0, c.requires.tree.one_each)) c.index.ensures 0,
  get_or_read c.args.found.now.rank.items _ _ (omega (arith, c.loop-u.invariant.second.0, c.requires.tree.one_each)) c.index-in-loop-u.ensures 0,
)

pub loop-u-preserved-then-index : goal.loop-u-preserved-then-index
loop-u-preserved-then-index c =
    let s = c.args.found.now in
    let u = c.loop-u.u in
    let v = c.loop-u.v in
    let read = ranks (goal.at.loop-u-preserved-then-index c).After-index-in-loop-u in
    let up : c.index-v.result.now ≡ entry_at s.parent.items v = get_or_read s.parent.items _ _ c.loop-u.invariant.second.0 c.index-v.ensures 0 in
    let later : entry_at s.rank.items u < entry_at s.rank.items v = omega (arith, read.0, read.1, c.if-index.true) in
    let next = ways_first s c.args.z c.args.y v u c.requires.tree c.loop-u.invariant.second later (ways_turned s c.args.y c.args.z u v c.loop-u.invariant.ways) in
    rw up (record { first = c.loop-u.invariant.first; second = next.0; ways = ways_turned s c.args.z c.args.y (entry_at s.parent.items v) u next.2 })

pub loop-u-preserved : goal.loop-u-preserved
loop-u-preserved c =
    let s = c.args.found.now in
    let read = ranks (goal.at.loop-u-preserved c).After-index-in-loop-u in
    let up : c.index-u.result.now ≡ entry_at s.parent.items c.loop-u.u = get_or_read s.parent.items _ _ c.loop-u.invariant.first.0 c.index-u.ensures 0 in
    let apart : entry_at s.rank.items c.loop-u.u ≡ entry_at s.rank.items c.loop-u.v → ⊥ = λ same. c.loop-u-test.true (c.requires.tree.once c.loop-u.u c.loop-u.v c.loop-u.invariant.first c.loop-u.invariant.second same) in
    let later : entry_at s.rank.items c.loop-u.v < entry_at s.rank.items c.loop-u.u = omega (arith, read.0, read.1, c.if-index.false, apart) in
    let next = ways_first s c.args.y c.args.z c.loop-u.u c.loop-u.v c.requires.tree c.loop-u.invariant.first later c.loop-u.invariant.ways in
    rw up (record { first = next.0; second = c.loop-u.invariant.second; ways = next.2 })
