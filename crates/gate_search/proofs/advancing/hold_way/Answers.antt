use Rattle.std.proofs.Common.{◌≡◌, ◌<◌, ◌≤◌, ◌∙◌, false, length, length-set, ap, inl, inr, arith}
use Rattle.std.proofs.lemmas.Bool.{cases_lt}
use Rattle.std.proofs.lemmas.List.{get_or_read}
use Rattle.tomo_base.specs.Search.{mark_of, entry_at}
use Rattle.gate_search.proofs.Marks.{still_gone}
use Rattle.gate_search.proofs.Trees.{is_tree, ranked_at}
use Rattle.gate_search.proofs.Holding.{way_begins, way_on, way_holds, way_fewer, only_start}
use Rattle.gate_search.proofs.advancing.hold_way.Goals as goal

pub loop-v-init : goal.loop-v-init
loop-v-init c = record {
  size = c.requires.free;
  starts = c.requires.starts;
  ranked = c.requires.ranked;
  passed = λ u f. f;
  way = λ base root w way h. way_begins c.args.g.now c.args.free.now.items c.args.search.now c.nodes-count.ensures.graph c.requires.search base root w c.args.y way h;
}

pub loop-v-preserved : goal.loop-v-preserved
loop-v-preserved c =
    let g = c.args.g.now in
    let first = c.args.free.now.items in
    let s = c.args.search.now in
    let graph = c.nodes-count.ensures.graph in
    let v = c.loop-v.v in
    let free = c.loop-v.free.items in
    let inv = c.loop-v.invariant in
    let node = (ranked_at g first s.start s.head s.found graph c.requires.search.search v inv.ranked).0 in
    let room : v < length free = omega (arith, node, inv.size) in
    let up : c.index-v.result.now ≡ entry_at s.found.parent.items v = get_or_read s.found.parent.items _ _ inv.ranked.0 c.index-v.ensures 0 in
    let some : 1 ≤ entry_at s.found.rank.items v = elim (cases_lt 0 (entry_at s.found.rank.items v)) [
      | inl l ↦ omega (arith, l)
      | inr none ↦ absurd (c.loop-v-test.true (only_start g first s graph c.requires.search v inv.ranked (omega (arith, none))))
    ] in
    rw (up, c.in_ok-hold.ensures.free) (record {
      size = length-set free v false ∙ inv.size;
      starts = c.in_ok-hold.ensures.starts;
      ranked = ((is_tree g first s.start s.head s.found graph c.requires.search.search).up v inv.ranked some).0;
      passed = λ u f. still_gone free v u room (inv.passed u f);
      way = λ base root w way h. way_on g first s graph c.requires.search base root w way.first way.start_gate free v room inv.ranked c.loop-v-test.true (inv.way base root w way h);
    })

pub returns-clause-fewer : goal.returns-clause-fewer
returns-clause-fewer c =
    let s = c.args.search.now in
    let inv = c.loop-v.invariant in
    rw c.in_ok-hold-2.ensures.free
    (way_fewer c.args.g.now c.args.free.now.items s c.nodes-count.ensures.graph c.requires.search c.loop-v.v c.loop-v.free.items inv.ranked inv.size c.loop-v-test.false inv.passed)

pub returns-clause-passed : goal.returns-clause-passed
returns-clause-passed c = λ u f.
    let inv = c.loop-v.invariant in
    let node = (ranked_at c.args.g.now c.args.free.now.items c.args.search.now.start c.args.search.now.head c.args.search.now.found c.nodes-count.ensures.graph c.requires.search.search c.loop-v.v inv.ranked).0 in
    ap (λ xs. mark_of xs u) c.in_ok-hold-2.ensures.free ∙ still_gone c.loop-v.free.items c.loop-v.v u (omega (arith, node, inv.size)) (inv.passed u f)

pub returns-clause-grown : goal.returns-clause-grown
returns-clause-grown c =
    let g = c.args.g.now in
    let first = c.args.free.now.items in
    let s = c.args.search.now in
    let inv = c.loop-v.invariant in
    let node = (ranked_at g first s.start s.head s.found c.nodes-count.ensures.graph c.requires.search.search c.loop-v.v inv.ranked).0 in
    λ base root w way h. rw c.in_ok-hold-2.ensures.free
    (way_holds g first s c.nodes-count.ensures.graph c.requires.search base root w way.first way.start_gate c.loop-v.free.items c.loop-v.v (omega (arith, node, inv.size)) inv.ranked (inv.way base root w way h))
