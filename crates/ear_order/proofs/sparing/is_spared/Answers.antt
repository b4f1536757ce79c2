use Rattle.std.proofs.Common.{◌≡◌, ◌<◌, false, length, get_or, sym, subst, ap, inl, inr, ◌∙◌, arith}
use Rattle.std.proofs.lemmas.Bool.{cases_eq, both_ways}
use Rattle.std.proofs.lemmas.List.{get_or_default}
use Rattle.tomo_base.specs.declared.graph.Hop.{Hop}
use Rattle.tomo_base.specs.Search.{mark_of, entry_at}
use Rattle.tomo_base.proofs.Rows.{hops_below, hop_linked, linked_hop}
use Rattle.ear_order.specs.Easy.{HasLower}
use Rattle.ear_order.proofs.sparing.is_spared.Goals as goal
use Rattle.ear_order.proofs.sparing.is_spared.Goals.{else-not-gone-x-via-then-not-gone-x+then-mine-its+else-not-has_lower, else-not-gone-x-via-then-not-gone-x+else-mine-its, else-not-gone-x-via-else-not-gone-x}

pub bounds-rank-x : goal.bounds-rank-x
bounds-rank-x c = hops_below c.args.g.now c.args.v c.hops-hop-items.result.now (length c.args.rank.now) c.nodes-nodes.ensures.graph c.hops-hop-items.ensures c.requires.ranks c.loop-hop.hop-index _ c.loop-hop-test.true

pub bounds-gone-x : goal.bounds-gone-x
bounds-gone-x c = hops_below c.args.g.now c.args.v c.hops-hop-items.result.now (length c.args.gone.now) c.nodes-nodes.ensures.graph c.hops-hop-items.ensures c.requires.gone c.loop-hop.hop-index _ c.loop-hop-test.true

pub returns-then-not-has_lower-clause-no : goal.returns-then-not-has_lower-clause-no
returns-then-not-has_lower-clause-no c = λ no spared.
    let e : Hop = record { node = 0; link = 0 } in
    let y = (get_or c.hops-hop-items.result.now c.loop-hop.hop-index e).node in
    c.has_lower.ensures.no c.if-not-has_lower.true
    (spared y (hop_linked c.args.g.now c.args.v c.hops-hop-items.result.now c.loop-hop.hop-index e c.hops-hop-items.ensures c.loop-hop-test.true) c.if-not-gone-x.true c.if-mine-its.true)

pub loop-hop-preserved : goal.loop-hop-preserved
loop-hop-preserved c =
    let hops = c.hops-hop-items.result.now in
    let i = c.loop-hop.hop-index in
    let e : Hop = record { node = 0; link = 0 } in
    let gone = mark_of c.args.gone.now in
    let rank = entry_at c.args.rank.now in
    let y = (get_or hops i e).node in
    let here : gone y ≡ false → rank c.args.v < rank y → HasLower c.args.g.now gone rank y (rank y) c.args.v = λ new above. elim c.else-not-gone-x.branch [
      | else-not-gone-x-via-then-not-gone-x+then-mine-its+else-not-has_lower w ↦ w.has_lower.ensures.yes w.if-not-has_lower.false
      | else-not-gone-x-via-then-not-gone-x+else-mine-its w ↦ absurd (omega (arith, w.if-mine-its.false, above))
      | else-not-gone-x-via-else-not-gone-x w ↦ absurd (both_ways (gone y) new w.if-not-gone-x.false)
    ] in
    λ k d l new above. elim (cases_eq k i) [
      | inl same ↦
          let at : get_or hops k d ≡ get_or hops i e = ap (λ z. get_or hops z d) same ∙ get_or_default hops i d e c.loop-hop-test.true in
          subst (λ (z : Hop). gone z.node ≡ false → rank c.args.v < rank z.node → HasLower c.args.g.now gone rank z.node (rank z.node) c.args.v) (sym at) here new above
      | inr other ↦ c.loop-hop.invariant k d (omega arith) new above
    ]

pub returns-clause-yes : goal.returns-clause-yes
returns-clause-yes c = λ yes x l new above.
    let d : Hop = record { node = 0; link = 0 } in
    let gone = mark_of c.args.gone.now in
    let rank = entry_at c.args.rank.now in
    let k = linked_hop c.args.g.now c.args.v x c.hops-hop-items.result.now c.hops-hop-items.ensures l in
    let before : k.0 < c.loop-hop.hop-index = omega (arith, k.1, c.loop-hop-test.false, c.loop-hop.auto.hop-index-end) in
    let at : (get_or c.hops-hop-items.result.now k.0 d).node ≡ x = k.2 d in
    subst (λ z. gone z ≡ false → rank c.args.v < rank z → HasLower c.args.g.now gone rank z (rank z) c.args.v) at (c.loop-hop.invariant k.0 d before) new above
