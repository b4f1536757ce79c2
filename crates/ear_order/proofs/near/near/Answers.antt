use Rattle.std.proofs.Common.{◌≡◌, ◌<◌, true, length, get_or, sym, subst, ap, inl, inr, ◌∙◌, arith}
use Rattle.std.proofs.lemmas.Bool.{cases_eq, both_ways}
use Rattle.std.proofs.lemmas.List.{get_or_default}
use Rattle.tomo_base.specs.declared.graph.Hop.{Hop}
use Rattle.tomo_base.specs.Search.{mark_of}
use Rattle.tomo_base.proofs.Rows.{hops_below, hop_linked, linked_hop}
use Rattle.ear_order.proofs.near.near.Goals as goal
use Rattle.ear_order.proofs.near.near.Goals.{else-marks-hop-via-then-marks-hop+else-hop-other, else-marks-hop-via-else-marks-hop}

pub bounds-marks-hop : goal.bounds-marks-hop
bounds-marks-hop c = hops_below c.args.g.now c.args.v c.hops-hop-items.result.now (length c.args.marks.now) c.nodes-nodes.ensures.graph c.hops-hop-items.ensures c.requires.marks c.loop-hop.hop-index _ c.loop-hop-test.true

pub returns-then-hop-other-clause-link : goal.returns-then-hop-other-clause-link
returns-then-hop-other-clause-link c = hop_linked c.args.g.now c.args.v c.hops-hop-items.result.now c.loop-hop.hop-index _ c.hops-hop-items.ensures c.loop-hop-test.true

pub loop-hop-preserved : goal.loop-hop-preserved
loop-hop-preserved c =
    let hops = c.hops-hop-items.result.now in
    let i = c.loop-hop.hop-index in
    let e : Hop = record { node = 0; link = 0 } in
    let here : mark_of c.args.marks.now (get_or hops i e).node ≡ true → (get_or hops i e).node ≡ c.args.other = λ h. elim c.else-marks-hop.branch [
      | else-marks-hop-via-then-marks-hop+else-hop-other w ↦ w.if-hop-other.false
      | else-marks-hop-via-else-marks-hop w ↦ absurd (both_ways _ w.if-marks-hop.false h)
    ] in
    λ k d l h. elim (cases_eq k i) [
      | inl same ↦
          let at : get_or hops k d ≡ get_or hops i e = ap (λ z. get_or hops z d) same ∙ get_or_default hops i d e c.loop-hop-test.true in
          ap (λ (z : Hop). z.node) at ∙ here (subst (λ (z : Hop). mark_of c.args.marks.now z.node ≡ true) at h)
      | inr other ↦ c.loop-hop.invariant k d (omega arith) h
    ]

pub returns-clause-none : goal.returns-clause-none
returns-clause-none c = λ w l h.
    let hops = c.hops-hop-items.result.now in
    let k = linked_hop c.args.g.now c.args.v w hops c.hops-hop-items.ensures l in
    let d : Hop = record { node = 0; link = 0 } in
    let before : k.0 < c.loop-hop.hop-index = omega (arith, k.1, c.loop-hop-test.false, c.loop-hop.auto.hop-index-end) in
    sym (k.2 d) ∙ c.loop-hop.invariant k.0 d before (subst (λ z. mark_of c.args.marks.now z ≡ true) (sym (k.2 d)) h)
