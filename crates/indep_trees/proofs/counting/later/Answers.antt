use Rattle.std.proofs.Common.{◌≡◌, ◌<◌, length, get_or, sym, subst, ap, inl, inr, ◌∙◌, arith}
use Rattle.std.proofs.lemmas.Bool.{cases_eq}
use Rattle.std.proofs.lemmas.List.{get_or_default}
use Rattle.tomo_base.specs.declared.graph.Hop.{Hop}
use Rattle.tomo_base.specs.Search.{entry_at}
use Rattle.tomo_base.proofs.Rows.{hops_below, hop_linked, linked_hop}
use Rattle.indep_trees.proofs.counting.later.Goals as goal

pub bounds-ears-hop : goal.bounds-ears-hop
bounds-ears-hop c = hops_below c.args.g.now c.args.v c.hops-hop-items.result.now (length c.args.ears.now) c.nodes-nodes.ensures.graph c.hops-hop-items.ensures c.requires.ears c.loop-hop.hop-index _ c.loop-hop-test.true

pub returns-then-ears-hop-clause-link : goal.returns-then-ears-hop-clause-link
returns-then-ears-hop-clause-link c = hop_linked c.args.g.now c.args.v c.hops-hop-items.result.now c.loop-hop.hop-index _ c.hops-hop-items.ensures c.loop-hop-test.true

pub loop-hop-preserved : goal.loop-hop-preserved
loop-hop-preserved c =
    let hops = c.hops-hop-items.result.now in
    let i = c.loop-hop.hop-index in
    let e : Hop = record { node = 0; link = 0 } in
    λ k d l h. elim (cases_eq k i) [
      | inl same ↦
          let at : get_or hops k d ≡ get_or hops i e = ap (λ z. get_or hops z d) same ∙ get_or_default hops i d e c.loop-hop-test.true in
          let more : entry_at c.args.ears.now c.args.v < entry_at c.args.ears.now (get_or hops i e).node = subst (λ (z : Hop). entry_at c.args.ears.now c.args.v < entry_at c.args.ears.now z.node) at h in
          omega (arith, more, c.if-ears-hop.false)
      | inr other ↦ c.loop-hop.invariant k d (omega arith) h
    ]

pub unreachable-requires : goal.unreachable-requires
unreachable-requires c =
    let w = c.requires.later in
    let k = linked_hop c.args.g.now c.args.v w.0 c.hops-hop-items.result.now c.hops-hop-items.ensures w.1 in
    let d : Hop = record { node = 0; link = 0 } in
    c.loop-hop.invariant k.0 d (omega (arith, k.1, c.loop-hop-test.false)) (subst (λ z. entry_at c.args.ears.now c.args.v < entry_at c.args.ears.now z) (sym (k.2 d)) w.2)
