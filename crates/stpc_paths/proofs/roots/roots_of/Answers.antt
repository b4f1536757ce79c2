use Rattle.std.proofs.Common.{◌≡◌, ◌++◌, ◌∷◌, [], ◌∙◌, sym, ap, subst, arith, rules}
use Rattle.std.proofs.lemmas.List.{get_or_default}
use Rattle.std.proofs.lemmas.Option.{slice_get-get_or}
use Rattle.tomo_base.specs.Network.{Network}
use Rattle.stpc_paths.specs.Kept.{AreRoots}
use Rattle.tomo_base.proofs.Links.{link_at}
use Rattle.stpc_paths.proofs.Rooting.{roots_more, roots_all}
use Rattle.stpc_paths.proofs.roots.roots_of.Goals as goal

pub root_of-requires-clause-first : goal.root_of-requires-clause-first
root_of-requires-clause-first c = (link_at c.args.g.now.nodes c.links-link-items.result.now c.loop-link.link-index _
    (rw c.links-link-items.ensures.links c.links-link-items.ensures.graph) (slice_get-get_or c.links-link-items.result.now c.loop-link.link-index _ c.loop-link-test.true)).0

pub root_of-requires-clause-second : goal.root_of-requires-clause-second
root_of-requires-clause-second c = rw c.requires.graph ((link_at c.args.g.now.nodes c.links-link-items.result.now c.loop-link.link-index _
    (rw c.links-link-items.ensures.links c.links-link-items.ensures.graph) (slice_get-get_or c.links-link-items.result.now c.loop-link.link-index _ c.loop-link-test.true)).1)

pub loop-link-preserved : goal.loop-link-preserved
loop-link-preserved c =
    let grown : c.push.new.self.items ≡ c.loop-link.roots.items ++ c.root_of.result ∷ [] = search rules in
    rw grown (roots_more c.args.t.now c.links-link-items.result.now c.loop-link.link-index c.loop-link.roots.items _ c.root_of.result c.loop-link-test.true
    (λ d. get_or_default c.links-link-items.result.now c.loop-link.link-index d _ c.loop-link-test.true) c.root_of.ensures c.loop-link.invariant)

pub returns : goal.returns
returns c =
    subst (λ ls. AreRoots c.args.t.now ls c.loop-link.roots.items) (c.links-link-items.ensures.links ∙ ap (λ (g : Network). g.links) (sym c.requires.graph))
    (roots_all c.args.t.now c.links-link-items.result.now c.loop-link.link-index c.loop-link.roots.items (omega (arith, c.loop-link-test.false, c.loop-link.auto.link-index-end)) c.loop-link.invariant)
