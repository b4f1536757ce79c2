use Rattle.std.proofs.Common.{◌∙◌, sym, inl, inr, refl}
use Rattle.cross_links.proofs.Found.{has_any}
use Rattle.cross_links.proofs.meeting.met_first.Goals as goal

pub returns-then-contains : goal.returns-then-contains
returns-then-contains c = inr (has_any c.args.c.now c.args.node ∙ sym c.contains.ensures.value ∙ c.if-contains.true, refl, refl)

pub returns-else-contains : goal.returns-else-contains
returns-else-contains c = inl (has_any c.args.c.now c.args.node ∙ sym c.contains.ensures.value ∙ c.if-contains.false, refl, refl)
