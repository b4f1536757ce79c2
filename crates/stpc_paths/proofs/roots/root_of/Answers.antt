use Rattle.std.proofs.Common.{◌∙◌}
use Rattle.tomo_base.proofs.Entering.{joins_its_ends}
use Rattle.tomo_base.proofs.Links.{joins_comm}
use Rattle.stpc_paths.proofs.Rooting.{higher_end}
use Rattle.stpc_paths.proofs.roots.root_of.Goals as goal

pub returns-in-Some : goal.returns-in-Some
returns-in-Some c = record { ends = joins_its_ends c.args.link; owned = c.in-Some.ensures.some }

pub returns-in-Some-owning_tree : goal.returns-in-Some-owning_tree
returns-in-Some-owning_tree c = record { ends = joins_comm c.args.link _ _ ∙ joins_its_ends c.args.link; owned = c.in-Some-owning_tree.ensures.some }

pub returns-then-number : goal.returns-then-number
returns-then-number c = record {
  ends = joins_its_ends c.args.link;
  owned = ((λ i l. (c.in_default.ensures.none i l, c.in_default-owning_tree.ensures.none i l)), rw (c.number.ensures, c.number-2.ensures) at c.if-number.true);
}

pub returns-else-number : goal.returns-else-number
returns-else-number c = record {
  ends = joins_comm c.args.link _ _ ∙ joins_its_ends c.args.link;
  owned = (
    (λ i l. (c.in_default-owning_tree.ensures.none i l, c.in_default.ensures.none i l)),
    higher_end c.args.t.now c.args.link.a c.args.link.b c.requires.forest c.requires.first c.requires.second (rw (c.number.ensures, c.number-2.ensures) at c.if-number.false),
  );
}
