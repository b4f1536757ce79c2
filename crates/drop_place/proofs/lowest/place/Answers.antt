use Rattle.std.proofs.Common.{[], arith, sym, refl}
use Rattle.std.proofs.lemmas.Bool.{true≢false}
use Rattle.std.proofs.lemmas.Result.{IfOk-weaker}
use Rattle.tomo_base.specs.Sets.{has, complement, nothing}
use Rattle.ident_laws.proofs.Chosen.{lowest_identifies, lowest_by_number}
use Rattle.cross_links.proofs.Identifying.{no_bad_part_identifies}
use Rattle.drop_place.proofs.Placing.{all_good}
use Rattle.drop_place.proofs.lowest.place.Goals as goal

pub drop_nodes-requires-clause-apart : goal.drop_nodes-requires-clause-apart
unfolding has
drop_nodes-requires-clause-apart c = rw c.new.ensures (λ v must not. true≢false (sym must))

pub drop_nodes-requires-clause-good : goal.drop_nodes-requires-clause-good
unfolding has
drop_nodes-requires-clause-good c = λ graph. rw c.new-2.ensures (all_good c.args.g.now (complement (has [])) (λ v l. refl))

pub returns-clause-lowest : goal.returns-clause-lowest
unfolding has
returns-clause-lowest c =
    let g = c.args.g.now in
    let enough = no_bad_part_identifies g c.drop_nodes-3.ensures.graph in
    IfOk-weaker c.drop_nodes-3.result _ _
    (λ m low. (lowest_by_number g (has m)).0 ((lowest_identifies g (λ v. v) nothing nothing (has m) c.drop_nodes-3.ensures.graph c.requires.connected (omega (arith, c.requires.three)) enough).0 low))
    (rw (c.new.ensures, c.new-2.ensures) at c.drop_nodes-3.ensures.lowest)
