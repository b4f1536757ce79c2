use Rattle.std.proofs.Common.{arith}
use Rattle.std.proofs.lemmas.Result.{IfOk-weaker}
use Rattle.tomo_base.specs.Sets.{has, complement}
use Rattle.ident_laws.proofs.BadParts.{no_bad_part}
use Rattle.ident_laws.proofs.Chosen.{lowest_identifies}
use Rattle.cross_links.proofs.Identifying.{no_bad_part_identifies}
use Rattle.drop_place.proofs.lowest.place_with.Goals as goal

pub drop_nodes-requires-clause-good : goal.drop_nodes-requires-clause-good
drop_nodes-requires-clause-good c = λ graph. no_bad_part c.args.g.now (complement (has c.args.not.now)) graph c.requires.connected (omega (arith, c.requires.three)) c.requires.identifies

pub returns-clause-lowest : goal.returns-clause-lowest
returns-clause-lowest c =
    let g = c.args.g.now in
    let enough = no_bad_part_identifies g c.drop_nodes.ensures.graph in
    IfOk-weaker c.drop_nodes.result _ _
    (λ m. (lowest_identifies g (λ v. v) (has c.args.must.now) (has c.args.not.now) (has m) c.drop_nodes.ensures.graph c.requires.connected (omega (arith, c.requires.three)) enough).0) c.drop_nodes.ensures.lowest
