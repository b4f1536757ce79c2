use Rattle.std.proofs.Common.{ℕ, List, All, arith}
use Rattle.std.proofs.lemmas.Result.{IfOk-weaker}
use Rattle.tomo_base.specs.Sets.{has, size, without, minus, Avoids}
use Rattle.tomo_base.specs.Pockets.{Shows, AreHomePockets}
use Rattle.ident_laws.proofs.BadParts.{no_bad_part}
use Rattle.ident_laws.proofs.Shown.{home_pockets_show}
use Rattle.cross_links.proofs.Identifying.{no_bad_part_identifies}
use Rattle.pocket_bound.specs.Classes.{sets_of}
use Rattle.pocket_bound.proofs.gathering.pockets_with.Goals as goal
use Rattle.pocket_bound.proofs.gathering.pockets_with.Goals.{After-home_pockets}

pub home_pockets-requires-clause-good : goal.home_pockets-requires-clause-good
home_pockets-requires-clause-good c = λ graph. no_bad_part c.args.g.now (has c.args.m.now) graph c.requires.connected (omega (arith, c.requires.three)) c.requires.identifies

pub home_pockets-requires-clause-kept : goal.home_pockets-requires-clause-kept
home_pockets-requires-clause-kept c = λ graph x l member good. c.requires.kept x l member (no_bad_part_identifies c.args.g.now graph (without (has c.args.m.now) x) good)

-- the home pockets hold no forced node, and show how many nodes are not forced
shown : (c : After-home_pockets) (sets : List (List ℕ)) → AreHomePockets c.args.g.now (has c.args.m.now) (has c.args.must.now) sets
    → All (λ q. Avoids c.args.g.now (has q) (has c.args.must.now)) sets × Shows c.args.g.now sets (size c.args.g.now (minus (has c.args.m.now) (has c.args.must.now)))
shown c sets are =
    let g = c.args.g.now in
    let graph = c.home_pockets.ensures.graph in
    home_pockets_show g (has c.args.m.now) (has c.args.must.now) sets
    (no_bad_part g (has c.args.m.now) graph c.requires.connected (omega (arith, c.requires.three)) c.requires.identifies) c.requires.holds
    (λ x l member good. c.requires.kept x l member (no_bad_part_identifies g graph (without (has c.args.m.now) x) good)) are

pub returns-clause-free : goal.returns-clause-free
returns-clause-free c = IfOk-weaker c.home_pockets.result _ _ (λ pockets are. (shown c (sets_of pockets) are).0) c.home_pockets.ensures.homes

pub returns-clause-shows : goal.returns-clause-shows
returns-clause-shows c = IfOk-weaker c.home_pockets.result _ _ (λ pockets are. (shown c (sets_of pockets) are).1) c.home_pockets.ensures.homes
