use Rattle.std.proofs.Common.{length, arith, subst, Result, Ok, Err, IfOk, OnOk}
use Rattle.std.specs.List.Sorted.{IsStrictlyIncreasing}
use Rattle.tomo_base.specs.Network.{IsGraph}
use Rattle.tomo_base.specs.BadParts.{NoBadPart}
use Rattle.tomo_base.specs.Lowest.{IsLowestAllowed}
use Rattle.tomo_base.specs.Pockets.{Shows, AreHomePockets}
use Rattle.tomo_base.specs.Sets.{has, nothing}
use Rattle.tomo_base.proofs.Members.{count-has}
use Rattle.ident_laws.proofs.Chosen.{lowest_identifies, lowest_by_number, lowest_is_kept}
use Rattle.ident_laws.proofs.Shown.{home_pockets_of_lowest_by_number}
use Rattle.cross_links.proofs.Identifying.{no_bad_part_identifies}
use Rattle.pocket_bound.specs.Classes.{sets_of}
use Rattle.pocket_bound.proofs.gathering.pockets.Goals as goal
use Rattle.pocket_bound.proofs.gathering.pockets.Goals.{After-drop-arg-1}

-- the set is the lowest without a bad part
lowest_good : (c : After-drop-arg-1) → IsGraph c.args.g.now → IsLowestAllowed c.args.g.now (NoBadPart c.args.g.now) (λ v. v) nothing nothing (has c.args.m.now)
lowest_good c graph =
    (lowest_identifies c.args.g.now (λ v. v) nothing nothing (has c.args.m.now) graph c.requires.connected (omega (arith, c.requires.three)) (no_bad_part_identifies c.args.g.now graph)).1
    ((lowest_by_number c.args.g.now (has c.args.m.now)).1 c.requires.lowest)

pub home_pockets-requires-clause-good : goal.home_pockets-requires-clause-good
home_pockets-requires-clause-good c = λ graph. (lowest_good c graph).allowed.good

pub home_pockets-requires-clause-kept : goal.home_pockets-requires-clause-kept
unfolding has
home_pockets-requires-clause-kept c = rw c.new.ensures (λ graph x l k. (lowest_is_kept c.args.g.now (λ v. v) nothing nothing (has c.args.m.now) (lowest_good c graph) x l k).1)

pub returns-clause-homes : goal.returns-clause-homes
unfolding has
returns-clause-homes c = rw c.new.ensures at c.home_pockets-2.ensures.homes

pub returns-clause-shows : goal.returns-clause-shows
unfolding has
returns-clause-shows c =
    let g = c.args.g.now in
    let m = c.args.m.now in
    let graph = c.home_pockets-2.ensures.graph in
    beside (λ pockets. AreHomePockets g (has m) nothing (sets_of pockets)) (λ pockets. Shows g (sets_of pockets) (length m)) (IsStrictlyIncreasing m) c.home_pockets-2.result
    (λ pockets up are. subst (Shows g (sets_of pockets)) (count-has g.nodes m up c.requires.nodes)
    (home_pockets_of_lowest_by_number g (has m) (sets_of pockets) graph c.requires.connected (omega (arith, c.requires.three)) (no_bad_part_identifies g graph) c.requires.lowest are))
    c.home_pockets-2.ensures.ascending (rw c.new.ensures at c.home_pockets-2.ensures.homes)
  where
    beside : {T E : Type 0} (P Q : T → Type 0) (A : Type 0) (r : Result T E) → ((x : T) → A → P x → Q x) → OnOk r A → IfOk r P → IfOk r Q
    beside P Q A (Ok x) f a p = f x a p
    beside P Q A (Err e) f a p = tt
