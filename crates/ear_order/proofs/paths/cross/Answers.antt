use Rattle.std.proofs.Common.{◌≡◌, ◌<◌, true, length, sym, subst}
use Rattle.tomo_base.specs.Network.{linked}
use Rattle.tomo_base.specs.Search.{mark_of, entry_at}
use Rattle.ear_order.proofs.Reaching.{must_cross}
use Rattle.ear_order.proofs.paths.cross.Goals as goal

pub unreachable-requires : goal.unreachable-requires
unreachable-requires c =
    let order = c.in_ok-found.found.order.items in
    must_cross c.args.g.now (mark_of c.args.old.now) (mark_of c.args.zone.now) c.args.e c.in_ok-found.found c.requires.crosses c.in_ok-found.ensures
    (λ k w l link old. c.in-None.ensures.none k w (subst (λ xs. k < length xs) (sym c.deref.ensures.value) l) (subst (λ xs. linked c.args.g.now (entry_at xs k) w ≡ true) (sym c.deref.ensures.value) link) old)

pub returns-clause-ear : goal.returns-clause-ear
returns-clause-ear c =
    c.in_ok-trail-in-Some.ensures.ear (mark_of c.args.old.now) c.in-Some.ensures.marked c.requires.start c.in-Some.ensures.differs (λ v h. c.requires.off v (c.in_ok-found.ensures.within v h))
