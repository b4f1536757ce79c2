use Rattle.std.proofs.Common.{◌<◌, ◌∙◌, Bool, ℕ, ◌≡◌, not, ◌&&◌, nat_lt, List, ◌-◌, arith, refl, sym, subst, MatchOption, ltb-true, lt-ltb}
use Rattle.std.proofs.lemmas.Bool.{and_parts, false_from_ne_true}
use Rattle.tomo_base.specs.Sets.{has, complement}
use Rattle.tomo_base.proofs.Ascending.{All-from_has}
use Rattle.ident_laws.specs.Laws.{HasOwnPocket}
use Rattle.ident_laws.proofs.Boundary.{no_bad_part-wider}
use Rattle.ident_laws.proofs.Walk.{begins, leaves_out, holds, ends}
use Rattle.drop_place.specs.Leaving.{LeavesOut}
use Rattle.drop_place.proofs.Placing.{next_number, numbers_rank}
use Rattle.drop_place.proofs.lowest.drop_nodes.Goals as goal

pub loop-u-init : goal.loop-u-init
loop-u-init c =
    let g = c.args.g.now in
    let kept = c.in_ok-kept.kept in
    let not_barred : (v : ℕ) → v < g.nodes → has kept v ≡ not (has c.args.not.now v) = λ v l. kept_outside kept g.nodes (has c.args.not.now) v (c.in_ok-kept.ensures.nodes v) l in
    record {
      tried = begins g (λ v. v) (has c.args.must.now) (has c.args.not.now) (has kept) c.nodes-u.result (λ v l. omega (arith, l, c.nodes-u.ensures.nodes)) not_barred
          (no_bad_part-wider g (complement (has c.args.not.now)) (has kept) (λ v l there. not_barred v l ∙ there) (c.requires.good c.nodes-u.ensures.graph)) (λ v l must. false_from_ne_true (has c.args.not.now v) (c.requires.apart v must));
      nodes = All-from_has (λ v. v < g.nodes) kept (λ v h. ltb-true v g.nodes (and_parts _ _ (sym (c.in_ok-kept.ensures.nodes v) ∙ h)).0);
    }
  where
    kept_outside : (kept : List ℕ) (n : ℕ) (barred : ℕ → Bool) (v : ℕ) → has kept v ≡ (nat_lt v n && not (barred v)) → v < n → has kept v ≡ not (barred v)
    kept_outside kept n barred v is l = is ∙ rw (lt-ltb v n l) refl

pub loop-u-preserved-in-Some : goal.loop-u-preserved-in-Some
loop-u-preserved-in-Some c =
    let g = c.args.g.now in
    let u = c.loop-u.u in
    let kept = c.loop-u.kept in
    let leaves : LeavesOut g (has kept) (u - 1) c.in-Some.rest = subst (λ o. MatchOption o (HasOwnPocket g (has kept) (u - 1)) (LeavesOut g (has kept) (u - 1))) c.in-Some.is c.in_ok-rest.ensures in
    record {
      tried = leaves_out g (λ v. v) (has c.args.must.now) (has c.args.not.now) (has kept) (has c.in-Some.rest) u (u - 1) (numbers_rank g)
          (next_number g u c.loop-u-test.true (omega (arith, c.loop-u.auto.u, c.nodes-u.ensures.nodes))) (sym c.has.ensures ∙ c.if-has.false) (λ v l. leaves.rest_is v) leaves.none c.loop-u.invariant.tried;
      nodes = leaves.nodes;
    }

pub loop-u-preserved : goal.loop-u-preserved
loop-u-preserved c =
    let g = c.args.g.now in
    let u = c.loop-u.u in
    let kept = c.loop-u.kept in
    let own : HasOwnPocket g (has kept) (u - 1) = subst (λ o. MatchOption o (HasOwnPocket g (has kept) (u - 1)) (LeavesOut g (has kept) (u - 1))) c.in_default.is c.in_ok-rest.ensures in
    record {
      tried = holds g (λ v. v) (has c.args.must.now) (has c.args.not.now) (has kept) u (u - 1) (numbers_rank g)
          (next_number g u c.loop-u-test.true (omega (arith, c.loop-u.auto.u, c.nodes-u.ensures.nodes))) own c.loop-u.invariant.tried;
      nodes = c.loop-u.invariant.nodes;
    }

pub returns-clause-lowest : goal.returns-clause-lowest
returns-clause-lowest c = ends c.args.g.now (λ v. v) (has c.args.must.now) (has c.args.not.now) (has c.loop-u.kept) c.loop-u.u (λ v l. omega (arith, c.loop-u-test.false)) c.loop-u.invariant.tried
