use Rattle.std.proofs.Common.{◌++◌, ◌∷◌, [], ◌≡◌, ◌≤◌, sym, arith, length, get_or, false, ◌∙◌}
use Rattle.std.proofs.lemmas.List.{length_push}
use Rattle.tomo_base.specs.declared.graph.Link.{Link}
use Rattle.tomo_base.specs.Table.{AreHops, AreRows, in_order}
use Rattle.tomo_base.proofs.Entering.{rows_push, first_at, repeats, kept_more, in_order_high, loop_ends, two_ends, row_read, no_link_yet, length-kept}
use Rattle.tomo_base.proofs.Lists.{lent_back}
use Rattle.tomo_base.proofs.Rows.{AreLinks-push}
use Rattle.tomo_base.specs.Network.{any_joins}
use Rattle.tomo_base.proofs.graph.Graph.new.Goals as goal

pub loop-preserved : goal.loop-preserved
loop-preserved c = record {
  so_many = rw c.in_ok-push.ensures.items (omega (arith, length_push c.loop.rows.items c.new.result, c.loop.invariant.so_many));
  empty = rw c.in_ok-push.ensures.items (rows_push c.loop.rows.items c.new.result c.new.ensures.items c.loop.invariant.empty);
}

pub loop-i-init : goal.loop-i-init
loop-i-init c = record {
  kept = c.new-kept.ensures.items;
  fine = rw c.new-kept.ensures.items tt;
  one_each = omega arith;
  hops = rw c.new-kept.ensures.items c.loop.invariant.empty;
}

pub returns-then-link-n-clause-fault : goal.returns-then-link-n-clause-fault
returns-then-link-n-clause-fault c =
    let l : Link = get_or c.args.links.now c.loop-i.i (record { a = 0; b = 0 }) in
    let high : c.args.n ≤ (in_order l).b = rw c.turned-link.ensures at c.if-link-n.true in
    (l, first_at _ _ _ _ _ c.loop-i-test.true c.loop-i.invariant.kept c.loop-i.invariant.fine, in_order_high c.args.n l high)

pub returns-then-link-clause-fault : goal.returns-then-link-clause-fault
returns-then-link-clause-fault c =
    let l : Link = get_or c.args.links.now c.loop-i.i (record { a = 0; b = 0 }) in
    let ends = loop_ends c.args.n l c.turned-link.result c.turned-link.ensures c.if-link.true c.if-link-n.false in
    (l, first_at _ _ _ _ _ c.loop-i-test.true c.loop-i.invariant.kept c.loop-i.invariant.fine, ends.0, ends.1)

pub link_to-requires : goal.link_to-requires
link_to-requires c =
    let l : Link = get_or c.args.links.now c.loop-i.i (record { a = 0; b = 0 }) in
    let ends = two_ends c.args.n l c.turned-link.result c.turned-link.ensures c.if-link.false c.if-link-n.false in
    let hops : AreHops c.loop-i.kept.items c.turned-link.result.a c.deref.result.now = row_read _ _ _ _ _ c.loop-i.invariant.hops (omega (arith, ends.3, c.loop-i.invariant.one_each, c.if-link-n.false)) c.index.ensures c.deref.ensures.value in
    hops.ascending

pub enter-requires-clause-rows : goal.enter-requires-clause-rows
enter-requires-clause-rows c =
    let lent : c.deref_mut.result.now ≡ c.loop-i.rows.items = c.deref_mut.ensures.value in
    let rows : AreRows c.loop-i.kept.items c.deref_mut.result.now = rw lent c.loop-i.invariant.hops in
    λ v d l. (rows v d l).ascending

pub returns-then-is_some-clause-fault : goal.returns-then-is_some-clause-fault
returns-then-is_some-clause-fault c =
    let l : Link = get_or c.args.links.now c.loop-i.i (record { a = 0; b = 0 }) in
    let ends = two_ends c.args.n l c.turned-link.result c.turned-link.ensures c.if-link.false c.if-link-n.false in
    let hops : AreHops c.loop-i.kept.items c.turned-link.result.a c.deref.result.now = row_read _ _ _ _ _ c.loop-i.invariant.hops (omega (arith, ends.3, c.loop-i.invariant.one_each, c.if-link-n.false)) c.index.ensures c.deref.ensures.value in (
      l,
      first_at _ _ _ _ _ c.loop-i-test.true c.loop-i.invariant.kept c.loop-i.invariant.fine,
      ends.0,
      ends.1,
      ends.2,
      repeats c.args.links.now c.loop-i.kept.items c.loop-i.i l c.deref.result.now c.link_to.result c.loop-i.invariant.kept (rw c.turned-link.ensures at hops) (rw c.turned-link.ensures at c.link_to.ensures.found) (sym c.is_some.ensures ∙ c.if-is_some.true),
    )

pub loop-i-preserved : goal.loop-i-preserved
loop-i-preserved c =
    let l : Link = get_or c.args.links.now c.loop-i.i (record { a = 0; b = 0 }) in
    let ends = two_ends c.args.n l c.turned-link.result c.turned-link.ensures c.if-link.false c.if-link-n.false in
    let hops : AreHops c.loop-i.kept.items c.turned-link.result.a c.deref.result.now = row_read _ _ _ _ _ c.loop-i.invariant.hops (omega (arith, ends.3, c.loop-i.invariant.one_each, c.if-link-n.false)) c.index.ensures c.deref.ensures.value in
    let new : any_joins c.loop-i.kept.items c.turned-link.result.a c.turned-link.result.b ≡ false = no_link_yet _ _ _ _ _ hops c.link_to.ensures.none (sym c.is_some.ensures ∙ c.if-is_some.false) in
    let number : c.loop-i.i ≡ length c.loop-i.kept.items = sym (length-kept c.args.links.now c.loop-i.kept.items c.loop-i.i (omega arith) c.loop-i.invariant.kept) in
    let len : length c.enter.new.rows ≡ c.loop-i.rows.len = omega (arith, c.in_ok-enter.ensures.length, c.loop-i.rows.ok) in
    let back = lent_back c.loop-i.rows.len c.enter.new.rows c.loop-i.rows.items len in
    let lent : c.deref_mut.result.now ≡ c.loop-i.rows.items = c.deref_mut.ensures.value in
    let rows : AreRows c.loop-i.kept.items c.deref_mut.result.now = rw lent c.loop-i.invariant.hops in
    let entered : AreRows (c.loop-i.kept.items ++ c.turned-link.result ∷ []) c.enter.new.rows = c.in_ok-enter.ensures.entered c.loop-i.kept.items rows new number in
    record {
      kept = rw (c.in_ok-push-2.ensures.items, c.turned-link.ensures) (kept_more c.args.n c.args.links.now c.loop-i.kept.items c.loop-i.i _ c.loop-i-test.true c.loop-i.invariant.kept);
      fine = rw c.in_ok-push-2.ensures.items (AreLinks-push c.args.n c.loop-i.kept.items c.turned-link.result c.loop-i.invariant.fine ends.3 c.if-link-n.false new);
      one_each = rw back (omega (arith, c.in_ok-enter.ensures.length, c.loop-i.invariant.one_each));
      hops = rw (back, c.in_ok-push-2.ensures.items) entered;
    }
