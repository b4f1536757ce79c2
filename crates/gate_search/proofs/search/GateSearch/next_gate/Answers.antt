use Rattle.std.proofs.Common.{◌≡◌, ◌<◌, ◌∙◌, length, IsTrue, arith, sym, subst, [], ◌∷◌}
use Rattle.std.proofs.lemmas.List.{get_or_default}
use Rattle.tomo_base.specs.Sets.{has}
use Rattle.tomo_base.specs.Search.{mark_of, entry_at}
use Rattle.tomo_base.proofs.Ascending.{has-at}
use Rattle.gate_search.specs.Gates.{HasNoGate}
use Rattle.gate_search.proofs.Stopping.{passed_more, still_there}
use Rattle.gate_search.proofs.search.GateSearch.next_gate.Goals as goal

pub returns-in-Some-clause-found : goal.returns-in-Some-clause-found
returns-in-Some-clause-found c =
    let order = c.loop-self.self.found.order.items in
    let room : c.loop-self.self.head < length order = omega (arith, c.loop-self-test.true, c.len.ensures) in
    (subst (λ z. IsTrue (has order z)) (sym c.index-inner.ensures) (has-at order c.loop-self.self.head _ room), c.in-Some.ensures.found)

pub loop-self-preserved : goal.loop-self-preserved
loop-self-preserved c =
    let s = c.loop-self.self in
    let old = s.found.order.items in
    let room : s.head < length old = omega (arith, c.loop-self-test.true, c.len.ensures) in
    let w = mark_of c.args.nodes.now in
    let free = mark_of c.args.free.now in
    let node : entry_at old s.head ≡ c.index-inner.result.now = get_or_default old s.head 0 _ room ∙ sym c.index-inner.ensures in
    record {
      search = record {
        search = c.in_ok-look.ensures.searched (s.start ∷ []) c.loop-self.invariant.search.search;
        head = omega (arith, c.in_ok-look.ensures.place);
      };
      start = c.loop-self.invariant.start;
      kept = λ v h. still_there old c.look.new.found.order.items v c.in_ok-look.ensures.longer c.in_ok-look.ensures.kept (c.loop-self.invariant.kept v h);
      passed = passed_more (λ z. HasNoGate c.args.g.now w free z c.args.c c.args.d) old c.look.new.found.order.items s.head (λ k l. c.in_ok-look.ensures.kept k (omega (arith, l, room))) c.loop-self.invariant.passed
          (subst (λ z. HasNoGate c.args.g.now w free z c.args.c c.args.d) (sym node) c.in_default.ensures.none);
    }
