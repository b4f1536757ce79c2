use Rattle.std.proofs.Common.{◌≡◌, ◌<◌, ◌≤◌, ◌∷◌, ◌++◌, ◌+◌, length, map, [], sym, ap, subst, ◌∙◌, arith}
use Rattle.std.proofs.lemmas.List.Elements.{All-map}
use Rattle.simple_path.specs.Pools.{nodes_in}
use Rattle.unit_flow.specs.Flows.{second_of}
use Rattle.unit_flow.proofs.Sorting.{Sorted, sorted_none, sorted_all, placed, taken, skipped}
use Rattle.unit_flow.proofs.order.by_second.Goals as goal
use Rattle.unit_flow.proofs.order.by_second.Goals.{in-Some+in_ok-add, in_default}

pub loop-v-init : goal.loop-v-init
loop-v-init c = let ps = map (λ p. p.items) c.args.paths.now in subst (λ z. Sorted ps z 0) (sym c.new-pool.ensures) (sorted_none ps)

pub bounds-paths-i : goal.bounds-paths-i
bounds-paths-i c = (placed c.args.paths.now c.in_ok-places.ensures.places c.loop-v-test.true c.in_ok-places.ensures.size c.index.ensures c.in-Some.is).0

-- what is added is the next path
added : (c : goal.After-deref) → (length c.loop-v.pool + 1 ≤ length c.args.paths.now) × (nodes_in c.loop-v.pool + length c.index-paths-i.result.items ≤ nodes_in (map (λ p. p.items) c.args.paths.now))
added c =
    let next = taken c.args.paths.now c.in_ok-places.ensures.places c.loop-v-test.true c.in_ok-places.ensures.size c.index.ensures c.requires.differ c.in-Some.is c.index-paths-i.is c.loop-v.invariant in
    (next.0, next.1)

pub add-requires-clause-paths : goal.add-requires-clause-paths
add-requires-clause-paths c = omega (arith, (added c).0, c.requires.few)

pub add-requires-clause-nodes : goal.add-requires-clause-nodes
add-requires-clause-nodes c = omega (arith, (added c).1, c.requires.room, ap (λ z. length z) c.deref.ensures.value)

pub loop-v-preserved : goal.loop-v-preserved
loop-v-preserved c =
    let paths = c.args.paths.now in
    let at = c.in_ok-places.ensures.places in
    let size = c.in_ok-places.ensures.size in
    elim c.match-index.branch [
      | in-Some+in_ok-add w ↦
          let pool : c.match-index.pool ≡ c.loop-v.pool ++ w.index-paths-i.result.items ∷ [] = w.pool-is ∙ w.in_ok-add.ensures.ok ∙ ap (λ z. c.loop-v.pool ++ z ∷ []) w.deref.ensures.value in
          subst (λ z. Sorted (map (λ p. p.items) paths) z (c.loop-v.v + 1)) (sym pool) (taken paths at c.loop-v-test.true size c.index.ensures c.requires.differ w.in-Some.is w.index-paths-i.is c.loop-v.invariant).2
      | in_default w ↦ subst (λ z. Sorted (map (λ p. p.items) paths) z (c.loop-v.v + 1)) (sym w.pool-is) (skipped paths at c.loop-v-test.true size c.index.ensures w.in_default.is c.loop-v.invariant)
    ]

pub returns : goal.returns
returns c =
    let ps = map (λ p. p.items) c.args.paths.now in
    let all : c.loop-v.v ≡ c.args.count = omega (arith, c.loop-v-test.false, c.loop-v.auto.v-end) in
    sorted_all ps c.loop-v.pool c.args.count (All-map (λ p. second_of p < c.args.count) (λ p. p.items) c.args.paths.now c.requires.inside) (subst (Sorted ps c.loop-v.pool) all c.loop-v.invariant)
