use Rattle.std.proofs.Common.{◌≡◌, ℕ, ◌≤◌, ◌+◌, ◌∙◌, ◌++◌, [], ◌∷◌, Vec, length, take, get_or, Contains, ap, ap₂, sym, arith, subst}
use Rattle.std.specs.Global.{Global}
use Rattle.std.proofs.lemmas.List.{take_all, take_more, length-map, get_or-map, length-take-le}
use Rattle.std.proofs.lemmas.List.Elements.{All-contains}
use Rattle.tomo_base.specs.NodeLists.{IsNodeSet}
use Rattle.tomo_base.specs.SetLists.{lists_of}
use Rattle.blocks.proofs.SameSets.{contains_map}
use Rattle.blocks.proofs.node_lists.ordered_sets.Goals as goal

pub set_of-requires : goal.set_of-requires
set_of-requires c = rw c.deref.ensures.value (All-contains IsNodeSet (lists_of c.args.lists.items) c.nodes-item.result.items c.requires.sets
    (c.sort_lists.ensures.given c.nodes-item.result.items (subst (λ xs. Contains (lists_of xs) c.nodes-item.result.items) c.deref-nodes-items.ensures.value
    (contains_map (λ (v : Vec ℕ Global). v.items) c.deref-nodes-items.result.now c.nodes-item.result (c.loop-nodes.nodes-index, c.loop-nodes-test.true, sym c.nodes-item.is)))))

-- so many sets as were copied
pub push-requires : goal.push-requires
push-requires c =
    let few : length c.deref-nodes-items.result.now ≤ length c.args.lists.items = rw c.deref-nodes-items.ensures.value c.sort_lists.ensures.few in
    let many : length (lists_of c.deref-nodes-items.result.now) ≡ length c.deref-nodes-items.result.now = length-map c.deref-nodes-items.result.now (λ (v : Vec ℕ Global). v.items) in
    let so_far : length c.loop-nodes.sets ≡ c.loop-nodes.nodes-index = ap length c.loop-nodes.invariant ∙ length-take-le c.loop-nodes.nodes-index (lists_of c.deref-nodes-items.result.now) (omega (arith, many, c.loop-nodes-test.true)) in
    omega (arith, few, so_far, c.loop-nodes-test.true, c.requires.few)

pub loop-nodes-preserved : goal.loop-nodes-preserved
loop-nodes-preserved c =
    let vs = c.deref-nodes-items.result.now in
    let i = c.loop-nodes.nodes-index in
    let many : length (lists_of vs) ≡ length vs = length-map vs (λ (v : Vec ℕ Global). v.items) in
    let here : get_or (lists_of vs) i [] ≡ c.nodes-item.result.items = get_or-map (λ (v : Vec ℕ Global). v.items) vs i c.nodes-item.result [] c.loop-nodes-test.true ∙ ap (λ (v : Vec ℕ Global). v.items) (sym c.nodes-item.is) in
    let next : c.push.new.self ≡ take (i + 1) (lists_of vs) = c.in-Ok.ensures.ok
    ∙ (ap₂ (λ xs x. xs ++ x ∷ []) c.loop-nodes.invariant (c.in_ok-set_of.ensures ∙ (c.deref.ensures.value ∙ sym here)) ∙ sym (take_more (lists_of vs) i [] (omega (arith, many, c.loop-nodes-test.true)))) in
    next

pub returns-clause-no_more : goal.returns-clause-no_more
returns-clause-no_more c =
    let vs = c.deref-nodes-items.result.now in
    let few : length vs ≤ length c.args.lists.items = rw c.deref-nodes-items.ensures.value c.sort_lists.ensures.few in
    let many : length (lists_of vs) ≡ length vs = length-map vs (λ (v : Vec ℕ Global). v.items) in
    let all : length c.loop-nodes.sets ≡ length (lists_of vs) = ap length c.loop-nodes.invariant ∙ ap length (take_all c.loop-nodes.nodes-index (lists_of vs) (omega (arith, many, c.loop-nodes-test.false))) in
    omega (arith, few, many, all)

pub returns-clause-same : goal.returns-clause-same
returns-clause-same c =
    let vs = c.deref-nodes-items.result.now in
    let many : length (lists_of vs) ≡ length vs = length-map vs (λ (v : Vec ℕ Global). v.items) in
    let all : c.loop-nodes.sets ≡ lists_of c.sort_lists.new.lists.items = c.loop-nodes.invariant ∙ (take_all c.loop-nodes.nodes-index (lists_of vs) (omega (arith, many, c.loop-nodes-test.false)) ∙ ap lists_of c.deref-nodes-items.ensures.value) in
    λ q. ((λ h. c.sort_lists.ensures.given q (subst (λ xs. Contains xs q) all h)), (λ h. subst (λ xs. Contains xs q) (sym all) (c.sort_lists.ensures.kept q h)))
