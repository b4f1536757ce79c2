use Rattle.std.proofs.Common.{◌≡◌, ℕ, ◌+◌, ◌≤◌, ◌∙◌, ◌++◌, [], List, length, ap, sym, subst, arith, Vec, Contains}
use Rattle.std.specs.Global.{Global}
use Rattle.std.proofs.lemmas.List.{length-map}
use Rattle.tomo_base.specs.Limits.{graph_node_limit}
use Rattle.tomo_base.specs.Sets.{has}
use Rattle.tomo_base.specs.Blocks.{IsThreeBlockOf}
use Rattle.tomo_base.proofs.Ascending.{length-node_set}
use Rattle.tomo_base.specs.SetLists.{AreAllSets, lists_of}
use Rattle.blocks.proofs.SameSets.{sets_same, node_sets, node_set}
use Rattle.split_tree.specs.Trees.{piece_of, rigids_of}
use Rattle.split_tree.proofs.Sounding.{tree_three_blocks, rigid_sets, piece_is}
use Rattle.split_tree.proofs.Fewness.{few_rigids}
use Rattle.split_tree.proofs.rigid_pieces.three_blocks.Goals as goal

-- what was collected
collected : (vs new : List (Vec ℕ Global)) (rigids : List (List ℕ)) → vs ≡ [] → lists_of new ≡ lists_of vs ++ rigids → lists_of new ≡ rigids
collected vs new rigids none all = all ∙ ap (λ xs. lists_of xs ++ rigids) none

pub ordered_sets-requires-clause-sets : goal.ordered_sets-requires-clause-sets
ordered_sets-requires-clause-sets c =
    let facts = c.args.t.now.facts in
    rw (collected _ c.collect.new.found.items (rigids_of c.args.t.now.root) c.new-found.ensures.items c.in_ok-collect.ensures)
    (node_sets c.args.t.now.node_count (rigids_of c.args.t.now.root) facts.few (rigid_sets c.args.t.now.node_count c.args.t.now.root facts.facts))

pub ordered_sets-requires-clause-few : goal.ordered_sets-requires-clause-few
ordered_sets-requires-clause-few c =
    let facts = c.args.t.now.facts in
    let n = c.args.t.now.node_count in
    let t = c.args.t.now.root in
    let same : length (lists_of c.collect.new.found.items) ≡ length (rigids_of t) = ap length (collected _ c.collect.new.found.items (rigids_of t) c.new-found.ensures.items c.in_ok-collect.ensures) in
    let many : length (lists_of c.collect.new.found.items) ≡ length c.collect.new.found.items = length-map c.collect.new.found.items (λ (v : Vec ℕ Global). v.items) in
    let few : length (rigids_of t) + 2 ≤ length (piece_of t).nodes = few_rigids n t facts.facts facts.three in
    let nodes : length (piece_of t).nodes ≤ graph_node_limit = length-node_set (piece_of t).nodes (node_set n (piece_of t).nodes facts.few (piece_is n t facts.facts).set) in
    omega arith

pub returns-clause-three_blocks : goal.returns-clause-three_blocks
returns-clause-three_blocks c = λ g graph same whole.
    let facts = c.args.t.now.facts in
    let n = c.args.t.now.node_count in
    let t = c.args.t.now.root in
    let all = collected _ c.collect.new.found.items (rigids_of t) c.new-found.ensures.items c.in_ok-collect.ensures in
    subst (λ k. AreAllSets k (IsThreeBlockOf g (has (piece_of t).nodes)) c.in_ok-sets.sets) (sym same) (record {
      with_it = sets_same n (IsThreeBlockOf g (has (piece_of t).nodes)) (rigids_of t) c.in_ok-sets.sets (tree_three_blocks n t g facts graph same whole)
          (λ q. ((λ h. subst (λ xs. Contains xs q) all ((c.in_ok-sets.ensures.same q).0 h)), (λ h. (c.in_ok-sets.ensures.same q).1 (subst (λ xs. Contains xs q) (sym all) h))));
      in_order = c.in_ok-sets.ensures.ascending;
    })

pub returns-clause-few : goal.returns-clause-few
returns-clause-few c =
    let facts = c.args.t.now.facts in
    let t = c.args.t.now.root in
    let same : length (lists_of c.collect.new.found.items) ≡ length (rigids_of t) = ap length (collected _ c.collect.new.found.items (rigids_of t) c.new-found.ensures.items c.in_ok-collect.ensures) in
    let many : length (lists_of c.collect.new.found.items) ≡ length c.collect.new.found.items = length-map c.collect.new.found.items (λ (v : Vec ℕ Global). v.items) in
    let few : length (rigids_of t) + 2 ≤ length (piece_of t).nodes = few_rigids c.args.t.now.node_count t facts.facts facts.three in
    omega (arith, same, many, few, c.in_ok-sets.ensures.no_more)
