-- Good plans of topologies are within the limits.
use Rattle.std.proofs.Common.{◌≡◌, refl, ap, subst, ℕ, suc, ◌<◌, ◌≤◌, ◌||◌, true, false, Bool, List, [], ◌∷◌, length, get_or, arith, All, AllPairs}
use Rattle.std.specs.List.Sorted.{IsStrictlyIncreasing}
use Rattle.std.proofs.lemmas.Bool.{or_left, or_right}
use Rattle.std.proofs.lemmas.Bool.Decides.{nat_tests}
use Rattle.std.proofs.lemmas.List.{get_or_default}
use Rattle.std.proofs.lemmas.List.Elements.{All-head, All-tail}
use Rattle.tomo_base.specs.Limits.{node_limit}
use Rattle.tomo_base.specs.Network.{Network, IsGraph}
use Rattle.tomo_base.specs.Sets.{has, count, Avoids}
use Rattle.tomo_base.specs.Identify.{IsMonitorPath}
use Rattle.tomo_base.proofs.Ascending.{has-at}
use Rattle.tomo_base.proofs.Counts.{count-le, count-less}
use Rattle.tomo_base.proofs.Members.{count-has}
use Rattle.topology.specs.Names.{is_name}
use Rattle.topology.specs.Topology.{Topo, IsTopology}
use Rattle.simple_path.specs.declared.recipe.Term.{Term}
use Rattle.tomo_base.proofs.Paths.{walk_short}
use Rattle.plan_form.specs.Good.{IsGoodPocket}
use Rattle.plan_form.specs.Laws.{GoodIsWithinLimits}
use Rattle.plan_form.specs.Limits.{AreFewNodes, IsLowLink, IsLowPocket, path_limit}
use Rattle.plan_form.specs.Parts.{PlanPocket, IsName, IsTermList}
use Rattle.plan_form.proofs.Formed.{links_below, nodes_below}

-- a name has at most 64 bytes
name_short : (name : List ℕ) → IsName name → length name ≤ 64
unfolding is_name
name_short name is = grind (arith, nat_tests)

-- the ends of the links of a topology are below the most nodes of one
links_low : (t : Topo) → IsTopology t → All IsLowLink t.graph.links
links_low t is k d l = let ends = links_below t.graph.nodes t.graph.links is.graph k d l in (omega (arith, ends.0, is.few_nodes), omega (arith, ends.1, is.few_nodes))

-- ascending numbers below n are at most n
nodes_few : (n : ℕ) (nodes : List ℕ) → n ≤ node_limit → All (λ v. v < n) nodes → IsStrictlyIncreasing nodes → AreFewNodes nodes
nodes_few n nodes few below up = (omega (arith, count-has n nodes up below, count-le n (has nodes), few), λ k d l. omega (arith, below k d l, few))

-- a monitor path has each node at most once
path_few : (g : Network) (m : ℕ → Bool) (path : List ℕ) → IsGraph g → g.nodes ≤ node_limit → IsMonitorPath g m path → AreFewNodes path
path_few g m [] graph few path = absurd (omega (arith, path.two))
path_few g m (a ∷ []) graph few path = absurd (omega (arith, path.two))
path_few g m (a ∷ b ∷ p) graph few path = (omega (arith, walk_short g a b p graph path.linked path.different, few), λ k d l. omega (arith, nodes_below g m (a ∷ b ∷ p) graph path k d l, few))

-- what stands in some pocket
abbrev held : List PlanPocket → ℕ → Bool
held [] v = false
held (k ∷ ks) v = has k.nodes v || held ks v

-- a node stands in none of the pockets that avoid one of its own
held_apart : (g : Network) (x : ℕ) (k : PlanPocket) (ks : List PlanPocket) → x < g.nodes → has k.nodes x ≡ true → All (λ q. Avoids g (has k.nodes) (has q.nodes)) ks → held ks x ≡ false
held_apart g x k [] node there apart = refl
held_apart g x k (q ∷ ks) node there apart =
    rw (All-head (λ (r : PlanPocket). Avoids g (has k.nodes) (has r.nodes)) q ks apart x node there, held_apart g x k ks node there (All-tail (λ (r : PlanPocket). Avoids g (has k.nodes) (has r.nodes)) q ks apart)) refl

-- pockets that share no node, each with one at least, are no more than the nodes in them
pockets_few : (g : Network) (ks : List PlanPocket) → All (λ k. 0 < length k.nodes) ks → All (IsGoodPocket g) ks → AllPairs (λ p q. Avoids g (has p.nodes) (has q.nodes)) ks → length ks ≤ count g.nodes (held ks)
pockets_few g [] some good apart = omega arith
pockets_few g (k ∷ ks) some good apart =
    let filled = All-head (λ (q : PlanPocket). 0 < length q.nodes) k ks some in
    let one = All-head (IsGoodPocket g) k ks good in
    let x = get_or k.nodes 0 0 in
    let node : x < g.nodes = one.nodes 0 0 filled in
    let there : has k.nodes x ≡ true = has-at k.nodes 0 0 filled in
    let rest = pockets_few g ks (All-tail (λ (q : PlanPocket). 0 < length q.nodes) k ks some) (All-tail (IsGoodPocket g) k ks good) (λ i j d lt l. apart (suc i) (suc j) d (omega (arith, lt)) (omega (arith, l))) in
    let out = held_apart g x k ks node there (λ j d l. apart 0 (suc j) d (omega arith) (omega (arith, l))) in
    omega (arith, rest, count-less g.nodes (held ks) (held (k ∷ ks)) x node out (or_left _ _ there) (λ v l h. or_right _ _ h))

-- a good pocket needs at most three monitors
pocket_low : (g : Network) (k : PlanPocket) → g.nodes ≤ node_limit → IsGoodPocket g k → IsLowPocket k
pocket_low g k few good = (omega (arith, good.need), nodes_few g.nodes k.nodes few good.nodes good.ascending)

-- so a good plan is within the limits
pub good_within : GoodIsWithinLimits
good_within t p is formed good few =
    let names : length p.names ≡ length t.names = ap (λ xs. length xs) good.names in
    let links : length p.links ≡ length t.graph.links = ap (λ xs. length xs) good.links in
    let paths : length p.paths ≤ path_limit = omega (arith, few, links, is.few_links) in
    record {
      few_names = omega (arith, names, is.one_each, is.few_nodes);
      names = λ k d l. name_short (get_or p.names k d) (formed.names.each k d l);
      few_links = omega (arith, links, is.few_links);
      links = rw good.links (links_low t is);
      forced = nodes_few t.graph.nodes p.forced is.few_nodes good.forced.nodes good.forced.ascending;
      barred = nodes_few t.graph.nodes p.barred is.few_nodes good.barred.nodes good.barred.ascending;
      monitors = nodes_few t.graph.nodes p.monitors is.few_nodes good.monitors.nodes good.monitors.ascending;
      few_pockets = omega (arith, pockets_few t.graph p.pockets (λ k d l. (formed.pockets.each k d l).1.0) good.pockets.each good.pockets.disjoint, count-le t.graph.nodes (held p.pockets), is.few_nodes);
      pockets = λ k d l. pocket_low t.graph (get_or p.pockets k d) is.few_nodes (good.pockets.each k d l);
      few_paths = paths;
      paths = λ k d l. path_few t.graph (has p.monitors) (get_or p.paths k d) is.graph is.few_nodes (good.paths.each k d l);
      few_recipes = omega (arith, good.recipes.one_each, is.few_links);
      recipes = λ k d l.
          let terms : IsTermList (get_or p.recipes k d) = formed.recipes.each k d l in
          let named = subst (λ (ts : List Term). All (λ u. u.path < length p.paths) ts) (get_or_default p.recipes k [] d l) (good.recipes.each k l).names in
          (terms.1, λ j e n. ((terms.2 j e n).0, omega (arith, named j e n, paths)));
    }
