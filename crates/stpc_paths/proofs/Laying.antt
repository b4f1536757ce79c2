-- Each root in turn gets its path.
use Rattle.std.proofs.Common.{◌≡◌, ℕ, ◌+◌, ◌*◌, ◌<◌, ◌≤◌, ◌^◌, Bool, false, List, [], ◌∷◌, ◌++◌, length, get_or, slice_get, reverse, IsTrue, Option, Some, None, refl, sym, ap, ◌∙◌, inl, inr, arith}
use Rattle.std.proofs.lemmas.Bool.{cases_lt}
use Rattle.std.proofs.lemmas.List.{length_push, get_or_append_left, get_or_push, get_or_default}
use Rattle.std.proofs.lemmas.Option.{slice_get-get_or}
use Rattle.tomo_base.specs.Limits.{graph_link_limit, graph_node_limit}
use Rattle.tomo_base.specs.declared.graph.Link.{Link}
use Rattle.tomo_base.specs.Network.{linked}
use Rattle.tomo_base.specs.Identify.{IsMonitorPath}
use Rattle.tomo_base.proofs.Links.{linked_below}
use Rattle.tomo_base.proofs.Rows.{any_joins-from}
use Rattle.simple_path.specs.Pools.{nodes_in}
use Rattle.simple_path.proofs.Pools.{nodes_in-append}
use Rattle.tomo_base.proofs.Paths.{walk_short}
use Rattle.cross_links.specs.Joining.{turned_onto}
use Rattle.cross_links.proofs.Turned.{turned_is}
use Rattle.indep_trees.specs.Trees.{Climbs, Trees, parent_in, rank_in}
use Rattle.stpc_paths.specs.declared.roots.Root.{Root}
use Rattle.stpc_paths.specs.Roots.{after, tree_of, second_start, Owns, IsOwned, IsRoot}
use Rattle.stpc_paths.specs.Kept.{stops, IsForest, monitor_in, AreRoots, IsPathOf, ArePathsOf}
use Rattle.stpc_paths.proofs.Forests.{Forest, after_below}
use Rattle.stpc_paths.proofs.Trees.{stops_node, goes_from, forest, trunk_path, parent_below}
use Rattle.stpc_paths.proofs.Joined.{path_by, path_monitor}

-- what was climbed, turned round, and what was climbed then
pub path_joined : (t : Trees) (r : Root) (tree second : ℕ) (first turned whole : List ℕ) → tree ≡ tree_of r.tree → second ≡ second_start (parent_in t) r.node r.other r.tree
    → ((p : List ℕ) → Climbs (monitor_in t) (parent_in t tree) r.node p → first ≡ [] ++ r.node ∷ p) → turned ≡ reverse first
    → ((q : List ℕ) → Climbs (monitor_in t) (parent_in t (after tree)) second q → whole ≡ turned ++ second ∷ q) → IsPathOf t r whole
path_joined t r tree second first turned whole is_tree is_second up back on p q c d =
    let first_is : first ≡ r.node ∷ p = up p (rw is_tree c) in
    let whole_is : whole ≡ turned ++ second ∷ q = on q (rw (is_tree, is_second) d) in
    whole_is ∙ (ap (λ l. l ++ second ∷ q) (back ∙ ap (λ l. reverse l) first_is) ∙ (turned_is (r.node ∷ p) (second ∷ q) ∙ ap (λ s. turned_onto (r.node ∷ p) (s ∷ q)) is_second))

-- the two trees of a path
pub tree_below : (t : Trees) (v w : ℕ) (o : Option ℕ) → IsOwned (monitor_in t) (parent_in t) (rank_in t) v w o → tree_of o < 3
tree_below t v w (Some i) owned = owned.0
tree_below t v w None owned = omega arith

-- the second part begins at a node
pub second_below : (t : Trees) (v w : ℕ) (o : Option ℕ) → IsForest t → v < t.graph.nodes → w < t.graph.nodes → IsOwned (monitor_in t) (parent_in t) (rank_in t) v w o → second_start (parent_in t) v w o < t.graph.nodes
second_below t v w (Some i) is in_v in_w owned = parent_below t.graph (monitor_in t) (rank_in t) (parent_in t) is.graph is.trees (after i) v (after_below i owned.0) (in_v, owned.1.free)
second_below t v w None is in_v in_w owned = in_w

-- what the roots of links say of the forest's monitors
pub owned_stops : (t : Trees) (v w : ℕ) (o : Option ℕ) → v < t.graph.nodes → w < t.graph.nodes → IsForest t → IsOwned (monitor_in t) (parent_in t) (rank_in t) v w o → IsOwned (stops t.graph (monitor_in t)) (parent_in t) (rank_in t) v w o
owned_stops t v w (Some i) in_v in_w is owned = (
  owned.0,
  record {
    free = goes_from t.graph (monitor_in t) v (in_v, owned.1.free);
    parent_is = owned.1.parent_is;
    alone = λ both. owned.1.alone (sym (stops_node t.graph (monitor_in t) (parent_in t i v) (parent_below t.graph (monitor_in t) (rank_in t) (parent_in t) is.graph is.trees i v owned.0 (in_v, owned.1.free))) ∙ both.0, both.1);
  },
)
owned_stops t v w None in_v in_w is owned = (
  (λ i l. ((λ o. (owned.0 i l).0 (plain v w i l in_v o)), (λ o. (owned.0 i l).1 (plain w v i l in_w o)))),
  owned.1,
)
  where
    plain : (v w i : ℕ) → i < 3 → v < t.graph.nodes → Owns (stops t.graph (monitor_in t)) (parent_in t) i v w → Owns (monitor_in t) (parent_in t) i v w
    plain v w i l in_v o =
        let free : monitor_in t v ≡ false = sym (stops_node t.graph (monitor_in t) v in_v) ∙ o.free in
        record {
          free = free;
          parent_is = o.parent_is;
          alone = λ both. o.alone (stops_node t.graph (monitor_in t) (parent_in t i v) (parent_below t.graph (monitor_in t) (rank_in t) (parent_in t) is.graph is.trees i v l (in_v, free)) ∙ both.0, both.1);
        }

module _ (t : Trees) (is : IsForest t) where
  abbrev pub mon : ℕ → Bool
  mon = stops t.graph (monitor_in t)

  abbrev pub wood : Forest t.graph (stops t.graph (monitor_in t)) (rank_in t) (parent_in t)
  wood = forest t.graph (monitor_in t) (rank_in t) (parent_in t) is.graph is.trees

  -- the path of a root is that of the forest
  pub path_is : (r : Root) (path : List ℕ) → r.node < t.graph.nodes → r.other < t.graph.nodes → IsOwned (monitor_in t) (parent_in t) (rank_in t) r.node r.other r.tree → IsPathOf t r path
      → path ≡ path_by t.graph (stops t.graph (monitor_in t)) (rank_in t) (parent_in t) wood r.node r.other r.tree
  path_is r path in_node in_other owned of_root =
      let i = tree_of r.tree in
      let l = tree_below t r.node r.other r.tree owned in
      let s = second_start (parent_in t) r.node r.other r.tree in
      of_root (wood.trunk i r.node) (wood.trunk (after i) s)
      (trunk_path t.graph (monitor_in t) (rank_in t) (parent_in t) is.graph is.trees i r.node l in_node)
      (trunk_path t.graph (monitor_in t) (rank_in t) (parent_in t) is.graph is.trees (after i) s (after_below i l) (second_below t r.node r.other r.tree is in_node in_other owned))

  -- so it has no more nodes than the graph
  pub path_short : (l : Link) (r : Root) (e : ℕ) (path : List ℕ) → slice_get t.graph.links e ≡ Some l → IsRoot (monitor_in t) (parent_in t) (rank_in t) l r → IsPathOf t r path → length path ≤ t.graph.nodes
  path_short l r e path at root of_root =
      let joined : IsTrue (linked t.graph r.node r.other) = any_joins-from t.graph.links e r.node r.other (l, at, root.ends) in
      let below = linked_below t.graph.nodes t.graph.links r.node r.other is.graph joined in
      let same = path_is r path below.0 below.1 root.owned of_root in
      rw same (short (path_by t.graph (stops t.graph (monitor_in t)) (rank_in t) (parent_in t) wood r.node r.other r.tree)
      (path_monitor t.graph (stops t.graph (monitor_in t)) (rank_in t) (parent_in t) wood r.node r.other r.tree (owned_stops t r.node r.other r.tree below.0 below.1 is root.owned) joined))
    where
      short : (p : List ℕ) → IsMonitorPath t.graph (stops t.graph (monitor_in t)) p → length p ≤ t.graph.nodes
      short [] h = omega arith
      short (a ∷ []) h = absurd (omega (arith, h.two))
      short (a ∷ b ∷ p) h = walk_short t.graph a b p is.graph h.linked h.different

-- what the code reads where there is no root
abbrev pub no_root : Root
no_root = record { node = 0; other = 0; tree = None }

-- the first i roots have their paths
pub record PathsTo (t : Trees) (roots : List Root) (i : ℕ) (paths : List (List ℕ)) : Type 0 where
  pub size : length paths ≡ i
  pub each : (e : ℕ) (d : Root) → e < i → IsPathOf t (get_or roots e d) (get_or paths e [])
  pub few : nodes_in paths ≤ i * graph_node_limit

-- none yet
pub paths_none : (t : Trees) (roots : List Root) (pool : List (List ℕ)) → pool ≡ [] → PathsTo t roots 0 pool
paths_none t roots pool none = rw none (record { size = refl; each = λ e d l. absurd (omega (arith, l)); few = omega arith })

-- the link of a root
pub root_link : (t : Trees) (roots : List Root) (e : ℕ) (d : Root) → AreRoots t t.graph.links roots → e < length roots → (l : Link) × (slice_get t.graph.links e ≡ Some l) × IsRoot (monitor_in t) (parent_in t) (rank_in t) l (get_or roots e d)
root_link t roots e d are lt =
    let x : Link = record { a = 0; b = 0 } in
    let at = slice_get-get_or t.graph.links e x (omega (arith, lt, are.one_each)) in
    (get_or t.graph.links e x, at, are.each e (get_or t.graph.links e x) d at)

-- its ends are nodes
pub root_below : (t : Trees) (roots : List Root) (e : ℕ) (d : Root) → IsForest t → AreRoots t t.graph.links roots → e < length roots → ((get_or roots e d).node < t.graph.nodes) × ((get_or roots e d).other < t.graph.nodes)
root_below t roots e d is are lt =
    let r = root_link t roots e d are lt in
    linked_below t.graph.nodes t.graph.links (get_or roots e d).node (get_or roots e d).other is.graph (any_joins-from t.graph.links e (get_or roots e d).node (get_or roots e d).other (r.0, r.1, r.2.ends))

-- one more
pub paths_more : (t : Trees) (roots : List Root) (i : ℕ) (paths : List (List ℕ)) (path : List ℕ) (d : Root) → IsForest t → t.graph.nodes ≤ graph_node_limit → AreRoots t t.graph.links roots → i < length roots → IsPathOf t (get_or roots i d) path → PathsTo t roots i paths → PathsTo t roots (i + 1) (paths ++ path ∷ [])
paths_more t roots i paths path d is small are lt of_root before =
    let r = root_link t roots i d are lt in
    let short = path_short t is r.0 (get_or roots i d) i path r.1 r.2 of_root in
    record {
      size = omega (arith, length_push paths path, before.size);
      each = λ e x le. elim (cases_lt e i) [
        | inl less ↦ rw (get_or_append_left paths (path ∷ []) [] e (omega (arith, less, before.size))) (before.each e x less)
        | inr ge ↦
            let here : i ≡ e = omega (arith, le, ge) in
            rw (get_or_push paths path [] e (before.size ∙ here), ← here, get_or_default roots i x d lt) of_root
      ];
      few = omega (arith, nodes_in-append paths (path ∷ []), before.few, short, small);
    }

-- there is room for one more
pub paths_room : (t : Trees) (roots : List Root) (i : ℕ) (paths : List (List ℕ)) (path : List ℕ) (d : Root) → IsForest t → t.graph.nodes ≤ graph_node_limit → length roots ≤ graph_link_limit → AreRoots t t.graph.links roots → i < length roots → IsPathOf t (get_or roots i d) path → PathsTo t roots i paths
    → nodes_in paths + length path < 2 ^ 31
paths_room t roots i paths path d is small few are lt of_root before =
    let r = root_link t roots i d are lt in
    omega (arith, before.few, path_short t is r.0 (get_or roots i d) i path r.1 r.2 of_root, small, few, lt)

-- all
pub paths_all : (t : Trees) (roots : List Root) (i : ℕ) (paths : List (List ℕ)) → length roots ≡ i → PathsTo t roots i paths → ArePathsOf t roots paths
paths_all t roots i paths size all = record { one_each = all.size ∙ sym size; each = λ e d l. all.each e d (omega (arith, l, size)) }
