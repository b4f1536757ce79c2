-- Parts that are good at each place are good, and what that shows.
use Rattle.std.proofs.Common.{refl, ◌≡◌, ◌≤◌, ◌<◌, ◌+◌, ◌-◌, ◌++◌, ◌∷◌, [], ℕ, zero, suc, Bool, true, false, List, length, take, set, get_or, All, subst, arith}
use Rattle.std.specs.List.{AllByRecursion}
use Rattle.std.specs.List.Sorted.{IsStrictlySortedBy}
use Rattle.std.specs.declared.cmp.Ordering.TheVariants.{Less}
use Rattle.std.specs.Cmp.Lexicographic.{nat_list_cmp_total}
use Rattle.std.proofs.lemmas.List.{get_or_default, take_more}
use Rattle.tomo_base.specs.Limits.{node_limit}
use Rattle.tomo_base.specs.Network.{Network}
use Rattle.tomo_base.specs.Sets.{has, size, Avoids, IsInside}
use Rattle.tomo_base.specs.Walks.{IsWalk}
use Rattle.tomo_base.specs.Identify.{IsMonitorPath, Identified, Identifies}
use Rattle.tomo_base.specs.Pockets.{Shows, need_of, needs_of}
use Rattle.tomo_base.proofs.Ascending.{has-at, All-has}
use Rattle.tomo_base.proofs.Counts.{count-some, count-le}
use Rattle.tomo_base.proofs.Members.{count-has}
use Rattle.ident_laws.proofs.Recipes.{recipes_identify}
use Rattle.ident_laws.proofs.Shown.{pockets_bound_beside_forced}
use Rattle.topology.specs.Topology.{Topo, IsTopology}
use Rattle.simple_path.specs.declared.recipe.Term.{Term}
use Rattle.plan_form.specs.Parts.{PlanPocket, PlanParts, IsWellFormed}
use Rattle.plan_form.specs.Order.{path_cmp}
use Rattle.plan_form.specs.Good.{AreGoodForced, AreGoodBarred, AreGoodMonitors, IsGoodPocket, AreGoodPockets, EndsAscend, AreGoodPaths, AreGoodRecipes, IsGoodPlan, pocket_sets}
use Rattle.plan_form.proofs.Recipes.{good_recipes_are}
use Rattle.cert_check.specs.Faults.{AllPlaces, AscendsAt, IsChosenAt, IsFirstBad, IsGoodBarredAt, IsGoodPocketAt, pocket_at, IsGoodPathAt, IsGoodRecipeAt}
use Rattle.cert_check.proofs.Chosen.{HasBelow, barred_all, barred_first, barred_from, forced_all, forced_from}
use Rattle.cert_check.proofs.Places.{ascending_from}

-- monitors
pub monitors_from : (g : Network) (monitors : List ℕ) → AllPlaces (length monitors) (AscendsAt g.nodes monitors) → AreGoodMonitors g monitors
monitors_from g monitors each = let whole = ascending_from g.nodes monitors each in record { nodes = whole.0; ascending = whole.1 }

-- pockets
pub pockets_from : (g : Network) (forced : List ℕ) (pockets : List PlanPocket) → AllPlaces (length pockets) (IsGoodPocketAt g forced pockets) → AreGoodPockets g forced pockets
pockets_from g forced pockets each =
    let e : PlanPocket = record { need = 0; nodes = [] } in
    record {
      each = λ i d l. subst (IsGoodPocket g) (get_or_default pockets i e d l) (each i l).good;
      free = λ i d l. subst (λ (k : PlanPocket). Avoids g (has k.nodes) (has forced)) (get_or_default pockets i e d l) (each i l).free;
      disjoint = λ i j d lt l. rw (get_or_default pockets i d e (omega (arith, lt, l)), get_or_default pockets j d e l) ((each j l).apart i lt);
    }

-- a path less than the first is less than all of an ascending list
above_all : (x : List ℕ) (ys : List (List ℕ)) → ((k : ℕ) → suc k < length (x ∷ ys) → path_cmp (get_or (x ∷ ys) k []) (get_or (x ∷ ys) (suc k) []) ≡ Less) → AllByRecursion (λ y. path_cmp x y ≡ Less) ys
above_all x [] up = tt
above_all x (y ∷ []) up = (up 0 (omega arith), tt)
above_all x (y ∷ z ∷ ys) up = (up 0 (omega arith), above_all x (z ∷ ys) skip)
  where
    skip : (k : ℕ) → suc k < length (x ∷ z ∷ ys) → path_cmp (get_or (x ∷ z ∷ ys) k []) (get_or (x ∷ z ∷ ys) (suc k) []) ≡ Less
    skip zero l = nat_list_cmp_total.trans x y z (up 0 (omega arith)) (up 1 (omega arith))
    skip (suc k) l = up (suc (suc k)) (omega (arith, l))

-- paths each of which is greater than the one before are in order
sorted_from : (paths : List (List ℕ)) → ((k : ℕ) → suc k < length paths → path_cmp (get_or paths k []) (get_or paths (suc k) []) ≡ Less) → IsStrictlySortedBy path_cmp paths
unfolding IsStrictlySortedBy
sorted_from [] up = tt
sorted_from (x ∷ paths) up = (above_all x paths up, sorted_from paths (λ k l. up (suc k) (omega (arith, l))))

-- paths
pub paths_from : (g : Network) (m : ℕ → Bool) (paths : List (List ℕ)) → AllPlaces (length paths) (IsGoodPathAt g m paths) → AreGoodPaths g m paths
paths_from g m paths each = record {
  each = λ i d l. subst (IsMonitorPath g m) (get_or_default paths i [] d l) (each i l).path;
  turned = λ i d l. subst EndsAscend (get_or_default paths i [] d l) (each i l).turned;
  ascending = sorted_from paths (λ k l. let e : suc k - 1 ≡ k = omega arith in rw e at ((each (suc k) l).above (omega arith)));
}

-- recipes
pub recipes_from : (g : Network) (paths : List (List ℕ)) (recipes : List (List Term)) → length recipes ≡ length g.links → AllPlaces (length recipes) (IsGoodRecipeAt g paths recipes) → AreGoodRecipes g paths recipes
recipes_from g paths recipes one_each each = record { one_each = one_each; each = λ i l. (each i l).good }

-- good paths are walks
pub paths_walk : (g : Network) (m : ℕ → Bool) (paths : List (List ℕ)) → AreGoodPaths g m paths → All (IsWalk g) paths
paths_walk g m paths good = λ i d l. (good.each i d l).linked

-- the needs of pockets with one pocket more
pub needs_more : (g : Network) (pockets : List PlanPocket) (i : ℕ) → i < length pockets → needs_of g (pocket_sets (take (i + 1) pockets)) ≡ needs_of g (pocket_sets (take i pockets)) + need_of g (has (pocket_at pockets i).nodes)
needs_more g pockets i l = rw (take_more pockets i (record { need = 0; nodes = [] }) l) (last (take i pockets) (pocket_at pockets i))
  where
    last : (ps : List PlanPocket) (p : PlanPocket) → needs_of g (pocket_sets (ps ++ p ∷ [])) ≡ needs_of g (pocket_sets ps) + need_of g (has p.nodes)
    last [] p = omega arith
    last (q ∷ ps) p = omega (arith, last ps p)

-- the first of them need no more than all
pub needs_front : (g : Network) (pockets : List PlanPocket) (i : ℕ) → needs_of g (pocket_sets (take i pockets)) ≤ needs_of g (pocket_sets pockets)
needs_front g pockets zero = omega arith
needs_front g [] (suc i) = omega arith
needs_front g (p ∷ ps) (suc i) = omega (arith, needs_front g ps i)

-- good pockets show the sum of their needs
sets_at : (pockets : List PlanPocket) (i : ℕ) (d : List ℕ) (e : PlanPocket) → i < length (pocket_sets pockets) → (i < length pockets) × (get_or (pocket_sets pockets) i d ≡ (get_or pockets i e).nodes)
sets_at [] i d e l = absurd (omega (arith, l))
sets_at (p ∷ ps) zero d e l = (omega arith, refl)
sets_at (p ∷ ps) (suc i) d e l = let rest = sets_at ps i d e (omega (arith, l)) in (omega (arith, rest.0), rest.1)

good_show : (g : Network) (forced : List ℕ) (pockets : List PlanPocket) → All (λ k. 0 < length k.nodes) pockets → AreGoodPockets g forced pockets → Shows g (pocket_sets pockets) (needs_of g (pocket_sets pockets))
good_show g forced pockets some good = record {
  pockets = λ i d l.
      let e : PlanPocket = record { need = 0; nodes = d } in
      let at = sets_at pockets i d e l in
      let one = good.each i e at.0 in
      rw at.1 (record { nonempty = filled (get_or pockets i e) (some i e at.0) one; few = one.few });
  disjoint = λ i j d lt l.
      let e : PlanPocket = record { need = 0; nodes = d } in
      let at_j = sets_at pockets j d e l in
      let at_i = sets_at pockets i d e (omega (arith, lt, l)) in
      rw (at_i.1, at_j.1) (good.disjoint i j e lt at_j.0);
  total = refl;
}
  where
    filled : (k : PlanPocket) → 0 < length k.nodes → IsGoodPocket g k → 1 ≤ size g (has k.nodes)
    filled k some one = count-some g.nodes (has k.nodes) (get_or k.nodes 0 0) (one.nodes 0 0 some) (has-at k.nodes 0 0 some)

-- good paths with good recipes identify, so the monitors do
pub good_identify : (g : Network) (p : PlanParts) → AreGoodPaths g (has p.monitors) p.paths → AreGoodRecipes g p.paths p.recipes → Identified g p.paths × Identifies g (has p.monitors)
good_identify g p paths recipes =
    let identified : Identified g p.paths = recipes_identify g p.paths (good_recipes_are g p.paths p.recipes recipes) in
    (identified, λ d e first second same. identified d e first second (λ k q l. same (get_or p.paths k q) (paths.each k q l)))

-- how many the forced nodes and the pockets of a plan show
abbrev pub shown : Network → PlanParts → ℕ
shown g p = length p.forced + needs_of g (pocket_sets p.pockets)

-- the pockets of a good plan bound every set that identifies and holds the forced nodes
pub good_bound : (t : Topo) (p : PlanParts) → IsTopology t → IsWellFormed p → IsGoodPlan t.names t.graph p → (s : ℕ → Bool) → Identifies t.graph s → IsInside t.graph (has p.forced) s → shown t.graph p ≤ size t.graph s
good_bound t p topo formed good s other inside =
    let bound = pockets_bound_beside_forced t.graph (has p.forced) s (pocket_sets p.pockets) _ topo.graph topo.connected (omega (arith, topo.some_nodes))
    (good_show t.graph p.forced p.pockets (λ i d l. (formed.pockets.each i d l).1.0) good.pockets) free other inside in
    omega (arith, bound, count-has t.graph.nodes p.forced good.forced.ascending good.forced.nodes)
  where
    free : All (λ q. Avoids t.graph (has q) (has p.forced)) (pocket_sets p.pockets)
    free i d l =
        let e : PlanPocket = record { need = 0; nodes = d } in
        let at = sets_at p.pockets i d e l in
        rw at.1 (good.pockets.free i e at.0)

-- the bound of a good plan is not above the number of its monitors
pub bound_within : (t : Topo) (p : PlanParts) → IsTopology t → IsWellFormed p → IsGoodPlan t.names t.graph p → shown t.graph p ≤ length p.monitors
bound_within t p topo formed good =
    let bound = good_bound t p topo formed good (has p.monitors) (good_identify t.graph p good.paths good.recipes).1 (λ v node there. All-has (λ u. has p.monitors u ≡ true) p.forced good.forced.are_monitors v there) in
    omega (arith, bound, count-has t.graph.nodes p.monitors good.monitors.ascending good.monitors.nodes)

-- a good plan has no more monitors than a topology has nodes
pub monitors_few : (t : Topo) (p : PlanParts) → IsTopology t → IsGoodPlan t.names t.graph p → length p.monitors ≤ node_limit
monitors_few t p topo good = omega (arith, count-has t.graph.nodes p.monitors good.monitors.ascending good.monitors.nodes, count-le t.graph.nodes (has p.monitors), topo.few_nodes)

-- ---- with what was read in the place of the parts

pub forced_read : (g : Network) (n : ℕ) (given monitors set read forced : List ℕ) → n ≡ g.nodes → given ≡ monitors → read ≡ forced → HasBelow n given (has set) → AllPlaces (length read) (IsChosenAt n (has set) true read) → AreGoodForced g monitors forced
forced_read g n given monitors set read forced nodes list row_list below each = forced_from g monitors forced (forced_all g.nodes monitors (has set) (rw (nodes, list) at below) forced (rw (nodes, row_list) at each))

pub barred_read : (g : Network) (n : ℕ) (given monitors set forced read barred : List ℕ) → n ≡ g.nodes → given ≡ monitors → read ≡ barred → HasBelow n given (has set) → AreGoodForced g monitors forced → AllPlaces (length read) (IsChosenAt n (has set) false read)
    → AreGoodBarred g forced monitors barred
barred_read g n given monitors set forced read barred nodes list row_list below good each =
    barred_from g forced monitors barred (barred_all g.nodes monitors (has set) (rw (nodes, list) at below) forced barred good.are_monitors (rw (nodes, row_list) at each))

pub barred_fault : (g : Network) (n : ℕ) (given monitors set forced read barred : List ℕ) (i : ℕ) → n ≡ g.nodes → given ≡ monitors → read ≡ barred → HasBelow n given (has set) → AreGoodForced g monitors forced
    → IsFirstBad (length read) (IsChosenAt n (has set) false read) i → IsFirstBad (length barred) (IsGoodBarredAt g.nodes forced monitors barred) i
barred_fault g n given monitors set forced read barred i nodes list row_list below good first = barred_first g.nodes monitors (has set) (rw (nodes, list) at below) forced barred i good.are_monitors (rw (nodes, row_list) at first)

pub pockets_read : (g h : Network) (forced : List ℕ) (pockets : List PlanPocket) → h ≡ g → AllPlaces (length pockets) (IsGoodPocketAt h forced pockets) → AreGoodPockets g forced pockets
pockets_read g h forced pockets graph each = pockets_from g forced pockets (rw graph at each)

pub paths_read : (g h : Network) (set given monitors : List ℕ) (read paths : List (List ℕ)) → h ≡ g → set ≡ given → given ≡ monitors → read ≡ paths → AllPlaces (length read) (IsGoodPathAt h (has set) read) → AreGoodPaths g (has monitors) paths
paths_read g h set given monitors read paths graph copied list pool each = paths_from g (has monitors) paths (rw (pool, copied, list, graph) at each)
