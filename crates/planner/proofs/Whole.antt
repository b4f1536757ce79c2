-- What is built of measured links, monitors and pockets is a plan as promised.
use Rattle.std.proofs.Common.{Ok, Err, Result, IfOk, ◌≡◌, ℕ, ◌-◌, ◌+◌, ◌<◌, ◌≤◌, ◌^◌, Bool, true, false, not, ◌&&◌, List, [], ◌∷◌, length, map, get_or, All, min, refl, sym, ap, ◌∙◌, arith}
use Rattle.std.proofs.lemmas.Bool.{true≢false, false_from_ne_true}
use Rattle.std.proofs.lemmas.List.{get_or-map, length-map}
use Rattle.std.proofs.lemmas.List.Elements.{All-head, All-tail, All-map}
use Rattle.std.specs.List.Sorted.{IsStrictlyIncreasing}
use Rattle.tomo_base.specs.Limits.{node_limit}
use Rattle.tomo_base.specs.declared.pocket.Pocket.{Pocket}
use Rattle.tomo_base.specs.Network.{Network}
use Rattle.tomo_base.specs.Sets.{has, size, one_if, nothing, minus, Avoids, IsInside, Apart}
use Rattle.tomo_base.specs.Identify.{Identifies}
use Rattle.tomo_base.specs.Lowest.{IsLowest, IsLowestAllowed}
use Rattle.tomo_base.specs.Pockets.{IsPocket, Shows, AreHomePockets, need_of, needs_of}
use Rattle.tomo_base.proofs.Members.{count-has}
use Rattle.tomo_base.proofs.Counts.{count-le, count-add}
use Rattle.tomo_base.proofs.Ascending.{has-at}
use Rattle.ident_laws.proofs.Recipes.{recipes_identify}
use Rattle.ident_laws.proofs.Shown.{pockets_bound, pockets_bound_beside_forced}
use Rattle.simple_path.specs.declared.recipe.Term.{Term}
use Rattle.topology.specs.declared.choice.Choice.{Choice}
use Rattle.topology.specs.Topology.{Topo, IsTopology}
use Rattle.pocket_bound.specs.Classes.{sets_of}
use Rattle.mmp_place.specs.Rule.{IsPlacedByRule}
use Rattle.plan_form.specs.Parts.{PlanParts}
use Rattle.plan_form.specs.PlanRows.{row_count}
use Rattle.plan_form.specs.Buildable.{as_part, IsBuiltOf}
use Rattle.plan_form.specs.Good.{AreGoodForced, AreGoodBarred, IsGoodPocket, AreGoodPockets, AreGoodRecipes, pocket_sets}
use Rattle.plan_form.proofs.Recipes.{good_recipes_are}
use Rattle.plan_form.specs.Tied.{AreTied}
use Rattle.plan_form.proofs.Retied.{built_tied, as_many}
use Rattle.stpc_paths.specs.Measures.{AreTreeMeasures}
use Rattle.planner.specs.Planned.{IsSoundPlan, IsPlanned, IsPlanFor, IsPlannedWith}
use Rattle.planner.proofs.Buildable.{stays_few}
use Rattle.planner.proofs.Named.{tied_named}

-- the sets of a plan's pockets are those of the given pockets
sets_same : (pockets : List Pocket) → pocket_sets (map as_part pockets) ≡ sets_of pockets
sets_same [] = refl
sets_same (k ∷ ks) = ap (λ rest. k.nodes ∷ rest) (sets_same ks)

-- pockets need at least as many monitors as there are pockets
few_pockets : (g : Network) (sets : List (List ℕ)) → All (λ p. IsPocket g (has p)) sets → length sets ≤ needs_of g sets
few_pockets g [] each = omega arith
few_pockets g (p ∷ ps) each =
    let first = All-head (λ (p : List ℕ). IsPocket g (has p)) p ps each in
    omega (arith, needs_one (size g (has p)) _ first.nonempty first.few, few_pockets g ps (All-tail (λ (p : List ℕ). IsPocket g (has p)) p ps each))
  where
    needs_one : (a b : ℕ) → 1 ≤ a → b ≤ 2 → 1 ≤ min a (3 - b)
    needs_one a b some few = omega arith

-- pockets that show a bound and hold no forced node, with ascending nodes and their needs, are good
good_pockets : (g : Network) (m : ℕ → Bool) (forced : List ℕ) (k : ℕ) (pockets : List Pocket) → AreHomePockets g m (has forced) (sets_of pockets) → Shows g (sets_of pockets) k
    → All (λ q. Avoids g (has q) (has forced)) (sets_of pockets) → All (λ k. k.need ≡ need_of g (has k.nodes)) pockets → AreGoodPockets g forced (map as_part pockets)
good_pockets g m forced k pockets homes shows free needs =
    let set_of : Pocket → List ℕ = λ k. k.nodes in
    let size = length-map pockets set_of in
    record {
      each = All-map (IsGoodPocket g) as_part pockets (λ i d l.
          let at = get_or-map set_of pockets i d [] l in
          let there : i < length (sets_of pockets) = omega (arith, l, size) in
          record {
            nodes = rw at at (homes.nodes i [] there);
            ascending = rw at at (homes.sorted i [] there);
            few = (rw at at (shows.pockets i [] there)).few;
            need = needs i d l;
          });
      free = All-map (λ p. Avoids g (has p.nodes) (has forced)) as_part pockets (λ i d l. let at = get_or-map set_of pockets i d [] l in rw at at (free i [] (omega (arith, l, size))));
      disjoint = λ i j d lt l.
          let in_j : j < length pockets = omega (arith, l, length-map pockets as_part) in
          let in_i : i < length pockets = omega (arith, lt, in_j) in
          let e : Pocket = record { nodes = d.nodes; need = d.need } in
          rw (get_or-map as_part pockets i e d in_i, get_or-map as_part pockets j e d in_j)
          (rw (get_or-map set_of pockets i e [] in_i, get_or-map set_of pockets j e [] in_j) at (shows.disjoint i j [] lt (omega (arith, in_j, size))));
    }

-- no pockets are good pockets
pub none_good : (g : Network) (forced : List ℕ) → AreGoodPockets g forced []
none_good g forced = record { each = λ i d l. absurd (omega (arith, l)); free = λ i d l. absurd (omega (arith, l)); disjoint = λ i j d lt l. absurd (omega (arith, l)) }

-- no forced nodes are good
none_forced : (g : Network) (m : List ℕ) → AreGoodForced g m []
none_forced g m = record { nodes = λ i d l. absurd (omega (arith, l)); ascending = λ i l. absurd (omega (arith, l)); are_monitors = λ i d l. absurd (omega (arith, l)) }

-- no barred nodes are good
none_barred : (g : Network) (m : List ℕ) → AreGoodBarred g [] m []
none_barred g m =
    record { nodes = λ i d l. absurd (omega (arith, l)); ascending = λ i l. absurd (omega (arith, l)); unforced = λ i d l. absurd (omega (arith, l)); no_monitors = λ i d l. absurd (omega (arith, l)) }

module _ (t : Topo) (must never m : List ℕ) (pockets : List Pocket) (topo : IsTopology t) (below : All (λ v. v < t.graph.nodes) m) (up : IsStrictlyIncreasing m)
    (forced : AreGoodForced t.graph m must) (barred : AreGoodBarred t.graph must m never) (good : AreGoodPockets t.graph must (map as_part pockets))
    (pool : List (List ℕ)) (old : List (List Term)) (measured : AreTreeMeasures t.graph (has m) pool old) (p : PlanParts) (built : IsBuiltOf t must never m pockets pool old p) where
  -- the recipes of the plan are tied
  tied : AreTied t.graph.links p.paths p.recipes
  tied = built_tied t.graph.links pool old p.paths p.recipes (λ i l. (measured.each i l).names) built.built measured.tied

  -- as many paths as links
  one_path : length p.paths ≡ length t.graph.links
  one_path = omega (arith, built.few, as_many t.graph.links pool old p.paths p.recipes (λ i l. (measured.each i l).names) built.built measured.tied, measured.one_path)

  -- a good recipe for each link
  recipes : AreGoodRecipes t.graph p.paths p.recipes
  recipes = record {
    one_each = built.built.one_each ∙ measured.one_recipe;
    each = λ i l. let lt : i < length old = omega (arith, l, built.built.one_each) in built.recipes i lt (measured.each i lt).recipe;
  }

  -- what is built of measured links, with good nodes and pockets, is sound
  pub sound : IsSoundPlan t.names t.graph p
  sound = record {
    formed = built.formed;
    good = record {
      names = built.names;
      links = built.links;
      forced = rw (built.forced, built.monitors) forced;
      barred = rw (built.forced, built.barred, built.monitors) barred;
      monitors = rw built.monitors (record { nodes = below; ascending = up });
      pockets = rw (built.forced, built.pockets) good;
      paths = rw built.monitors built.paths;
      recipes = recipes;
    };
    one_path = one_path ∙ sym (ap (λ xs. length xs) built.links);
    few_paths = omega (arith, one_path, ap (λ xs. length xs) built.links);
    none_idle = tied_named t.graph.links p.paths p.recipes tied;
    few_terms = λ i l.
        let lt : i < length old = omega (arith, l, built.built.one_each) in
        stays_few t.graph i pool p.paths (get_or old i []) (get_or p.recipes i []) (measured.each i lt) (built.built.recipes i lt);
    tied = rw built.links tied;
    identified = recipes_identify t.graph p.paths (good_recipes_are t.graph p.paths p.recipes recipes);
  }

  -- its pockets are those given
  pub sets : pocket_sets p.pockets ≡ sets_of pockets
  sets = ap pocket_sets built.pockets ∙ sets_same pockets

  -- an ascending list of nodes is no longer than there are nodes
  few_nodes : (xs : List ℕ) → All (λ v. v < t.graph.nodes) xs → IsStrictlyIncreasing xs → length xs ≤ t.graph.nodes
  few_nodes xs are ascend = omega (arith, count-has t.graph.nodes xs ascend are, count-le t.graph.nodes (has xs))

  -- it has few rows where it has few pockets
  pub few_rows : length pockets ≤ t.graph.nodes → row_count p < 2 ^ 32
  few_rows few = omega (
    arith,
    ap (λ xs. length xs) built.names,
    ap (λ xs. length xs) built.links,
    topo.one_each,
    topo.few_nodes,
    topo.few_links,
    few_nodes must forced.nodes forced.ascending,
    ap (λ xs. length xs) built.forced,
    few_nodes never barred.nodes barred.ascending,
    ap (λ xs. length xs) built.barred,
    few_nodes m below up,
    ap (λ xs. length xs) built.monitors,
    few,
    ap (λ xs. length xs) built.pockets ∙ length-map pockets as_part,
    one_path,
    recipes.one_each,
  )

-- pockets that show no more than there are nodes are no more than these
few_shown : (g : Network) (k : ℕ) (pockets : List Pocket) → Shows g (sets_of pockets) k → k ≤ g.nodes → length pockets ≤ g.nodes
few_shown g k pockets shows few = omega (arith, length-map pockets (λ (k : Pocket). k.nodes), few_pockets g (sets_of pockets) shows.pockets, shows.total, few)

module _ (t : Topo) (m : List ℕ) (pockets : List Pocket) (topo : IsTopology t) (below : All (λ v. v < t.graph.nodes) m) (up : IsStrictlyIncreasing m)
    (lowest : IsLowest t.graph (has m)) (by_rule : IsPlacedByRule t.graph (has m)) (homes : AreHomePockets t.graph (has m) nothing (sets_of pockets))
    (shows : Shows t.graph (sets_of pockets) (length m)) (needs : All (λ k. k.need ≡ need_of t.graph (has k.nodes)) pockets)
    (pool : List (List ℕ)) (old : List (List Term)) (measured : AreTreeMeasures t.graph (has m) pool old) where
  -- the pockets hold none of no nodes
  free : All (λ q. Avoids t.graph (has q) (has [])) (sets_of pockets)
  unfolding has
  free i d l v lv there = refl

  -- so they are good
  good : AreGoodPockets t.graph [] (map as_part pockets)
  unfolding has
  good = good_pockets t.graph (has m) [] (length m) pockets homes shows free needs

  planned : (p : PlanParts) → IsBuiltOf t [] [] m pockets pool old p → IsPlanned t.names t.graph p
  planned p built =
      let same = sets t [] [] m pockets topo below up (none_forced t.graph m) (none_barred t.graph m) good pool old measured p built in
      record {
        sound = sound t [] [] m pockets topo below up (none_forced t.graph m) (none_barred t.graph m) good pool old measured p built;
        unforced = built.forced;
        unbarred = built.barred;
        lowest = rw built.monitors lowest;
        by_rule = rw built.monitors by_rule;
        homes = rw (built.monitors, same) homes;
        shown = rw (built.monitors, same) shows;
        least = λ s other. rw built.monitors (pockets_bound t.graph s (sets_of pockets) (length m) topo.graph topo.connected (omega (arith, topo.some_nodes)) shows other);
      }

  few : (p : PlanParts) → IsBuiltOf t [] [] m pockets pool old p → row_count p < 2 ^ 32
  few p built = few_rows t [] [] m pockets topo below up (none_forced t.graph m) (none_barred t.graph m) good pool old measured p built
      (few_shown t.graph (length m) pockets shows (omega (arith, count-has t.graph.nodes m up below, count-le t.graph.nodes (has m))))

  -- with the lowest set and its home pockets it is what is promised of a plan
  pub all_planned : {E : Type 0} (r : Result PlanParts E) → IfOk r (IsBuiltOf t [] [] m pockets pool old) → IfOk r (IsPlanned t.names t.graph) × IfOk r (λ p. row_count p < 2 ^ 32)
  all_planned (Err e) built = (tt, tt)
  all_planned (Ok p) built = (planned p built, few p built)

-- without pockets it is what is promised of a plan for given monitors
pub all_planned_for : {E : Type 0} (t : Topo) (m : List ℕ) (pool : List (List ℕ)) (old : List (List Term)) (r : Result PlanParts E) → IsTopology t → All (λ v. v < t.graph.nodes) m → IsStrictlyIncreasing m
    → AreTreeMeasures t.graph (has m) pool old → IfOk r (IsBuiltOf t [] [] m [] pool old) → IfOk r (IsPlanFor t.names t.graph m) × IfOk r (λ p. row_count p < 2 ^ 32)
all_planned_for t m pool old (Err e) topo below up measured built = (tt, tt)
all_planned_for t m pool old (Ok p) topo below up measured built = (
  record {
    sound = sound t [] [] m [] topo below up (none_forced t.graph m) (none_barred t.graph m) (none_good t.graph []) pool old measured p built;
    unforced = built.forced;
    unbarred = built.barred;
    monitors = built.monitors;
    no_pockets = built.pockets;
  },
  few_rows t [] [] m [] topo below up (none_forced t.graph m) (none_barred t.graph m) (none_good t.graph []) pool old measured p built (omega arith),
)

-- a set has the nodes of an inner set, and the others
beside : (g : Network) (m forced : ℕ → Bool) → IsInside g forced m → size g m ≡ size g forced + size g (minus m forced)
beside g m forced inside = count-add g.nodes m forced (minus m forced) (λ v l. either (m v) (forced v) (inside v l))
  where
    either : (a b : Bool) → (b ≡ true → a ≡ true) → one_if a ≡ one_if b + one_if (a && not b)
    either true true h = refl
    either true false h = refl
    either false true h = absurd (true≢false (sym (h refl)))
    either false false h = refl

module _ (t : Topo) (choice : Choice) (m : List ℕ) (pockets : List Pocket) (topo : IsTopology t) (below : All (λ v. v < t.graph.nodes) m) (up : IsStrictlyIncreasing m)
    (must_nodes : All (λ v. v < t.graph.nodes) choice.must) (must_up : IsStrictlyIncreasing choice.must) (not_nodes : All (λ v. v < t.graph.nodes) choice.not) (not_up : IsStrictlyIncreasing choice.not)
    (apart : Apart (has choice.must) (has choice.not)) (lowest : IsLowestAllowed t.graph (Identifies t.graph) (λ v. v) (has choice.must) (has choice.not) (has m))
    (homes : AreHomePockets t.graph (has m) (has choice.must) (sets_of pockets)) (free : All (λ q. Avoids t.graph (has q) (has choice.must)) (sets_of pockets))
    (shows : Shows t.graph (sets_of pockets) (size t.graph (minus (has m) (has choice.must)))) (needs : All (λ k. k.need ≡ need_of t.graph (has k.nodes)) pockets)
    (pool : List (List ℕ)) (old : List (List Term)) (measured : AreTreeMeasures t.graph (has m) pool old) where
  -- the forced nodes are monitors
  forced_good : AreGoodForced t.graph m choice.must
  forced_good = record {
    nodes = must_nodes;
    ascending = must_up;
    are_monitors = λ i d l. lowest.allowed.holds (get_or choice.must i d) (must_nodes i d l) (has-at choice.must i d l);
  }

  -- the barred nodes are not
  barred_good : AreGoodBarred t.graph choice.must m choice.not
  barred_good = record {
    nodes = not_nodes;
    ascending = not_up;
    unforced = λ i d l. false_from_ne_true (has choice.must (get_or choice.not i d)) (λ held. apart (get_or choice.not i d) held (has-at choice.not i d l));
    no_monitors = λ i d l. false_from_ne_true (has m (get_or choice.not i d))
        (λ held. true≢false (sym (has-at choice.not i d l) ∙ lowest.allowed.free (get_or choice.not i d) (not_nodes i d l) held));
  }

  -- the pockets are good
  good_with : AreGoodPockets t.graph choice.must (map as_part pockets)
  good_with = good_pockets t.graph (has m) choice.must _ pockets homes shows free needs

  planned_with : (p : PlanParts) → IsBuiltOf t choice.must choice.not m pockets pool old p → IsPlannedWith t.names t.graph choice p
  planned_with p built =
      let same = sets t choice.must choice.not m pockets topo below up forced_good barred_good good_with pool old measured p built in
      record {
        sound = sound t choice.must choice.not m pockets topo below up forced_good barred_good good_with pool old measured p built;
        forced = built.forced;
        barred = built.barred;
        lowest = rw built.monitors lowest;
        homes = rw (built.monitors, same) homes;
        needed = size t.graph (minus (has m) (has choice.must));
        shown = rw same shows;
        beside_forced = rw (built.forced, built.monitors) (omega (
          arith,
          count-has t.graph.nodes m up below,
          count-has t.graph.nodes choice.must must_up must_nodes,
          beside t.graph (has m) (has choice.must) lowest.allowed.holds,
        ));
        least = λ s other holds. rw built.monitors (omega (
          arith,
          pockets_bound_beside_forced t.graph (has choice.must) s (sets_of pockets) _ topo.graph topo.connected (omega (arith, topo.some_nodes)) shows free other holds,
          count-has t.graph.nodes m up below,
          beside t.graph (has m) (has choice.must) lowest.allowed.holds,
        ));
      }

  few_with : (p : PlanParts) → IsBuiltOf t choice.must choice.not m pockets pool old p → row_count p < 2 ^ 32
  few_with p built = few_rows t choice.must choice.not m pockets topo below up forced_good barred_good good_with pool old measured p built
      (few_shown t.graph _ pockets shows (count-le t.graph.nodes (minus (has m) (has choice.must))))

  -- with the lowest set under the choice and its home pockets it is what is promised of a plan under the choice
  pub all_planned_with : {E : Type 0} (r : Result PlanParts E) → IfOk r (IsBuiltOf t choice.must choice.not m pockets pool old) → IfOk r (IsPlannedWith t.names t.graph choice) × IfOk r (λ p. row_count p < 2 ^ 32)
  all_planned_with (Err e) built = (tt, tt)
  all_planned_with (Ok p) built = (planned_with p built, few_with p built)
