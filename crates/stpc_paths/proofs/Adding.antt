-- Recipes are made link after link; and what is laid is what is promised.
use Rattle.std.proofs.Common.{◌≡◌, ℕ, ◌<◌, List, [], length, get_or, None, ◌∙◌, arith}
use Rattle.simple_path.specs.declared.recipe.Term.{Term}
use Rattle.indep_trees.specs.Trees.{Trees, parent_in, rank_in}
use Rattle.stpc_paths.specs.declared.roots.Root.{Root}
use Rattle.stpc_paths.specs.Roots.{IsOwned}
use Rattle.stpc_paths.specs.Terms.{link_terms}
use Rattle.stpc_paths.specs.Kept.{IsForest, monitor_in, stops_in, AreRoots, ArePathsOf, AreNames, AreTermsOf, name_in}
use Rattle.stpc_paths.specs.Measures.{AreTreeMeasures}
use Rattle.stpc_paths.proofs.Trees.{monitor_path}
use Rattle.stpc_paths.proofs.Laying.{wood, path_is, root_link, root_below, owned_stops}
use Rattle.std.proofs.lemmas.Option.{slice_get_within}
use Rattle.stpc_paths.proofs.PuttingNames.{root_stops}
use Rattle.stpc_paths.proofs.Laid.{Laid}
use Rattle.stpc_paths.proofs.Measured.{laid_measures}

-- the first k recipes
pub record TermsTo (t : Trees) (names : List ℕ) (roots : List Root) (k : ℕ) (recipes : List (List Term)) : Type 0 where
  pub size : length recipes ≡ k
  pub each : (e : ℕ) (d : Root) → e < k → get_or recipes e [] ≡ link_terms (stops_in t) (name_in names) e (get_or roots e d).node (get_or roots e d).other (get_or roots e d).tree

-- what is laid is what is promised
pub all_laid : (t : Trees) (roots : List Root) (names : List ℕ) (paths : List (List ℕ)) (recipes : List (List Term)) → IsForest t → AreRoots t t.graph.links roots → ArePathsOf t roots paths → AreNames t names → AreTermsOf t names roots recipes
    → AreTreeMeasures t.graph (monitor_in t) paths recipes
all_laid t roots names paths recipes is are of_roots named terms =
    let d : Root = record { node = 0; other = 0; tree = None } in
    let root_at : ℕ → Root = λ e. get_or roots e d in
    let inside : (e : ℕ) → e < length t.graph.links → e < length roots = λ e l. omega (arith, l, are.one_each) in
    let owned : (e : ℕ) → e < length t.graph.links → IsOwned (stops_in t) (parent_in t) (rank_in t) (root_at e).node (root_at e).other (root_at e).tree = λ e l.
    let r = root_link t roots e d are (inside e l) in
    let b = root_below t roots e d is are (inside e l) in
    owned_stops t (root_at e).node (root_at e).other (root_at e).tree b.0 b.1 is r.2.owned in
    let laid : Laid t.graph (stops_in t) (rank_in t) (parent_in t) (wood t is) root_at (name_in names) paths recipes = record {
      graph = is.graph;
      root = λ e l at. root_stops t is roots are e d l at (inside e (slice_get_within t.graph.links e l at));
      named = named.each;
      one_path = of_roots.one_each ∙ are.one_each;
      path = λ e l. let b = root_below t roots e d is are (inside e l) in let r = root_link t roots e d are (inside e l) in path_is t is (root_at e) (get_or paths e []) b.0 b.1 r.2.owned (of_roots.each e d (inside e l));
      recipe = λ e l. terms.each e d (inside e l);
    } in
    let all = laid_measures t.graph (stops_in t) (rank_in t) (parent_in t) (wood t is) root_at (name_in names) paths recipes laid owned (terms.one_each ∙ are.one_each) in
    record {
      paths = λ k x l. monitor_path t.graph (monitor_in t) (get_or paths k x) is.graph (all.paths k x l);
      one_path = all.one_path;
      once = all.once;
      one_recipe = all.one_recipe;
      each = all.each;
      tied = all.tied;
    }
