-- A good plan has no fault.
use Rattle.std.proofs.Common.{◌≡◌, ap, ℕ, ◌-◌, ◌<◌, ◌⊎◌, List, [], length, slice_get, arith, inl, inr}
use Rattle.std.proofs.lemmas.Map.Keys.{Less-from_sorted}
use Rattle.tomo_base.specs.Network.{Network}
use Rattle.tomo_base.specs.Sets.{has}
use Rattle.simple_path.specs.declared.recipe.Term.{Term}
use Rattle.plan_form.specs.Good.{AreGoodPockets, AreGoodPaths, AreGoodRecipes}
use Rattle.plan_form.specs.Order.{path_cmp}
use Rattle.plan_form.specs.Parts.{PlanPocket}
use Rattle.cert_check.specs.declared.report.Fault.TheVariants.{Names, Links, Must, Not, Monitor, Pocket, Path, Recipe}
use Rattle.cert_check.specs.Faults.{AgreeAt, IsGoodPocketAt, IsGoodPathAt, IsGoodRecipeAt}
use Rattle.cert_check.specs.Laws.{GoodHasNoFault}
use Rattle.cert_check.proofs.Chosen.{forced_at, barred_at}
use Rattle.cert_check.proofs.Places.{ascending_at}

-- equal lists agree at each place
agree_at : {A : Type 0} (xs ys : List A) (i : ℕ) → xs ≡ ys → AgreeAt xs ys i
agree_at xs ys i same = ap (λ zs. slice_get zs i) same

-- good pockets are good at each place
pockets_at : (g : Network) (forced : List ℕ) (pockets : List PlanPocket) (i : ℕ) → i < length pockets → AreGoodPockets g forced pockets → IsGoodPocketAt g forced pockets i
pockets_at g forced pockets i l good =
    let none : PlanPocket = record { need = 0; nodes = [] } in
    record { good = good.each i none l; free = good.free i none l; apart = λ j lt. good.disjoint j i none lt l }

-- good paths are good at each place
paths_at : (g : Network) (monitors : List ℕ) (paths : List (List ℕ)) (i : ℕ) → i < length paths → AreGoodPaths g (has monitors) paths → IsGoodPathAt g (has monitors) paths i
paths_at g monitors paths i l good = record {
  path = good.each i [] l;
  turned = good.turned i [] l;
  above = λ some. Less-from_sorted path_cmp paths (i - 1) i [] good.ascending (omega (arith, some)) l;
}

-- and good recipes, of which there are as many as links
recipes_at : (g : Network) (paths : List (List ℕ)) (recipes : List (List Term)) (i : ℕ) → (i < length g.links) ⊎ (i < length recipes) → AreGoodRecipes g paths recipes → IsGoodRecipeAt g paths recipes i
recipes_at g paths recipes i either good =
    let stands : i < length recipes = elim either [ inl link ↦ omega (arith, link, good.one_each) | inr recipe ↦ recipe ] in
    record { is_link = omega (arith, stands, good.one_each); stands = stands; good = good.each i stands }

-- so none is at fault
pub no_fault : GoodHasNoFault
no_fault t p (Names i) good fault = fault.1 (agree_at p.names t.names i good.names)
no_fault t p (Links i) good fault = fault.1.1 (agree_at p.links t.graph.links i good.links)
no_fault t p (Must i) good fault = fault.1.1.1 (forced_at t.graph p.monitors p.forced good.forced i fault.1.0)
no_fault t p (Not i) good fault = fault.2.1.1 (barred_at t.graph p.forced p.monitors p.barred good.barred i fault.2.0)
no_fault t p (Monitor i) good fault = fault.3.1.1 (ascending_at t.graph.nodes p.monitors good.monitors.nodes good.monitors.ascending i fault.3.0)
no_fault t p (Pocket i) good fault = fault.1.1.1 (pockets_at t.graph p.forced p.pockets i fault.1.0 good.pockets)
no_fault t p (Path i) good fault = fault.2.1.1 (paths_at t.graph p.monitors p.paths i fault.2.0 good.paths)
no_fault t p (Recipe i) good fault = fault.4.1 (recipes_at t.graph p.paths p.recipes i fault.3 good.recipes)
