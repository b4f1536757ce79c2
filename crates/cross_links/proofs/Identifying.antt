-- Without a bad part each link has a recipe of at most four monitor paths, so the monitors identify every link.
use Rattle.std.proofs.Common.{ℕ, ◌<◌, ◌≡◌, Bool, true, false, ◌==◌, List, ◌∷◌, length, get_or, ℤ, All, slice_get, Some, IsTrue, sym, ◌∙◌, arith, inl, inr, ext_get_or}
use Rattle.std.proofs.lemmas.Bool.{cases_Bool}
use Rattle.tomo_base.specs.declared.graph.Link.{Link}
use Rattle.tomo_base.specs.Network.{Network, joins, linked, IsGraph}
use Rattle.tomo_base.specs.Identify.{sum_along}
use Rattle.tomo_base.specs.Recipes.{gain_of, loss_of}
use Rattle.tomo_base.specs.BadParts.{NoBadPart}
use Rattle.tomo_base.proofs.Links.{joins_comm, linked_comm}
use Rattle.tomo_base.proofs.Rows.{any_joins-from}
use Rattle.ident_laws.specs.Laws.{NoBadPartIdentifies}
use Rattle.ident_laws.proofs.Recipes.{recipe_sum, same_weighted}
use Rattle.cross_links.specs.CrossRecipe.{IsCrossRecipe}
use Rattle.cross_links.specs.Joining.{one_term, three_terms, four_terms}
use Rattle.cross_links.proofs.Tasks.{differ}
use Rattle.cross_links.proofs.Cases.{second_case, third_case}
use Rattle.tomo_base.proofs.Places.{only_joins, joins_own}
use Rattle.cross_links.proofs.Terms.{by_one, by_three, by_four}

module _ (g : Network) (m : ℕ → Bool) (graph : IsGraph g) (none : NoBadPart g m) where
  -- a link to a monitor
  to_monitor : (i v w : ℕ) → IsTrue (linked g v w) → ((k : ℕ) (x : Link) → slice_get g.links k ≡ Some x → joins x v w ≡ (k == i)) → m v ≡ false → m w ≡ true → (terms : List (ℤ × List ℕ)) × IsCrossRecipe g m i terms
  to_monitor i v w l only plain is =
      let arms = second_case g m graph none v w l plain in
      (three_terms w (v ∷ arms.0) (v ∷ arms.1), by_three g m v w l (differ g graph v w l) i only arms.0 arms.1 plain is arms.2)

  -- a link, by which of its ends are monitors
  recipe_for : (i v w : ℕ) → IsTrue (linked g v w) → ((k : ℕ) (x : Link) → slice_get g.links k ≡ Some x → joins x v w ≡ (k == i)) → (terms : List (ℤ × List ℕ)) × IsCrossRecipe g m i terms
  recipe_for i v w l only = elim (cases_Bool (m v)) [
    | inl mv ↦ elim (cases_Bool (m w)) [
      | inl mw ↦ (one_term v w, by_one g m v w l (differ g graph v w l) i only mv mw)
      | inr pw ↦ to_monitor i w v (linked_comm g v w l) (λ k x e. joins_comm x w v ∙ only k x e) pw mv
    ]
    | inr pv ↦ elim (cases_Bool (m w)) [
      | inl mw ↦ to_monitor i v w l only pv mw
      | inr pw ↦ let arms = third_case g m graph none v w l pv pw in
          (four_terms (v ∷ arms.0) (v ∷ arms.1) (w ∷ arms.2) (w ∷ arms.3), by_four g m v w l (differ g graph v w l) i only arms.0 arms.1 arms.2 arms.3 pv pw arms.4)
    ]
  ]

-- without a bad part each link has a recipe of at most four monitor paths
pub four_path_recipes : (g : Network) (m : ℕ → Bool) (i : ℕ) → IsGraph g → NoBadPart g m → i < length g.links → (terms : List (ℤ × List ℕ)) × IsCrossRecipe g m i terms
four_path_recipes g m i graph none lt =
    let d : Link = record { a = 0; b = 0 } in
    let l : Link = get_or g.links i d in
    let at = joins_own g.links i d lt in
    recipe_for g m graph none i l.a l.b (any_joins-from g.links i l.a l.b at) (only_joins g i l.a l.b graph at)

-- so in every graph a set without a bad part identifies
pub no_bad_part_identifies : (g : Network) → IsGraph g → NoBadPartIdentifies g
no_bad_part_identifies g graph m none = λ d e da ea sums. ext_get_or 0 d e (da.one_each ∙ sym ea.one_each) (λ i l.
    let lt : i < length g.links = omega (arith, da.one_each) in
    let r = four_path_recipes g m i graph none lt in
    let same : All (λ (t : ℤ × List ℕ). sum_along g d t.1 ≡ sum_along g e t.1) r.0 = λ k t b. sums (get_or r.0 k t).1 (r.1.paths k t b) in
    let up = same_weighted gain_of (sum_along g d) (sum_along g e) r.0 same in
    let down = same_weighted loss_of (sum_along g d) (sum_along g e) r.0 same in
    let at_d = recipe_sum g.links i d r.0 da.one_each lt r.1.recipe in
    let at_e = recipe_sum g.links i e r.0 ea.one_each lt r.1.recipe in
    omega (arith, up, down, at_d, at_e))
