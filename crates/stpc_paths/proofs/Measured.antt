-- What is laid by trees is what is promised: as many paths as links, all different, short recipes, and tied.
use Rattle.std.proofs.Common.{◌≡◌, ℕ, ◌<◌, ◌≤◌, Bool, true, false, not, List, [], ◌∷◌, ◌++◌, length, reverse, get_or, Option, Some, None, pos, refl, sym, subst, inl, inr, arith, All}
use Rattle.std.proofs.lemmas.Bool.{cases_Bool}
use Rattle.std.proofs.lemmas.List.{length-append, get_or_default}
use Rattle.std.proofs.lemmas.List.Elements.{All-nil, All-cons, All-append}
use Rattle.tomo_base.specs.Network.{Network}
use Rattle.tomo_base.specs.Recipes.{gain_of, loss_of}
use Rattle.simple_path.specs.declared.recipe.Term.{Term}
use Rattle.simple_path.specs.Terms.{weighted_by}
use Rattle.cross_links.specs.CrossRecipe.{IsCrossCoefficient}
use Rattle.plan_form.proofs.Tied.{Balances, tied_from_balances, balances_reverse, balances_one}
use Rattle.stpc_paths.specs.declared.roots.Root.{Root}
use Rattle.stpc_paths.specs.Roots.{after, IsOwned}
use Rattle.cross_links.specs.Joining.{term}
use Rattle.stpc_paths.specs.Terms.{sign, node_terms, link_terms}
use Rattle.stpc_paths.specs.Measures.{AreTreeMeasures}
use Rattle.stpc_paths.proofs.Forests.{Forest, after_below}
use Rattle.stpc_paths.proofs.Naming.{name_below}
use Rattle.stpc_paths.proofs.Weighing.{gain_at, loss_at, ends_weigh, free_weigh, inside_weigh, outside_weigh}
use Rattle.stpc_paths.proofs.Laid.{Laid, laid_monitor, laid_balances, laid_recipe}

module _ (m : ℕ → Bool) (name : ℕ → ℕ → ℕ) where
  -- a node has at most three terms
  node_few : (plus : Bool) (i v : ℕ) → length (node_terms m name plus i v) ≤ 3
  node_few plus i v = elim (cases_Bool (m v)) [ inl e ↦ rw e (omega arith) | inr e ↦ rw e (omega arith) ]

  -- so a link has at most seven
  pub link_few : (e v w : ℕ) (t : Option ℕ) → length (link_terms m name e v w t) ≤ 7
  link_few e v w (Some i) = omega (arith, length-append (node_terms m name true i v) (node_terms m name false i w), node_few true i v, node_few false i w)
  link_few e v w None = omega (arith, length-append (node_terms m name false 0 v) (node_terms m name false 1 w), node_few false 0 v, node_few false 1 w)

  module _ (P : Term → Type 0) (each : (plus : Bool) (i v : ℕ) → i < 3 → m v ≡ false → P (term (sign plus) (name i v))) where
    -- what holds of the paths of a node holds of its terms
    node_each : (plus : Bool) (i v : ℕ) → i < 3 → All P (node_terms m name plus i v)
    node_each plus i v l = elim (cases_Bool (m v)) [
      | inl e ↦ rw e (All-nil P)
      | inr e ↦
          let j = after_below i l in
          let third : List Term = term (sign plus) (name (after (after i)) v) ∷ [] in
          let later : List Term = term (sign (not plus)) (name (after i) v) ∷ third in
          rw e (All-cons P (term (sign plus) (name i v)) later (each plus i v l e)
          (All-cons P (term (sign (not plus)) (name (after i) v)) third (each (not plus) (after i) v j e)
          (All-cons P (term (sign plus) (name (after (after i)) v)) [] (each plus (after (after i)) v (after_below (after i) j) e) (All-nil P))))
    ]

    -- so of the terms of a link
    pub link_each : (parent : ℕ → ℕ → ℕ) (number : ℕ → ℕ) (e v w : ℕ) (t : Option ℕ) → P (term (pos 2) e) → IsOwned m parent number v w t → All P (link_terms m name e v w t)
    link_each parent number e v w (Some i) two o = All-append P (node_terms m name true i v) (node_terms m name false i w) (node_each true i v o.0) (node_each false i w o.0)
    link_each parent number e v w None two o = All-cons P (term (pos 2) e) (node_terms m name false 0 v ++ node_terms m name false 1 w) two (All-append P (node_terms m name false 0 v) (node_terms m name false 1 w) (node_each false 0 v (omega arith)) (node_each false 1 w (omega arith)))

  -- the terms of a node add up to 2 at most, and to -1 at least
  node_light : (i v : ℕ) → (gain_at m name (λ k. 1) i v ≤ 2) × (loss_at m name (λ k. 1) i v ≤ 1)
  node_light i v = elim (cases_Bool (m v)) [
    | inl e ↦ (let none = ends_weigh m name (λ k. 1) i v e in (omega (arith, none.0), omega (arith, none.1)))
    | inr e ↦ (let three = free_weigh m name (λ k. 1) i v e in (omega (arith, three.0), omega (arith, three.1)))
  ]

  -- those of a link to 4 and to -4
  pub link_light : (e v w : ℕ) (t : Option ℕ) → (weighted_by gain_of (λ k. 1) (link_terms m name e v w t) ≤ 4) × (weighted_by loss_of (λ k. 1) (link_terms m name e v w t) ≤ 4)
  link_light e v w (Some i) =
      let weigh = inside_weigh m name (λ k. 1) e i v w in
      let a = node_light i v in
      let b = node_light i w in
      (omega (arith, weigh.0, a.0, b.1), omega (arith, weigh.1, a.1, b.0))
  link_light e v w None =
      let weigh = outside_weigh m name (λ k. 1) e v w in
      let a = node_light 0 v in
      let b = node_light 1 w in
      (omega (arith, weigh.0, a.1, b.1), omega (arith, weigh.1, a.0, b.0))

-- 1 and -1 are coefficients
sign_is : (plus : Bool) → IsCrossCoefficient (sign plus)
sign_is true = inr (inl refl)
sign_is false = inr (inr refl)

-- what is promised, for the monitors at which tree paths stop
pub laid_measures : (g : Network) (m : ℕ → Bool) (number : ℕ → ℕ) (parent : ℕ → ℕ → ℕ) (f : Forest g m number parent) (roots : ℕ → Root) (name : ℕ → ℕ → ℕ) (paths : List (List ℕ)) (recipes : List (List Term))
    → Laid g m number parent f roots name paths recipes → ((e : ℕ) → e < length g.links → IsOwned m parent number (roots e).node (roots e).other (roots e).tree) → length recipes ≡ length g.links → AreTreeMeasures g m paths recipes
laid_measures g m number parent f roots name paths recipes h owned size =
    let same : (k : ℕ) (d : List ℕ) → k < length paths → get_or paths k d ≡ get_or paths k [] = λ k d l. get_or_default paths k d [] l in
    record {
      paths = laid_monitor g m number parent f roots name paths recipes h;
      one_path = h.one_path;
      once = λ i j d lt l.
          let in_i : i < length paths = omega (arith, lt, l) in
          let b_i = laid_balances g m number parent f roots name paths recipes h i in_i in
          let b_j = laid_balances g m number parent f roots name paths recipes h j l in
          rw (same i d in_i, same j d l) (
            (λ e. apart i j lt (balances_one g.links recipes (get_or paths j []) i j (subst (λ p. Balances g.links recipes p i) e b_i) b_j)),
            (λ e. apart i j lt (balances_one g.links recipes (reverse (get_or paths j [])) i j (subst (λ p. Balances g.links recipes p i) e b_i) (balances_reverse g.links recipes (get_or paths j []) j b_j))),
          );
      one_recipe = size;
      each = λ e l.
          let lt : e < length g.links = omega (arith, l, size) in
          let r = roots e in
          let terms = h.recipe e lt in
          record {
            names = subst (λ ts. All (λ (t : Term). t.path < length paths) ts) (sym terms) (link_each m name (λ (t : Term). t.path < length paths) (λ plus i v li free. omega (arith, name_below g m number parent f i v (name i v) li (h.named i v li free), h.one_path)) parent number e r.node r.other r.tree (omega (arith, lt, h.one_path)) (owned e lt));
            few = rw terms (link_few m name e r.node r.other r.tree);
            coefficients = subst (λ ts. All (λ (t : Term). IsCrossCoefficient t.coef) ts) (sym terms) (link_each m name (λ (t : Term). IsCrossCoefficient t.coef) (λ plus i v li free. sign_is plus) parent number e r.node r.other r.tree (inl refl) (owned e lt));
            few_gains = rw terms (link_light m name e r.node r.other r.tree).0;
            few_losses = rw terms (link_light m name e r.node r.other r.tree).1;
            recipe = laid_recipe g m number parent f roots name paths recipes h e lt;
          };
      tied = tied_from_balances g.links paths recipes (laid_balances g m number parent f roots name paths recipes h);
    }
  where
    apart : (i j : ℕ) → i < j → i ≡ j → ⊥
    apart i j lt e = omega (arith, lt, e)
