-- The classes of nodes with one label, one by one, and that they are the home pockets.
use Rattle.std.proofs.Common.{ℕ, ◌≡◌, ◌+◌, ◌<◌, ◌≤◌, ◌&&◌, ◌==◌, nat_lt, Bool, true, List, [], ◌∷◌, ◌++◌, length, get_or, slice_index, All, Any, IsTrue, inl, inr, refl, sym, ap, ◌∙◌, subst, arith}
use Rattle.std.specs.List.Sorted.{IsStrictlyIncreasing}
use Rattle.std.proofs.lemmas.Bool.{true≢false, cases_eq, cases_lt, and_parts, and_from, eqb-true, eq-eqb, ne_eqb, lt-ltb, ltb-true}
use Rattle.std.proofs.Math.ListN.{get_or-map}
use Rattle.std.proofs.lemmas.List.{length-map, get_or_append_left, get_or_past, length-append}
use Rattle.std.proofs.lemmas.List.Elements.{All-push}
use Rattle.std.proofs.lemmas.List.Quantifiers.{Any-push, all_pairs_push}
use Rattle.tomo_base.specs.declared.pocket.Pocket.{Pocket}
use Rattle.tomo_base.specs.Network.{Network}
use Rattle.tomo_base.specs.Sets.{has, minus}
use Rattle.tomo_base.specs.Pockets.{AreHomePockets}
use Rattle.tomo_base.proofs.Ascending.{place_in, has-at, All-from_has}
use Rattle.tomo_base.proofs.Ranges.{below-all}
use Rattle.tomo_base.proofs.Counts.{find}
use Rattle.tomo_base.proofs.Members.{first_least}
use Rattle.ident_laws.specs.Labels.{LabelsEnd}
use Rattle.pocket_bound.specs.HomeLabels.{AreHomeLabels}
use Rattle.pocket_bound.specs.Classes.{sets_of, IsFirst, IsClass, AreClasses}

-- only nodes have a label above 0
labelled_below : (labels : List ℕ) (v : ℕ) → 1 ≤ slice_index labels v → v < length labels
labelled_below labels v one = elim (cases_lt v (length labels)) [ inl l ↦ l | inr past ↦ absurd (omega (arith, one, get_or_past labels v 0 past)) ]

module _ (labels : List ℕ) (v : ℕ) (p : List ℕ) (first : IsFirst labels v) (up : IsStrictlyIncreasing p)
    (is : (u : ℕ) → has p u ≡ (nat_lt u (length labels) && (slice_index labels u == slice_index labels v))) where
  -- the list has the node
  has_it : has p v ≡ true
  has_it = is v ∙ and_from (nat_lt v (length labels)) (slice_index labels v == slice_index labels v) (lt-ltb v (length labels) (labelled_below labels v first.0)) (eq-eqb (slice_index labels v) (slice_index labels v) refl)

  -- so it is not empty
  pub class_filled : 0 < length p
  class_filled = let at = place_in p v has_it in omega (arith, at.1)

  -- and its nodes have labels
  pub class_nodes : All (λ u. u < length labels) p
  class_nodes = All-from_has (λ u. u < length labels) p (λ u h. ltb-true u (length labels) (and_parts (nat_lt u (length labels)) (slice_index labels u == slice_index labels v) (sym (is u) ∙ h)).0)

  -- the first of a label is the least of its class
  pub class_first : slice_index p 0 ≡ v
  class_first =
      let le : slice_index p 0 ≤ v = first_least p up v has_it in
      let same : slice_index labels (slice_index p 0) ≡ slice_index labels v =
      eqb-true (slice_index labels (slice_index p 0)) (slice_index labels v) (and_parts (nat_lt (slice_index p 0) (length labels)) _ (sym (is (slice_index p 0)) ∙ has-at p 0 0 class_filled)).1 in
      elim (cases_eq (slice_index p 0) v) [ inl e ↦ e | inr ne ↦ absurd (first.1 (slice_index p 0) (omega (arith, le, ne)) same) ]

  -- the list is that class
  pub is_class : IsClass labels p
  is_class = record {
    filled = class_filled;
    labelled = subst (λ u. 1 ≤ slice_index labels u) (sym class_first) first.0;
    same = λ u. is u ∙ (below u ∙ ap (λ w. slice_index labels u == slice_index labels w) (sym class_first));
    sorted = up;
  }
    where
      below : (u : ℕ) → (nat_lt u (length labels) && (slice_index labels u == slice_index labels v)) ≡ (slice_index labels u == slice_index labels v)
      below u = below-all (λ w. slice_index labels w == slice_index labels v) (length labels) u (λ past. ne_eqb (slice_index labels u) (slice_index labels v) (λ e. omega (arith, e, get_or_past labels u 0 past, first.0)))

-- no classes before the first node
pub no_classes : (labels : List ℕ) → AreClasses labels 0 []
no_classes labels = record { each = λ k d l. absurd (omega (arith, l)); below = λ k d l. absurd (omega (arith, l)); every = λ u l. absurd (omega (arith, l)); ascending = λ i j d lt l. absurd (omega (arith, l)) }

-- what some element has, some of a longer list has
Any-left : {X : Type 0} (P : X → Type 0) (xs ys : List X) → Any P xs → Any P (xs ++ ys)
Any-left P xs ys any = (any.0, any.1, omega (arith, any.2, length-append xs ys), get_or_append_left xs ys any.1 any.0 any.2 ∙ any.3, any.4)

-- one class more
pub classes_more : (labels : List ℕ) (v : ℕ) (sets : List (List ℕ)) (p : List ℕ) → AreClasses labels v sets → IsClass labels p → slice_index p 0 ≡ v → AreClasses labels (v + 1) (sets ++ p ∷ [])
classes_more labels v sets p are class first = record {
  each = All-push (IsClass labels) sets p are.each class;
  below = All-push (λ q. slice_index q 0 < v + 1) sets p (λ k d l. omega (arith, are.below k d l)) (omega (arith, first));
  every = λ u l one. elim (cases_eq u v) [
    | inl e ↦ Any-push (λ q. IsTrue (has q u)) sets p (subst (λ w. has p w ≡ true) (first ∙ sym e) (has-at p 0 0 class.filled))
    | inr ne ↦ Any-left (λ q. IsTrue (has q u)) sets (p ∷ []) (are.every u (omega (arith, l, ne)) one)
  ];
  ascending = all_pairs_push (λ q r. slice_index q 0 < slice_index r 0) sets p are.ascending (λ k d l. omega (arith, are.below k d l, first));
}

-- a node that is not the first of its label brings none
pub classes_same : (labels : List ℕ) (v : ℕ) (sets : List (List ℕ)) → AreClasses labels v sets → (IsFirst labels v → ⊥) → AreClasses labels (v + 1) sets
classes_same labels v sets are no_first = record {
  each = are.each;
  below = λ k d l. omega (arith, are.below k d l);
  every = λ u l one. elim (cases_eq u v) [ inl e ↦ subst (λ w. Any (λ q. IsTrue (has q w)) sets) (sym e) (here (subst (λ w. 1 ≤ slice_index labels w) e one)) | inr ne ↦ are.every u (omega (arith, l, ne)) one ];
  ascending = are.ascending;
}
  where
    here : 1 ≤ slice_index labels v → Any (λ q. IsTrue (has q v)) sets
    here one = elim (find v (λ u. slice_index labels u == slice_index labels v)) [
      | inl found ↦
          let same : slice_index labels found.0 ≡ slice_index labels v = eqb-true (slice_index labels found.0) (slice_index labels v) found.2 in
          let any = are.every found.0 found.1 (omega (arith, same, one)) in
          let class : IsClass labels any.1 = subst (IsClass labels) any.3 (are.each any.0 any.1 any.2) in
          (any.0, any.1, any.2, any.3, class.same v ∙ (ap (λ l. l == slice_index labels (slice_index any.1 0)) (sym same) ∙ (sym (class.same found.0) ∙ any.4)))
      | inr none ↦ absurd (no_first (one, λ u l e. true≢false (sym (eq-eqb (slice_index labels u) (slice_index labels v) e) ∙ none u l)))
    ]

-- the classes of labels that have gathered all homes are the home pockets
pub classes_are_pockets : (g : Network) (m forced : ℕ → Bool) (b : ℕ) (labels : List ℕ) (sets : List (List ℕ)) → LabelsEnd → AreHomeLabels g m (minus m forced) b labels → AreClasses labels (length labels) sets →
    AreHomePockets g m forced sets
classes_are_pockets g m forced b labels sets law are classes = record {
  home = are.home;
  homes = are.homes;
  each = λ k d l. (let class = classes.each k d l in
      law g are.home (minus m forced) b (slice_index (get_or sets k d) 0) (slice_index labels) (has (get_or sets k d)) are.gather (node (slice_index (get_or sets k d) 0) class.labelled) class.labelled (λ u lu. class.same u));
  every = λ x l k. classes.every x (omega (arith, l, are.one_each)) (are.gather.placed x l k).0;
  nodes = λ k d l. (let class = classes.each k d l in
      All-from_has (λ u. u < g.nodes) (get_or sets k d) (λ u h. node u (subst (λ n. 1 ≤ n) (sym (eqb-true (slice_index labels u) (slice_index labels (slice_index (get_or sets k d) 0)) (sym (class.same u) ∙ h))) class.labelled)));
  sorted = λ k d l. (classes.each k d l).sorted;
  ascending = classes.ascending;
}
  where
    node : (v : ℕ) → 1 ≤ slice_index labels v → v < g.nodes
    node v one = omega (arith, labelled_below labels v one, are.one_each)

-- no class is empty
pub classes_filled : (labels : List ℕ) (v : ℕ) (pockets : List Pocket) → AreClasses labels v (sets_of pockets) → All (λ k. 0 < length k.nodes) pockets
classes_filled labels v pockets are k d l =
    subst (λ xs. 0 < length xs) (get_or-map (λ (p : Pocket). p.nodes) pockets k d) (are.each k d.nodes (omega (arith, l, length-map pockets (λ (p : Pocket). p.nodes)))).filled
