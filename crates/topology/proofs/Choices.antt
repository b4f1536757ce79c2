-- What the rows before a place choose, one row on and at the end.
use Rattle.std.proofs.Common.{◌≡◌, ℕ, ◌+◌, ◌<◌, ◌≤◌, true, false, not, ◌||◌, ◌==◌, List, [], length, take, get_or, slice_get, refl, sym, ap, ◌∙◌, inl, inr, arith, bytes_eq, Some, None, IsTrue}
use Rattle.std.specs.List.{list_any}
use Rattle.std.specs.List.Sorted.{IsStrictlyIncreasing}
use Rattle.std.proofs.lemmas.Bool.{cases_eq, ne_eqb, lt-ltb, le-ltb, true≢false, or_cases, eqb-true}
use Rattle.std.proofs.lemmas.List.{take_all}
use Rattle.std.proofs.lemmas.List.Folds.{list_any-from_Any}
use Rattle.std.proofs.lemmas.Option.{get_or_from_slice_get, slice_get_within}
use Rattle.std.proofs.lemmas.Slice.Eq.{bytes_eq-Decides}
use Rattle.tomo_base.specs.Sets.{has, Apart}
use Rattle.tomo_base.proofs.Ascending.{All_inserted}
use Rattle.rows.specs.Rows.{Row}
use Rattle.topology.specs.declared.choice.Choice.{Choice}
use Rattle.topology.specs.declared.choice.Wish.{Wish}
use Rattle.topology.specs.declared.choice.Wish.TheVariants.{Must, Not}
use Rattle.topology.specs.declared.faults.ChoiceFault.TheVariants.{Width, Word, Unknown, Clash}
use Rattle.topology.specs.Names.{name_at}
use Rattle.topology.specs.Topology.{Topo, IsTopology}
use Rattle.topology.specs.Choice.{wish_of, opposite, is_wish, says, chosen, choice_of, choice_fault, choice_fault_at, AreFineChoices, HasWish, IsChosen, wished, IsChoiceOf}
use Rattle.topology.proofs.Picked.{picked_more, picked_none, picked_are, same_name}

-- ---- the fault of one row

-- a row of fewer than two fields
pub fault_width : (names : List (List ℕ)) (rows : List Row) (i : ℕ) → length (get_or rows i []) < 2 → choice_fault_at names rows i ≡ Some (Width (i + 1))
unfolding choice_fault
fault_width names rows i narrow = rw (lt-ltb (length (get_or rows i [])) 2 narrow) refl

-- a row without a wish
pub fault_word : (names : List (List ℕ)) (rows : List Row) (i : ℕ) → 2 ≤ length (get_or rows i []) → wish_of (get_or rows i []) ≡ None → choice_fault_at names rows i ≡ Some (Word (i + 1))
unfolding choice_fault
fault_word names rows i wide none = rw (le-ltb (length (get_or rows i [])) 2 wide, none) refl

-- a row with a wish for no node
pub fault_unknown : (names : List (List ℕ)) (rows : List Row) (i : ℕ) (wish : Wish) → 2 ≤ length (get_or rows i []) → wish_of (get_or rows i []) ≡ Some wish
    → list_any (bytes_eq (name_at (get_or rows i []) 1)) names ≡ false → choice_fault_at names rows i ≡ Some (Unknown (i + 1))
unfolding choice_fault
fault_unknown names rows i wish wide said none = rw (le-ltb (length (get_or rows i [])) 2 wide, said, none) refl

-- a name that a node has is known
is_known : (names : List (List ℕ)) (name : List ℕ) (v : ℕ) → slice_get names v ≡ Some name → list_any (bytes_eq name) names ≡ true
is_known names name v at = list_any-from_Any (bytes_eq name) names (v, name, slice_get_within names v name at, get_or_from_slice_get names v _ _ at, (bytes_eq-Decides name name).1 refl)

module _ (t : Topo) (rows : List Row) (i : ℕ) (choice : Choice) (wish : Wish) (v : ℕ) (so_far : IsChoiceOf t (take i rows) choice) (has_wish : HasWish t.names rows i wish v) where
  -- whether an earlier row says the opposite is whether the node was chosen so
  contradicted : list_any (says (opposite wish) (name_at (get_or rows i []) 1)) (take i rows) ≡ has (wished choice (opposite wish)) v
  contradicted =
      let is : get_or t.names v [] ≡ name_at (get_or rows i []) 1 = get_or_from_slice_get t.names v _ [] has_wish.known in
      rw (← is) (sym ((so_far.each (opposite wish)).named v ∙ rw (lt-ltb v (length t.names) (slice_get_within t.names v _ has_wish.known)) refl))

  -- a row with a wish whose opposite was said of the node
  pub fault_clash : has (wished choice (opposite wish)) v ≡ true → choice_fault_at t.names rows i ≡ Some (Clash (i + 1))
  unfolding choice_fault
  fault_clash there = rw (le-ltb (length (get_or rows i [])) 2 has_wish.wide, has_wish.said, is_known t.names _ v has_wish.known, contradicted ∙ there) refl

  -- else the row has no fault
  pub fault_none : has (wished choice (opposite wish)) v ≡ false → choice_fault_at t.names rows i ≡ None
  unfolding choice_fault
  fault_none free = rw (le-ltb (length (get_or rows i [])) 2 has_wish.wide, has_wish.said, is_known t.names _ v has_wish.known, contradicted ∙ free) refl

-- ---- one row on

-- a wish is that wish
wish_is_own : (wish : Wish) → is_wish wish (Some wish) ≡ true
wish_is_own Must = refl
wish_is_own Not = refl

-- a wish is not the opposite wish
wish_is_no_other : (wish : Wish) → is_wish (opposite wish) (Some wish) ≡ false
wish_is_no_other Must = refl
wish_is_no_other Not = refl

-- what holds of a wish and of the opposite one holds of both wishes
of_both : (P : Wish → Type 0) (wish : Wish) → P wish → P (opposite wish) → (u : Wish) → P u
of_both P Must own other Must = own
of_both P Must own other Not = other
of_both P Not own other Must = other
of_both P Not own other Not = own

-- sets of a wish and of the opposite one that are apart are apart in this order
apart_by : (choice : Choice) (wish : Wish) → Apart (has (wished choice wish)) (has (wished choice (opposite wish))) → Apart (has choice.must) (has choice.not)
apart_by choice Must apart = apart
apart_by choice Not apart = λ v m n. apart v n m

apart_of : (choice : Choice) (wish : Wish) → Apart (has choice.must) (has choice.not) → Apart (has (wished choice wish)) (has (wished choice (opposite wish)))
apart_of choice Must apart = apart
apart_of choice Not apart = λ v n m. apart v m n

module _ (t : Topo) (rows : List Row) (i : ℕ) (old new : Choice) (wish : Wish) (v : ℕ) (within : i < length rows) (topology : IsTopology t)
    (so_far : IsChoiceOf t (take i rows) old) (has_wish : HasWish t.names rows i wish v)
    (added : (w : ℕ) → has (wished new wish) w ≡ ((v == w) || has (wished old wish) w)) (up : IsStrictlyIncreasing (wished new wish))
    (kept : wished new (opposite wish) ≡ wished old (opposite wish)) where
  -- the node of the row is a node
  is_node : v < length t.names
  is_node = slice_get_within t.names v _ has_wish.known

  -- the row says its wish of its node alone
  says_own : (w : ℕ) → w < length t.names → says wish (get_or t.names w []) (get_or rows i []) ≡ (v == w)
  says_own w lt = rw (has_wish.said, wish_is_own wish) (same_name t.names _ v w topology.different has_wish.known lt)

  -- the row says the opposite of no node
  says_no_other : (w : ℕ) → says (opposite wish) (get_or t.names w []) (get_or rows i []) ≡ false
  says_no_other w = rw (has_wish.said, wish_is_no_other wish) refl

  -- the nodes of the wish, with that of the row
  own_more : IsChosen t (take (i + 1) rows) wish (wished new wish)
  own_more = record {
    named = λ w. added w ∙ (ap (λ b. (v == w) || b) ((so_far.each wish).named w) ∙ picked_more (says wish) t.names rows i w (v == w) within (says_own w) (λ ge. ne_eqb v w (λ e. omega (arith, is_node, e, ge))));
    below = All_inserted (λ w. w < t.graph.nodes) (wished old wish) (wished new wish) v added (omega (arith, is_node, topology.one_each)) (so_far.each wish).below;
    ascending = up;
  }

  -- the nodes of the opposite wish stay
  other_more : IsChosen t (take (i + 1) rows) (opposite wish) (wished new (opposite wish))
  other_more = let other = so_far.each (opposite wish) in rw kept (record {
    named = λ w. other.named w ∙ picked_more (says (opposite wish)) t.names rows i w false within (λ lt. says_no_other w) (λ ge. refl);
    below = other.below;
    ascending = other.ascending;
  })

  -- the choice of the rows with this one, whose opposite was not said of its node
  pub choice_more : has (wished old (opposite wish)) v ≡ false → IsChoiceOf t (take (i + 1) rows) new
  choice_more free = record {
    each = of_both (λ u. IsChosen t (take (i + 1) rows) u (wished new u)) wish own_more other_more;
    apart = apart_by new wish (λ w own other.
        let before : has (wished old (opposite wish)) w ≡ true = rw kept at other in
        elim (or_cases (v == w) (has (wished old wish) w) (sym (added w) ∙ own)) [
          | inl same ↦ true≢false (sym before ∙ rw (eqb-true v w same) at free)
          | inr there ↦ was_apart w there before
        ]);
  }
    where
      was_apart : Apart (has (wished old wish)) (has (wished old (opposite wish)))
      was_apart = apart_of old wish so_far.apart

-- ---- at the start and at the end

-- no row chooses nothing
pub choice_none : (t : Topo) (choice : Choice) → choice.must ≡ [] → choice.not ≡ [] → IsChoiceOf t [] choice
unfolding has
choice_none t choice must not = record {
  each = of_both (λ u. IsChosen t [] u (wished choice u)) Must (rw must (nothing_chosen Must)) (rw not (nothing_chosen Not));
  apart = rw must (λ v there. absurd (none v there));
}
  where
    nothing_chosen : (wish : Wish) → IsChosen t [] wish []
    nothing_chosen wish = record { named = picked_none (says wish) t.names; below = λ k d l. absurd (omega arith); ascending = λ k l. absurd (omega arith) }

    none : (v : ℕ) → IsTrue (has [] v) → ⊥
    none v there = true≢false (sym there)

-- what all rows choose is the list of the nodes of the wish
choice_is : (t : Topo) (rows : List Row) (i : ℕ) (choice : Choice) (wish : Wish) → length rows ≤ i → IsChoiceOf t (take i rows) choice → wished choice wish ≡ chosen wish t.names rows
unfolding chosen
choice_is t rows i choice wish past is = let own = is.each wish in picked_are (says wish) t.names rows (wished choice wish) own.ascending (λ w. own.named w ∙ rw (take_all i rows past) refl)

-- so the choice is that of all rows
pub choices_are : (t : Topo) (rows : List Row) (i : ℕ) (choice : Choice) → length rows ≤ i → IsChoiceOf t (take i rows) choice → choice ≡ choice_of t.names rows
choices_are t rows i choice past is =
    let must : choice.must ≡ chosen Must t.names rows = choice_is t rows i choice Must past is in
    let not : choice.not ≡ chosen Not t.names rows = choice_is t rows i choice Not past is in
    λ j. record { must = must j; not = not j }

-- a row more without a fault
pub fine_more : (names : List (List ℕ)) (rows : List Row) (i : ℕ) → AreFineChoices names rows i → choice_fault_at names rows i ≡ None → AreFineChoices names rows (i + 1)
fine_more names rows i fine here k before = elim (cases_eq k i) [ inl same ↦ rw same here | inr other ↦ fine k (omega (arith, before, other)) ]
