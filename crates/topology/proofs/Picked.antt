-- Which nodes the rows before a place pick by their names, one row on and at the end.
use Rattle.std.proofs.Common.{◌≡◌, ◌≢◌, ℕ, ◌+◌, ◌<◌, ◌≤◌, Bool, false, ◌&&◌, ◌||◌, ◌==◌, nat_lt, List, [], length, take, get_or, slice_get, refl, sym, ap, ◌∙◌, inl, inr, arith, AllPairs, bytes_eq, Some}
use Rattle.std.specs.List.{list_any}
use Rattle.std.specs.List.Sorted.{IsStrictlyIncreasing}
use Rattle.std.proofs.lemmas.Bool.{cases_Bool, cases_eq, cases_lt, false_from_ne_true, ne_eqb, eq-eqb, lt-ltb, le-ltb}
use Rattle.std.proofs.lemmas.List.Folds.{list_any_more}
use Rattle.std.proofs.lemmas.Option.{get_or_from_slice_get, slice_get_within}
use Rattle.std.proofs.lemmas.Slice.Eq.{bytes_eq-Decides}
use Rattle.tomo_base.specs.Sets.{has, members}
use Rattle.tomo_base.proofs.Ascending.{same_list, members_ascend}
use Rattle.tomo_base.proofs.Members.{members_below, has-members}
use Rattle.rows.specs.Rows.{Row}

-- names at two places are different
names_apart : (names : List (List ℕ)) (v w : ℕ) → AllPairs (λ x y. x ≢ y) names → v < length names → w < length names → v ≢ w → get_or names v [] ≢ get_or names w []
names_apart names v w differ lv lw ne same = elim (cases_lt v w) [
  | inl lt ↦ differ v w [] lt lw same
  | inr ge ↦ differ w v [] (omega (arith, ge, ne)) lv (sym same)
]

-- a node has the name of the node v exactly where it is v
pub same_name : (names : List (List ℕ)) (name : List ℕ) (v w : ℕ) → AllPairs (λ x y. x ≢ y) names → slice_get names v ≡ Some name → w < length names → bytes_eq name (get_or names w []) ≡ (v == w)
same_name names name v w differ at within =
    let is : get_or names v [] ≡ name = get_or_from_slice_get names v name [] at in
    elim (cases_eq v w) [
      | inl same ↦ (bytes_eq-Decides name (get_or names w [])).1 (sym is ∙ ap (λ u. get_or names u []) same) ∙ sym (eq-eqb v w same)
      | inr other ↦ false_from_ne_true (bytes_eq name (get_or names w []))
          (λ e. names_apart names v w differ (slice_get_within names v name at) within other (is ∙ (bytes_eq-Decides name (get_or names w [])).0 e)) ∙ sym (ne_eqb v w other)
    ]

module _ (picks : List ℕ → Row → Bool) (names : List (List ℕ)) where
  -- v is a node, and one of the rows picks it by its name
  abbrev pub is_picked : List Row → ℕ → Bool
  is_picked rows v = nat_lt v (length names) && list_any (picks (get_or names v [])) rows

  -- a row more picks the nodes that it picks
  pub picked_more : (rows : List Row) (i w : ℕ) (b : Bool) → i < length rows → (w < length names → picks (get_or names w []) (get_or rows i []) ≡ b) → (length names ≤ w → b ≡ false)
      → (b || is_picked (take i rows) w) ≡ is_picked (take (i + 1) rows) w
  picked_more rows i w b within here past = elim (cases_lt w (length names)) [
    | inl lt ↦ rw (lt-ltb w (length names) lt, list_any_more (picks (get_or names w [])) rows i [] within, here lt) (turned b _)
    | inr ge ↦ rw (past ge, le-ltb w (length names) ge) refl
  ]
    where
      turned : (a c : Bool) → (a || c) ≡ (c || a)
      turned a c = grind arith

  -- no row picks no node
  pub picked_none : (w : ℕ) → has [] w ≡ is_picked [] w
  unfolding has
  picked_none w = elim (cases_Bool (nat_lt w (length names))) [ inl e ↦ rw e refl | inr e ↦ rw e refl ]

  -- an ascending list of the nodes that the rows pick is their list
  pub picked_are : (rows : List Row) (set : List ℕ) → IsStrictlyIncreasing set → ((w : ℕ) → has set w ≡ is_picked rows w) → set ≡ members (length names) (λ v. list_any (picks (get_or names v [])) rows)
  picked_are rows set up are = same_list set (members (length names) _) up (members_ascend (length names) _) (λ w. are w ∙ elim (cases_lt w (length names)) [
    | inl lt ↦ rw (lt-ltb w (length names) lt) (sym (has-members (length names) _ w lt))
    | inr ge ↦ rw (le-ltb w (length names) ge) (sym (members_below (length names) _ w ge))
  ])
