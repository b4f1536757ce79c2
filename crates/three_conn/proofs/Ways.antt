-- Two ways up in a tree, step by step until they meet.
use Rattle.std.proofs.Common.{◌≡◌, ℕ, ◌<◌, ◌⊎◌, false, ◌==◌, List, [], ◌∷◌, ◌++◌, IsTrue, refl, sym, ap, ◌∙◌, inl, inr, arith}
use Rattle.std.proofs.lemmas.Bool.{true≢false, or_cases, eqb-true}
use Rattle.tomo_base.specs.Sets.{has}
use Rattle.tomo_base.specs.Search.{entry_at}
use Rattle.tomo_base.specs.declared.search.Swept.{Swept}
use Rattle.tomo_base.proofs.Members.{has-append, none_in}
use Rattle.gate_search.specs.Trees.{IsRanked, IsTree, GoesUpTo}
use Rattle.three_conn.specs.WaysUp.{IsWayUp}

-- a number of a list with one more stands in the list, or is the new one
in_pushed : (p : List ℕ) (u v : ℕ) → IsTrue (has (p ++ u ∷ []) v) → IsTrue (has p v) ⊎ (v ≡ u)
unfolding has
in_pushed p u v h = elim (or_cases (has p v) (has (u ∷ []) v) (sym (has-append p (u ∷ []) v) ∙ h)) [
  | inl old ↦ inl old
  | inr new ↦ elim (or_cases (u == v) false new) [ inl e ↦ inr (sym (eqb-true u v e)) | inr e ↦ absurd (true≢false (sym e)) ]
]

-- a way goes one step further up
way_more : (parent : List ℕ) (y : ℕ) (p : List ℕ) (u : ℕ) → GoesUpTo parent y p u → GoesUpTo parent y (p ++ u ∷ []) (entry_at parent u)
way_more parent y [] u h = (h, refl)
way_more parent y (x ∷ p) u h = (h.0, way_more parent (entry_at parent x) p u h.1)

-- at the start neither way has a step
pub ways_none : (s : Swept) (y z : ℕ) → IsWayUp s y z y z
ways_none s y z = record {
  first = [];
  second = [];
  first_leads = refl;
  second_leads = refl;
  apart = λ v h k. none_in v h;
  above = λ w h. absurd (elim h [ inl k ↦ none_in w k | inr k ↦ none_in w k ]);
}

-- the two ways may be exchanged
pub ways_turned : (s : Swept) (y z u v : ℕ) → IsWayUp s y z u v → IsWayUp s z y v u
ways_turned s y z u v ways = record {
  first = ways.second;
  second = ways.first;
  first_leads = ways.second_leads;
  second_leads = ways.first_leads;
  apart = λ w h k. ways.apart w k h;
  above = λ w h. let old = ways.above w (elim h [ inl k ↦ inr k | inr k ↦ inl k ]) in (old.0, old.2, old.1);
}

-- the one that stands at the later place goes up
pub ways_first : (s : Swept) (y z u v : ℕ) → IsTree s → IsRanked s u → entry_at s.rank.items v < entry_at s.rank.items u → IsWayUp s y z u v
    → IsRanked s (entry_at s.parent.items u) × (entry_at s.rank.items (entry_at s.parent.items u) < entry_at s.rank.items u) × IsWayUp s y z (entry_at s.parent.items u) v
ways_first s y z u v tree ranked later ways =
    let up = tree.up u ranked (omega (arith, later)) in
    let old : (w : ℕ) → IsTrue (has ways.first w) ⊎ IsTrue (has ways.second w) → IsRanked s w × (entry_at s.rank.items (entry_at s.parent.items u) < entry_at s.rank.items w) × (entry_at s.rank.items v < entry_at s.rank.items w) =
    λ w h. let at = ways.above w h in (at.0, omega (arith, at.1, up.1), at.2) in
    let new : (w : ℕ) → w ≡ u → IsRanked s w × (entry_at s.rank.items (entry_at s.parent.items u) < entry_at s.rank.items w) × (entry_at s.rank.items v < entry_at s.rank.items w) =
    λ w same. rw same (ranked, up.1, later) in (
      up.0,
      up.1,
      record {
        first = ways.first ++ u ∷ [];
        second = ways.second;
        first_leads = way_more s.parent.items y ways.first u ways.first_leads;
        second_leads = ways.second_leads;
        apart = λ w h k. elim (in_pushed ways.first u w h) [
          | inl before ↦ ways.apart w before k
          | inr same ↦ let at = ways.above w (inr k) in let equal : entry_at s.rank.items w ≡ entry_at s.rank.items u = ap (entry_at s.rank.items) same in omega (arith, at.1, equal)
        ];
        above = λ w h. elim h [
          | inl k ↦ elim (in_pushed ways.first u w k) [ inl before ↦ old w (inl before) | inr same ↦ new w same ]
          | inr k ↦ old w (inr k)
        ];
      },
    )
