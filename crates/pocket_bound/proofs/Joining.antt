-- Labels that the nodes of a home have, and a new label for all nodes with one of them.
use Rattle.std.proofs.Common.{◌⊎◌, slice_index, ℕ, ◌≡◌, ◌+◌, ◌<◌, ◌≤◌, ◌↔◌, ◌||◌, ◌==◌, Bool, true, false, List, length, get_or, take, set, replicate, IsTrue, inl, inr, refl, sym, ◌∙◌, subst, arith, get_or-set_same, get_or-set_other}
use Rattle.std.proofs.lemmas.Bool.{true≢false, cases_eq, or_cases, or_left, or_right, eqb-true, eq-eqb}
use Rattle.tomo_base.specs.Search.{mark_of}
use Rattle.tomo_base.specs.Sets.{has}
use Rattle.tomo_base.proofs.Ascending.{has-more}
use Rattle.ident_laws.specs.Labels.{IsMet, AreJoined}
use Rattle.tomo_base.proofs.Marks.{bare_mark}

-- the first of the list, and the next
pub has_next : (xs : List ℕ) (i d w : ℕ) → i < length xs → has (take (i + 1) xs) w ≡ ((get_or xs i d == w) || has (take i xs) w)
has_next xs i d w l = sym (has-more (has (take i xs)) (λ v. false) xs i d (get_or xs i d) w l refl refl)

-- exactly the labels above 0 of the nodes of the set are marked
abbrev pub AreMet : ℕ → (ℕ → ℕ) → (ℕ → Bool) → List Bool → Type 0
AreMet n label s marks = (l : ℕ) → IsTrue (mark_of marks l) ↔ IsMet n label s l

-- and a set without nodes has no labels
pub met_none : (n k : ℕ) (label : ℕ → ℕ) (s : ℕ → Bool) → ((v : ℕ) → s v ≡ false) → AreMet n label s (replicate k false)
met_none n k label s none l = ((λ h. absurd (true≢false (sym h ∙ bare_mark k l))), (λ met. absurd (true≢false (sym met.3 ∙ none met.1))))

module _ (n : ℕ) (label : ℕ → ℕ) (s next : ℕ → Bool) (v : ℕ) (lt : v < n) (one : (w : ℕ) → next w ≡ ((v == w) || s w)) (marks : List Bool) (are : AreMet n label s marks) where
  -- what the set meets the next meets
  still : (l : ℕ) → IsMet n label s l → IsMet n label next l
  still l met = (met.0, met.1, met.2, one met.1 ∙ or_right (v == met.1) (s met.1) met.3, met.4)

  -- and beside it the label of the new node alone
  only_new : (l : ℕ) → IsMet n label next l → (label v ≡ l → ⊥) → IsMet n label s l
  only_new l met other = elim (or_cases (v == met.1) (s met.1) (sym (one met.1) ∙ met.3)) [
    | inl e ↦ absurd (other (subst (λ w. label w ≡ l) (sym (eqb-true v met.1 e)) met.4))
    | inr e ↦ (met.0, met.1, met.2, e, met.4)
  ]

  -- the label of the new node is marked
  pub met_more : 1 ≤ label v → label v < length marks → AreMet n label next (set marks (label v) true)
  met_more some room l = elim (cases_eq l (label v)) [
    | inl same ↦ (
      (λ h. (omega (arith, some, same), v, lt, one v ∙ or_left (v == v) (s v) (eq-eqb v v refl), sym same)),
      (λ met. rw same (get_or-set_same marks (label v) true false room)),
    )
    | inr ne ↦ (
      (λ h. still l ((are l).0 (sym (get_or-set_other marks (label v) l true false ne) ∙ h))),
      (λ met. get_or-set_other marks (label v) l true false ne ∙ (are l).1 (only_new l met (λ e. ne (sym e)))),
    )
  ]

  -- unless it is 0
  pub met_same : label v ≡ 0 → AreMet n label next marks
  met_same zero_label l = ((λ h. still l ((are l).0 h)), (λ met. (are l).1 (only_new l met (λ e. omega (arith, e, zero_label, met.0)))))

-- what a set joins a set with the same nodes joins
pub same_joined : (n : ℕ) (label : ℕ → ℕ) (s t : ℕ → Bool) (c : ℕ) (next : ℕ → ℕ) → ((v : ℕ) → t v ≡ s v) → AreJoined n label s c next → AreJoined n label t c next
same_joined n label s t c next same joined v l = elim (joined v l) [
  | inl x ↦ inl (elim x.0 [ inl h ↦ inl (same v ∙ h) | inr met ↦ inr (met.0, met.1, met.2, same met.1 ∙ met.3, met.4) ], x.1)
  | inr x ↦ inr (same v ∙ x.0, (λ met. x.1 (met.0, met.1, met.2, sym (same met.1) ∙ met.3, met.4)), x.2)
]

-- the new labels of the nodes before v, and the old ones of the others
pub record AreJoinedTo (old : List ℕ) (s : ℕ → Bool) (c v : ℕ) (new : List ℕ) : Type 0 where
  pub before : (w : ℕ) → w < v → ((IsTrue (s w) ⊎ IsMet (length old) (slice_index old) s (slice_index old w)) × (slice_index new w ≡ c)) ⊎
      ((s w ≡ false) × (IsMet (length old) (slice_index old) s (slice_index old w) → ⊥) × (slice_index new w ≡ slice_index old w))
  pub after : (w : ℕ) → v ≤ w → slice_index new w ≡ slice_index old w
