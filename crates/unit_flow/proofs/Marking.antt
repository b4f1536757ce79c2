-- Marks of the nodes of a list, and the nodes that are marked.
use Rattle.std.proofs.Common.{refl, ◌≡◌, ℕ, ◌+◌, ◌<◌, ◌≤◌, Bool, true, false, not, ◌&&◌, ◌||◌, ◌==◌, List, [], ◌∷◌, All, length, get_or, set, take, sym, ap, ◌∙◌, inl, inr, arith, get_or-set_same, get_or-set_other}
use Rattle.std.proofs.lemmas.Bool.{cases_eq, eq-eqb, ne_eqb, and_parts}
use Rattle.std.proofs.lemmas.List.{take_more, get_or_past}
use Rattle.tomo_base.specs.Search.{mark_of}
use Rattle.tomo_base.specs.Sets.{has, without}
use Rattle.tomo_base.proofs.Members.{has-append}
use Rattle.tomo_base.proofs.Ascending.{All-has, All-from_has, has-more}

-- one mark more
mark_set : (marks : List Bool) (v w : ℕ) → v < length marks → mark_of (set marks v true) w ≡ ((v == w) || mark_of marks w)
mark_set marks v w l = elim (cases_eq w v) [
  | inl same ↦ rw (eq-eqb v w (sym same)) (ap (mark_of (set marks v true)) same ∙ get_or-set_same marks v true false l)
  | inr ne ↦ rw (ne_eqb v w (λ e. ne (sym e))) (get_or-set_other marks v w true false ne)
]

-- no node of the list so far
pub marks_none : (marks : List Bool) (w : ℕ) → mark_of marks w ≡ (mark_of marks w || has [] w)
unfolding has
marks_none marks w = grind arith

-- one node more of the list is marked
pub marks_more : (marks old : List Bool) (xs : List ℕ) (i d v w : ℕ) → i < length xs → v ≡ get_or xs i d → v < length marks → mark_of marks w ≡ (mark_of old w || has (take i xs) w) → mark_of (set marks v true) w ≡ (mark_of old w || has (take (i + 1) xs) w)
marks_more marks old xs i d v w l same room before = mark_set marks v w room ∙ has-more (mark_of marks) (mark_of old) xs i d v w l same before

-- where nothing was marked, the list alone is
pub marks_only : (marks old : List Bool) (xs : List ℕ) (w : ℕ) → mark_of old w ≡ false → mark_of marks w ≡ (mark_of old w || has xs w) → mark_of marks w ≡ has xs w
marks_only marks old xs w bare is = is ∙ ap (λ b. b || has xs w) bare

-- no mark stands from the length on
pub unmarked_past : (marks : List Bool) (w : ℕ) → length marks ≤ w → mark_of marks w ≡ false
unmarked_past marks w l = get_or_past marks w false l

-- ---- the nodes of a list but one

-- a number is the same as v and as x, where these are the same
same_both : (v w x : ℕ) → v ≡ x → (v == w) ≡ (w == x)
same_both v w x e = elim (cases_eq w v) [
  | inl s ↦ rw (eq-eqb v w (sym s), eq-eqb w x (s ∙ e)) refl
  | inr ne ↦ rw (ne_eqb v w (λ s. ne (sym s)), ne_eqb w x (λ s. ne (s ∙ sym e))) refl
]

-- one of the others more
pub others_more : (rest xs : List ℕ) (i d v x w : ℕ) → i < length xs → v ≡ get_or xs i d → (v ≡ x → ⊥) → has rest w ≡ without (has (take i xs)) x w →
    ((v == w) || has rest w) ≡ without (has (take (i + 1) xs)) x w
unfolding has
others_more rest xs i d v x w l same other before =
    rw (before, take_more xs i d l, has-append (take i xs) (get_or xs i d ∷ []) w, sym same)
    (elim (cases_eq v w) [
      | inl e ↦ rw (eq-eqb v w e, ne_eqb w x (λ s. other (e ∙ s))) (grind arith)
      | inr ne ↦ rw (ne_eqb v w ne) (grind arith)
    ])

-- the one itself is passed over
pub others_same : (rest xs : List ℕ) (i d v x w : ℕ) → i < length xs → v ≡ get_or xs i d → v ≡ x → has rest w ≡ without (has (take i xs)) x w →
    has rest w ≡ without (has (take (i + 1) xs)) x w
unfolding has
others_same rest xs i d v x w l same is before =
    rw (before, take_more xs i d l, has-append (take i xs) (get_or xs i d ∷ []) w, sym same, same_both v w x is) (but (has (take i xs) w) (w == x))
  where
    but : (a b : Bool) → (a && not b) ≡ ((a || (b || false)) && not b)
    but a b = grind arith

-- they are below what the nodes are below
pub others_below : (rest xs : List ℕ) (x n : ℕ) → ((v : ℕ) → has rest v ≡ without (has xs) x v) → All (λ v. v < n) xs → All (λ v. v < n) rest
others_below rest xs x n is all = All-from_has (λ v. v < n) rest (λ v h. All-has (λ w. w < n) xs all v (and_parts (has xs v) (not (v == x)) (sym (is v) ∙ h)).0)
