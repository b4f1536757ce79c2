-- Marks of the nodes of a list, and of the nodes that are left.
use Rattle.std.proofs.Common.{◌≡◌, ℕ, ◌+◌, ◌<◌, Bool, true, false, not, ◌||◌, cond, List, [], ◌∷◌, ◌++◌, length, get_or, set, take, replicate, refl, sym, ap, ◌∙◌, inl, inr, arith, get_or-set_same, get_or-set_other}
use Rattle.std.proofs.lemmas.Bool.{cases_eq, eq-eqb, ne_eqb}
use Rattle.std.proofs.lemmas.List.{take_more, get_or_append_left, get_or_push}
use Rattle.tomo_base.specs.Search.{mark_of}
use Rattle.tomo_base.specs.Sets.{has}
use Rattle.tomo_base.proofs.Members.{has-append}
use Rattle.tomo_base.proofs.Marks.{bare_mark}

-- one node more of the list has the mark
pub mark_more : (marks old : List Bool) (xs : List ℕ) (i d v w : ℕ) (b : Bool) → i < length xs → v ≡ get_or xs i d → v < length marks
    → mark_of marks w ≡ cond (has (take i xs) w) b (mark_of old w) → mark_of (set marks v b) w ≡ cond (has (take (i + 1) xs) w) b (mark_of old w)
unfolding has
mark_more marks old xs i d v w b l same room before =
    rw (take_more xs i d l, has-append (take i xs) (get_or xs i d ∷ []) w, sym same)
    (elim (cases_eq w v) [
      | inl e ↦ rw (eq-eqb v w (sym e), ap (mark_of (set marks v b)) e, get_or-set_same marks v b false room) (sym (at_end (has (take i xs) w) b (mark_of old w)))
      | inr ne ↦ rw (ne_eqb v w (λ e. ne (sym e)), get_or-set_other marks v w b false ne, before) (sym (not_at_end (has (take i xs) w) b (mark_of old w)))
    ])
  where
    at_end : (p b c : Bool) → cond (p || (true || false)) b c ≡ b
    at_end true b c = refl
    at_end false b c = refl

    not_at_end : (p b c : Bool) → cond (p || (false || false)) b c ≡ cond p b c
    not_at_end true b c = refl
    not_at_end false b c = refl

-- one mark more at the end
pub mark_push : (rest old : List Bool) (i : ℕ) (b : Bool) → length rest ≡ i → b ≡ not (mark_of old i) → ((v : ℕ) → v < i → mark_of rest v ≡ not (mark_of old v))
    → (v : ℕ) → v < i + 1 → mark_of (rest ++ b ∷ []) v ≡ not (mark_of old v)
mark_push rest old i b len is before v l = elim (cases_eq v i) [
  | inl e ↦ get_or_push rest b false v (len ∙ sym e) ∙ (is ∙ ap (λ k. not (mark_of old k)) (sym e))
  | inr ne ↦ get_or_append_left rest (b ∷ []) false v (omega (arith, len)) ∙ before v (omega arith)
]

-- where nothing was marked, the nodes of the list alone are
pub marks_only : (n : ℕ) (old : List Bool) (mark here : Bool) (v : ℕ) → old ≡ replicate n false → mark ≡ cond here true (mark_of old v) → mark ≡ here
marks_only n old mark here v bare is = is ∙ (ap (λ xs. cond here true (mark_of xs v)) bare ∙ (ap (cond here true) (bare_mark n v) ∙ same here))
  where
    same : (b : Bool) → cond b true false ≡ b
    same true = refl
    same false = refl
