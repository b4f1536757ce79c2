-- Marks on nodes.
use Rattle.std.proofs.Common.{◌≡◌, ℕ, zero, suc, ◌+◌, ◌<◌, Bool, true, false, ◌||◌, List, [], ◌∷◌, length, get_or, set, take, replicate, refl, sym, inl, inr, arith, get_or-set_same, get_or-set_other}
use Rattle.std.proofs.lemmas.Bool.{cases_lt, cases_eq, both_ways, eq-eqb, ne_eqb}
use Rattle.std.proofs.lemmas.List.{length-replicate, get_or-replicate, get_or_past, take_more}
use Rattle.tomo_base.specs.Search.{mark_of, unseen_of}
use Rattle.tomo_base.specs.Sets.{has}
use Rattle.tomo_base.proofs.Members.{has-append}

-- a new mark leaves one node fewer without
pub unseen-set : (seen : List Bool) (u : ℕ) → u < length seen → mark_of seen u ≡ false → unseen_of (set seen u true) + 1 ≡ unseen_of seen
unseen-set [] u l h = absurd (omega arith)
unseen-set (false ∷ xs) zero l h = omega arith
unseen-set (true ∷ xs) zero l h = cc
unseen-set (true ∷ xs) (suc u) l h = unseen-set xs u (omega arith) h
unseen-set (false ∷ xs) (suc u) l h = let rest : unseen_of (set xs u true) + 1 ≡ unseen_of xs = unseen-set xs u (omega arith) h in omega (arith, rest)

-- only nodes below the length are marked
pub marked_below : (marks : List Bool) (v : ℕ) → mark_of marks v ≡ true → v < length marks
marked_below marks v h = elim (cases_lt v (length marks)) [ inl lt ↦ lt | inr ge ↦ absurd (both_ways (mark_of marks v) (get_or_past marks v false ge) h) ]

-- no mark stands among bare ones
pub bare_mark : (n v : ℕ) → mark_of (replicate n false) v ≡ false
bare_mark n v = elim (cases_lt v n) [
  | inl lt ↦ get_or-replicate n v false false lt
  | inr ge ↦ get_or_past (replicate n false) v false (omega (arith, ge, length-replicate n false))
]

-- nor does one for no nodes
pub no_marks : (n w : ℕ) → mark_of (replicate n false) w ≡ has [] w
unfolding has
no_marks n w = bare_mark n w

-- marks with the node at the next place of a list
pub marks_more : (n : ℕ) (xs : List ℕ) (marks : List Bool) (i d x w : ℕ) → i < length xs → x ≡ get_or xs i d → x < length marks
    → mark_of marks w ≡ has (take i xs) w → mark_of (set marks x true) w ≡ has (take (i + 1) xs) w
unfolding has
marks_more n xs marks i d x w l same room before =
    rw (take_more xs i d l, has-append (take i xs) (get_or xs i d ∷ []) w, sym same) (elim (cases_eq w x) [
      | inl e ↦ rw (e, get_or-set_same marks x true false room, eq-eqb x x refl) (sym (last (has (take i xs) x)))
      | inr ne ↦ rw (get_or-set_other marks x w true false ne, before, ne_eqb x w (λ e. ne (sym e))) (none (has (take i xs) w))
    ])
  where
    last : (b : Bool) → (b || (true || false)) ≡ true
    last b = grind arith

    none : (b : Bool) → b ≡ (b || (false || false))
    none b = grind arith
