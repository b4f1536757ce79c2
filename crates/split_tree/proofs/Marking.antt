-- Marks that are set and taken away.
use Rattle.std.proofs.Common.{◌≡◌, ℕ, ◌+◌, ◌<◌, Bool, true, false, not, ◌&&◌, ◌||◌, ◌==◌, List, [], ◌∷◌, length, get_or, set, take, refl, sym, ◌∙◌, inl, inr, arith, get_or-set_same, get_or-set_other, length-set}
use Rattle.std.proofs.lemmas.Bool.{cases_eq, eq-eqb, ne_eqb}
use Rattle.std.proofs.lemmas.List.{take_more}
use Rattle.tomo_base.specs.Sets.{has, minus}
use Rattle.tomo_base.specs.Search.{mark_of}
use Rattle.tomo_base.proofs.Members.{has-append}

-- no list takes nothing away
pub minus_none : (m : ℕ → Bool) (w : ℕ) → m w ≡ minus m (has []) w
unfolding has
minus_none m w = plain (m w)
  where
    plain : (b : Bool) → b ≡ (b && not false)
    plain b = grind arith

-- the node at the next place is taken away
pub marks_less : (m : ℕ → Bool) (xs : List ℕ) (marks : List Bool) (i d x w : ℕ) → i < length xs → x ≡ get_or xs i d → x < length marks
    → mark_of marks w ≡ minus m (has (take i xs)) w → mark_of (set marks x false) w ≡ minus m (has (take (i + 1) xs)) w
unfolding has
marks_less m xs marks i d x w l same room before =
    rw (take_more xs i d l, has-append (take i xs) (get_or xs i d ∷ []) w, sym same) (elim (cases_eq w x) [
      | inl e ↦ rw (e, get_or-set_same marks x false false room, eq-eqb x x refl) (gone (m x) (has (take i xs) x))
      | inr ne ↦ rw (get_or-set_other marks x w false false ne, before, ne_eqb x w (λ e. ne (sym e))) (stays (m w) (has (take i xs) w))
    ])
  where
    gone : (a b : Bool) → false ≡ (a && not (b || (true || false)))
    gone a b = grind arith

    stays : (a b : Bool) → (a && not b) ≡ (a && not (b || (false || false)))
    stays a b = grind arith

-- a node more
one_more : (m : ℕ → Bool) (marks : List Bool) (a w : ℕ) → a < length marks → mark_of marks w ≡ m w → mark_of (set marks a true) w ≡ (m w || (w == a))
one_more m marks a w room before = elim (cases_eq w a) [
  | inl e ↦ rw (e, get_or-set_same marks a true false room, eq-eqb a a refl) (here (m a))
  | inr ne ↦ rw (get_or-set_other marks a w true false ne, before, ne_eqb w a ne) (stays (m w))
]
  where
    here : (b : Bool) → true ≡ (b || true)
    here b = grind arith

    stays : (b : Bool) → b ≡ (b || false)
    stays b = grind arith

-- two nodes more
pub marks_two : (m : ℕ → Bool) (marks : List Bool) (a b w : ℕ) → a < length marks → b < length marks → ((v : ℕ) → mark_of marks v ≡ m v) → mark_of (set (set marks a true) b true) w ≡ (m w || ((w == a) || (w == b)))
marks_two m marks a b w la lb before =
    one_more (λ v. m v || (v == a)) (set marks a true) b w (omega (arith, lb, length-set marks a true)) (one_more m marks a w la (before w)) ∙ regroup (m w) (w == a) (w == b)
  where
    regroup : (x y z : Bool) → ((x || y) || z) ≡ (x || (y || z))
    regroup x y z = grind arith
