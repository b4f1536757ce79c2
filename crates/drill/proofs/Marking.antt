-- The marks of pairs: each pair has a place of its own, and a link more sets one mark.
use Rattle.std.proofs.Common.{◌≡◌, ◌≢◌, ℕ, ◌+◌, ◌*◌, ◌<◌, ◌≤◌, ◌-◌, ◌||◌, ◌⊎◌, Bool, true, false, List, [], ◌∷◌, ◌++◌, length, set, replicate, refl, sym, ap, ◌∙◌, inl, inr, arith}
use Rattle.std.proofs.lemmas.Bool.{cases_Bool, cases_order, or_right, both_ways}
use Rattle.std.proofs.lemmas.List.{get_or-set_same, get_or-set_other, get_or-replicate, length-set, length-replicate}
use Rattle.tomo_base.specs.declared.graph.Link.{Link}
use Rattle.tomo_base.specs.Network.{joins, any_joins}
use Rattle.tomo_base.proofs.Entering.{joins_its_ends}
use Rattle.tomo_base.proofs.Links.{joins_gives}
use Rattle.tomo_base.proofs.Rows.{any_joins-push, AreLinks-push}
use Rattle.drill.specs.Limits.{drawn_node_limit}
use Rattle.drill.specs.Marks.{IsMarked}

-- the place of a pair is one of n times n
pub place_within : (n a b : ℕ) → a < n → b < n → a * n + b < n * n
place_within n a b low high = within n a b (n - (a + 1)) (omega (arith, low)) high
  where
    within : (n a b m : ℕ) → n ≡ a + 1 + m → b < n → a * n + b < n * n
    within n a b m is high =
        let whole : n * n ≡ (a + 1 + m) * n = ap (λ k. k * n) is in
        omega (arith, whole, high)

-- a pair with a lower first node has a lower place
lower_place : (n a b c d : ℕ) → a < c → b < n → a * n + b < c * n + d
lower_place n a b c d lt high = lower n a b c d (c - (a + 1)) (omega (arith, lt)) high
  where
    lower : (n a b c d m : ℕ) → c ≡ a + 1 + m → b < n → a * n + b < c * n + d
    lower n a b c d m is high =
        let whole : c * n ≡ (a + 1 + m) * n = ap (λ k. k * n) is in
        omega (arith, whole, high)

-- so two pairs with the same place are the same
same_place : (n a b c d : ℕ) → b < n → d < n → a * n + b ≡ c * n + d → (a ≡ c) × (b ≡ d)
same_place n a b c d lb ld same = elim (cases_order a c) [
  | inl e ↦ (let rows : a * n ≡ c * n = ap (λ k. k * n) e in (e, omega (arith, same, rows)))
  | inr other ↦ elim other [
    | inl lt ↦ absurd (omega (arith, same, lower_place n a b c d lt lb))
    | inr gt ↦ absurd (omega (arith, same, lower_place n c d a b gt ld))
  ]
]

-- without links no mark is set
pub marked_none : (n : ℕ) → n ≤ drawn_node_limit → IsMarked n [] (replicate (n * n) false)
unfolding any_joins
marked_none n few = record {
  few_nodes = few;
  graph = tt;
  one_each = length-replicate (n * n) false;
  marked = λ a b lt below. get_or-replicate (n * n) (a * n + b) false false (place_within n a b (omega (arith, lt, below)) below);
}

-- a link more
pub marked_more : (n : ℕ) (links : List Link) (marks : List Bool) (l : Link) → l.a < l.b → l.b < n → any_joins links l.a l.b ≡ false → IsMarked n links marks
    → IsMarked n (links ++ l ∷ []) (set marks (l.a * n + l.b) true)
unfolding joins
marked_more n links marks l lower high free is = record {
  few_nodes = is.few_nodes;
  graph = AreLinks-push n links l is.graph lower high free;
  one_each = length-set marks (l.a * n + l.b) true ∙ is.one_each;
  marked = λ a b lt below. elim (cases_Bool (joins l a b)) [
    | inl e ↦ (
        let ends : (a ≡ l.a) × (b ≡ l.b) = forward a b lt (joins_gives l a b e) in
        let here : l.a * n + l.b < length marks = omega (arith, place_within n l.a l.b (omega (arith, lower, high)) high, is.one_each) in
        let at : a * n + b ≡ l.a * n + l.b = ends_at a b ends in
        rw at (get_or-set_same marks (l.a * n + l.b) true false here) ∙ sym (any_joins-push links l a b ∙ or_right (any_joins links a b) (joins l a b) e))
    | inr e ↦ (
        let apart : a * n + b ≢ l.a * n + l.b = λ same. absurd_join a b e (same_place n a b l.a l.b below high same) in
        get_or-set_other marks (l.a * n + l.b) (a * n + b) true false apart ∙ (is.marked a b lt below ∙ sym (any_joins-push links l a b ∙ last (any_joins links a b) (joins l a b) e)))
  ];
}
  where
    forward : (a b : ℕ) → a < b → ((l.a ≡ a) × (l.b ≡ b)) ⊎ ((l.a ≡ b) × (l.b ≡ a)) → (a ≡ l.a) × (b ≡ l.b)
    forward a b lt (inl e) = (sym e.0, sym e.1)
    forward a b lt (inr e) = absurd (omega (arith, lower, lt, e.0, e.1))

    ends_at : (a b : ℕ) → (a ≡ l.a) × (b ≡ l.b) → a * n + b ≡ l.a * n + l.b
    ends_at a b e = rw (e.0, e.1) refl

    last : (p q : Bool) → q ≡ false → (p || q) ≡ p
    last p q e = grind arith

    absurd_join : (a b : ℕ) → joins l a b ≡ false → (a ≡ l.a) × (b ≡ l.b) → ⊥
    absurd_join a b e same = both_ways (joins l a b) e (rw (same.0, same.1) (joins_its_ends l))
