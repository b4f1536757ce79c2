-- Two nodes part a set of nodes of a piece from the others where no link leads out of the set but to the two.
use Rattle.std.proofs.Common.{◌≡◌, ◌≢◌, ℕ, ◌<◌, ◌≤◌, Bool, true, false, not, ◌||◌, ◌==◌, List, [], ◌∷◌, length, get_or, IsTrue, refl, sym, subst, inl, inr, ◌∙◌}
use Rattle.std.specs.List.{list_all, list_any}
use Rattle.std.proofs.lemmas.Bool.{both_ways, and_parts, or_cases, eqb-true, not-true}
use Rattle.std.proofs.lemmas.List.Sums.{AllPass-from_list_all}
use Rattle.tomo_base.specs.declared.graph.Link.{Link}
use Rattle.tomo_base.specs.Network.{joins, any_joins}
use Rattle.tomo_base.specs.Sets.{has}
use Rattle.tomo_base.specs.Search.{mark_of}
use Rattle.tomo_base.specs.Parting.{without_two}
use Rattle.tomo_base.proofs.Links.{joins_gives}
use Rattle.tomo_base.proofs.Members.{has_first, has_later}
use Rattle.tomo_base.proofs.Ascending.{has-at, All-has}
use Rattle.tomo_base.proofs.Parting.{without_two-in, without_two-ne, without_two-from}
use Rattle.three_conn.specs.Parting.{IsParted}
use Rattle.split_tree.specs.declared.piece.Piece.{Piece}
use Rattle.split_tree.specs.Pieces.{net, IsPiece}
use Rattle.split_tree.specs.Parts.{is_unmarked, step_stays, link_stays}
use Rattle.split_tree.proofs.Sounding.{piece_below}

-- a number of the list passes the test
some_has : (p : ℕ → Bool) (xs : List ℕ) → list_any p xs ≡ true → (v : ℕ) × IsTrue (has xs v) × IsTrue (p v)
unfolding has
some_has p [] h = absurd (both_ways false refl h)
some_has p (x ∷ xs) h = elim (or_cases (p x) (list_any p xs) h) [
  | inl e ↦ (x, has_first x xs, e)
  | inr r ↦ let t = some_has p xs r in (t.0, has_later x xs t.0 t.1, t.2)
]

-- each step over a link stays in the set, where each link does in both directions
steps_stay : (q : ℕ → Bool) (c d : ℕ) (ls : List Link) → list_all (link_stays q c d) ls ≡ true
    → (u v : ℕ) → any_joins ls u v ≡ true → step_stays q c d u v ≡ true
unfolding any_joins
steps_stay q c d [] all u v h = absurd (both_ways false refl h)
steps_stay q c d (l ∷ ls) all u v h =
    let s = and_parts (link_stays q c d l) (list_all (link_stays q c d) ls) all in
    let t = and_parts (step_stays q c d l.a l.b) (step_stays q c d l.b l.a) s.0 in
    elim (or_cases (joins l u v) (any_joins ls u v) h) [
      | inl j ↦ elim (joins_gives l u v j) [
        | inl e ↦ subst (λ x. step_stays q c d x v ≡ true) e.0 (subst (λ y. step_stays q c d l.a y ≡ true) e.1 t.0)
        | inr e ↦ subst (λ x. step_stays q c d x v ≡ true) e.1 (subst (λ y. step_stays q c d l.b y ≡ true) e.0 t.1)
      ]
      | inr r ↦ steps_stay q c d ls s.1 u v r
    ]

-- a step from the set to another node than the two
stay_gives : (q : ℕ → Bool) (c d u v : ℕ) → step_stays q c d u v ≡ true → q u ≡ true → v ≢ c → v ≢ d → q v ≡ true
stay_gives q c d u v stay from vc vd = elim (or_cases (not (q u)) (q v || ((v == c) || (v == d))) stay) [
  | inl off ↦ absurd (both_ways (q u) (not-true (q u) off) from)
  | inr on ↦ elim (or_cases (q v) ((v == c) || (v == d)) on) [
    | inl there ↦ there
    | inr e ↦ elim (or_cases (v == c) (v == d) e) [ inl i ↦ absurd (vc (eqb-true v c i)) | inr i ↦ absurd (vd (eqb-true v d i)) ]
  ]
]

-- the two nodes part the side from a node that is left, by marks on the nodes of the piece and on the side
pub parted_of : (n : ℕ) (p : Piece) (side : List ℕ) (c d : ℕ) (among marks : List Bool) → IsPiece n p
    → ((v : ℕ) → mark_of among v ≡ has p.nodes v) → ((v : ℕ) → mark_of marks v ≡ has side v) → 1 ≤ length side
    → list_all (without_two (mark_of among) c d) side ≡ true → list_any (without_two (is_unmarked marks) c d) p.nodes ≡ true
    → list_all (link_stays (mark_of marks) c d) p.links ≡ true
    → IsParted (net n p) (has p.nodes) (has side) c d
parted_of n p side c d among marks is nodes sides one all some shut =
    let inside : (v : ℕ) → IsTrue (has side v) → IsTrue (without_two (has p.nodes) c d v) = λ v h.
    let w = All-has (λ x. without_two (mark_of among) c d x ≡ true) side (AllPass-from_list_all (without_two (mark_of among) c d) side all) v h in
    let ne = without_two-ne (mark_of among) c d v w in
    without_two-from (has p.nodes) c d v (sym (nodes v) ∙ without_two-in (mark_of among) c d v w) ne.0 ne.1 in
    let low : (v : ℕ) → IsTrue (without_two (has p.nodes) c d v) → v < n = λ v h. piece_below n p is v (without_two-in (has p.nodes) c d v h) in
    let x = get_or side 0 0 in
    let first : IsTrue (has side x) = has-at side 0 0 one in
    let y = some_has (without_two (is_unmarked marks) c d) p.nodes some in
    let far = without_two-ne (is_unmarked marks) c d y.0 y.2 in
    let left = without_two-from (has p.nodes) c d y.0 y.1 far.0 far.1 in
    record {
      inside = inside;
      shut = λ u v m l iv.
          let ne = without_two-ne (has p.nodes) c d v iv in
          sym (sides v) ∙ stay_gives (mark_of marks) c d u v (steps_stay (mark_of marks) c d p.links shut u v l) (sides u ∙ m) ne.0 ne.1;
      some = (x, low x (inside x first), first);
      rest = (y.0, low y.0 left, left, sym (sides y.0) ∙ not-true (mark_of marks y.0) (without_two-in (is_unmarked marks) c d y.0 y.2));
    }
