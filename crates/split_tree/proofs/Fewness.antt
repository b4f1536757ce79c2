-- A split tree has no more rigid pieces than nodes.
use Rattle.std.proofs.Common.{◌≡◌, ℕ, ◌+◌, ◌≤◌, Bool, true, false, ◌||◌, ◌==◌, List, [], ◌∷◌, ◌++◌, length, refl, sym, ap, ◌∙◌, subst, inl, inr, arith, append_assoc, length-append}
use Rattle.std.proofs.lemmas.Bool.{or_cases, eqb-true}
use Rattle.std.proofs.lemmas.List.{append-nil}
use Rattle.tomo_base.specs.declared.graph.Link.{Link}
use Rattle.tomo_base.specs.Sets.{has, count, one_if}
use Rattle.tomo_base.proofs.Counts.{count_pairs}
use Rattle.tomo_base.proofs.Picks.{two-at-most}
use Rattle.split_tree.specs.declared.piece.Piece.{Piece}
use Rattle.split_tree.specs.declared.tree.Tree.{Tree, Small, Rigid, Split', Row_of-Tree-Split-2-1, end_of-Tree-Split-2-1, more_of-Tree-Split-2-1, Row_of-Tree, end_of-Tree, more_of-Tree}
use Rattle.split_tree.specs.Pieces.{IsPiece, IsCutInto}
use Rattle.split_tree.specs.Trees.{piece_of, box_pieces, row_pieces, IsSplit, Facts, BoxFacts, RowFacts, rigids_of, box_rigids, row_rigids}
use Rattle.split_tree.proofs.Halving.{size_of}
use Rattle.split_tree.proofs.Sounding.{piece_is}

-- two parts have two nodes more than the piece, at most
pub parts_count : (n : ℕ) (p l r : Piece) (pair : Link) → IsPiece n p → IsPiece n l → IsPiece n r → IsCutInto p pair l r → length l.nodes + length r.nodes ≤ length p.nodes + 2
parts_count n p l r pair is left right cut =
    let two : ℕ → Bool = λ v. (v == pair.a) || (v == pair.b) in
    let few : count n two ≤ 2 = two-at-most n two pair.a pair.b (λ v b h. elim (or_cases (v == pair.a) (v == pair.b) h) [ inl e ↦ inl (eqb-true v pair.a e) | inr e ↦ inr (eqb-true v pair.b e) ]) in
    let pairs : count n (has l.nodes) + count n (has r.nodes) ≤ count n (has p.nodes) + count n two = count_pairs n (has p.nodes) two (has l.nodes) (has r.nodes)
    (λ v b. at_node (has l.nodes v) (has r.nodes v) (has p.nodes v) (two v) (cut.one.inside v) (cut.other.inside v) (cut.shared v)) in
    omega (arith, pairs, few, size_of n p.nodes is.set, size_of n l.nodes left.set, size_of n r.nodes right.set)
  where
    at_node : (x y w t : Bool) → (x ≡ true → w ≡ true) → (y ≡ true → w ≡ true) → (x ≡ true → y ≡ true → t ≡ true) → one_if x + one_if y ≤ one_if w + one_if t
    at_node true true w t h k s = rw (h refl, s refl refl) (omega arith)
    at_node true false w t h k s = rw (h refl) (omega arith)
    at_node false true w t h k s = rw (k refl) (omega arith)
    at_node false false w t h k s = omega arith

-- the pieces with their parts of the list of rigid pieces, each short
abbrev Shorts : ℕ → List Piece → List (List ℕ) → Type 0
Shorts n [] all = all ≡ []
Shorts n (p ∷ ps) all = (xs : List (List ℕ)) × (ys : List (List ℕ)) × (all ≡ xs ++ ys) × IsPiece n p × (3 ≤ length p.nodes → length xs + 2 ≤ length p.nodes) × Shorts n ps ys

shorts-join : (n : ℕ) (ps qs : List Piece) (xs ys : List (List ℕ)) → Shorts n ps xs → Shorts n qs ys → Shorts n (ps ++ qs) (xs ++ ys)
shorts-join n [] qs xs ys h k = subst (λ z. Shorts n qs (z ++ ys)) (sym h) k
shorts-join n (p ∷ ps) qs xs ys h k = (h.0, h.1 ++ ys, subst (λ z. z ++ ys ≡ h.0 ++ (h.1 ++ ys)) (sym h.2) (append_assoc h.0 h.1 ys), h.3, h.4, shorts-join n ps qs h.1 ys h.5 k)

-- two short parts make a short piece
short_split : (n : ℕ) (p : Piece) (pair : Link) (ps : List Piece) (all : List (List ℕ)) → IsPiece n p → IsSplit p pair ps → Shorts n ps all → length all + 2 ≤ length p.nodes
short_split n p pair [] all is s h = absurd s
short_split n p pair (l ∷ []) all is s h = absurd s
short_split n p pair (l ∷ (r ∷ [])) all is s h =
    let xs = h.0 in
    let t = h.5 in
    let e : all ≡ xs ++ t.0 = h.2 ∙ ap (λ z. xs ++ z) (t.2 ∙ (ap (λ z. t.0 ++ z) t.5 ∙ append-nil t.0)) in
    let together : length all ≡ length xs + length t.0 = ap length e ∙ length-append xs t.0 in
    let both : length l.nodes + length r.nodes ≤ length p.nodes + 2 = parts_count n p l r pair is h.3 t.3 s in
    let left : length xs + 2 ≤ length l.nodes = h.4 s.one.more in
    let right : length t.0 + 2 ≤ length r.nodes = t.4 s.other.more in
    omega arith
short_split n p pair (l ∷ (r ∷ (x ∷ xs))) all is s h = absurd s

mutual
  -- a tree of three nodes or more has two rigid pieces fewer than nodes
  pub few_rigids : (n : ℕ) (t : Tree) → Facts n t → 3 ≤ length (piece_of t).nodes → length (rigids_of t) + 2 ≤ length (piece_of t).nodes
  few_rigids n (Small p) h three = omega (arith, three)
  few_rigids n (Rigid p) h three = omega (arith, three)
  few_rigids n (Split' p pair shape all) h three = short_split n p pair (row_pieces all) (row_rigids all) h.0 h.1 (row_shorts n all h.2)

  box_shorts : {m : _} (n : ℕ) (r : Row_of-Tree m) → BoxFacts n r → Shorts n (box_pieces r) (box_rigids r)
  box_shorts n end_of-Tree h = refl
  box_shorts n (more_of-Tree t rest) h = (rigids_of t, box_rigids rest, refl, piece_is n t h.0, few_rigids n t h.0, box_shorts n rest h.1)

  row_shorts : {m : _} (n : ℕ) (r : Row_of-Tree-Split-2-1 m) → RowFacts n r → Shorts n (row_pieces r) (row_rigids r)
  row_shorts n end_of-Tree-Split-2-1 h = refl
  row_shorts n (more_of-Tree-Split-2-1 p t rest) h = shorts-join n (box_pieces t) (row_pieces rest) (box_rigids t) (row_rigids rest) (box_shorts n t h.0) (row_shorts n rest h.1)
