-- One region for all paths: a path more at its end, fewer paths, and a path read from it.
use Rattle.std.proofs.Common.{◌≡◌, ℕ, zero, suc, ◌+◌, ◌-◌, ◌^◌, ◌<◌, ◌≤◌, List, [], ◌∷◌, ◌++◌, length, take, drop, get_or, slice_index_or, refl, sym, ap, ap₂, subst, ◌∙◌, arith, length-append, length-drop}
use Rattle.std.specs.List.{slice_range}
use Rattle.std.proofs.lemmas.List.{map-append, length-map, take-map, get_or-map, take_all, take-take, drop-take, take-append-le, drop-append-le, length-take-le, length_push}
use Rattle.std.proofs.Math.Seq.{drop-append_seam}
use Rattle.simple_path.specs.declared.span.Span.{Span}
use Rattle.simple_path.specs.Pools.{nodes_in}
use Rattle.simple_path.specs.Region.{AreInRow, end_from, IsRegion, path_in, paths_in}

-- no span ends before it begins
end_most : (place : ℕ) (spans : List Span) → AreInRow place spans → place ≤ end_from place spans
unfolding end_from
end_most place [] are = omega arith
end_most place (s ∷ spans) are = omega (arith, are.1, end_most s.end spans are.2)

-- a span stands before the end of all
pub span_in : (place : ℕ) (spans : List Span) (k : ℕ) (d : Span) → AreInRow place spans → k < length spans → ((get_or spans k d).start ≤ (get_or spans k d).end) × ((get_or spans k d).end ≤ end_from place spans)
unfolding end_from
span_in place [] k d are l = absurd (omega (arith, l))
span_in place (s ∷ spans) zero d are l = (omega (arith, are.0, are.1), end_most s.end spans are.2)
span_in place (s ∷ spans) (suc k) d are l = span_in s.end spans k d are.2 (omega (arith, l))

-- two regions that agree up to the end of all hold the same paths
same_paths : (xs ys : List ℕ) (place : ℕ) (spans : List Span) → AreInRow place spans → ((a b : ℕ) → a ≤ b → b ≤ end_from place spans → slice_range xs a b ≡ slice_range ys a b) → paths_in xs spans ≡ paths_in ys spans
unfolding end_from
same_paths xs ys place [] are agree = refl
same_paths xs ys place (s ∷ spans) are agree = ap₂ ◌∷◌ (agree s.start s.end (omega (arith, are.0, are.1)) (end_most s.end spans are.2)) (same_paths xs ys s.end spans are.2 agree)

-- nodes at the end of the region change no part before them
part-append : (xs more : List ℕ) (a b : ℕ) → a ≤ b → b ≤ length xs → slice_range (xs ++ more) a b ≡ slice_range xs a b
part-append xs more a b le l =
    ap (take (b - a)) (drop-append-le a xs more (omega (arith, le, l))) ∙ take-append-le (b - a) (drop a xs) more (omega (arith, length-drop a xs, le, l))

-- nor do nodes that are taken away behind it
part-take : (xs : List ℕ) (n a b : ℕ) → a ≤ b → b ≤ n → slice_range (take n xs) a b ≡ slice_range xs a b
part-take xs n a b le l =
    let whole : n ≡ a + (n - a) = omega (arith, le, l) in
    ap (λ k. take (b - a) (drop a (take k xs))) whole ∙ (ap (take (b - a)) (drop-take a (n - a) xs) ∙ take-take (b - a) (n - a) (drop a xs) (omega (arith, le, l)))

-- the part at the end of the region
part_last : (xs path : List ℕ) → slice_range (xs ++ path) (length xs) (length xs + length path) ≡ path
part_last xs path =
    let size : (length xs + length path) - length xs ≡ length path = omega arith in
    ap₂ take size (drop-append_seam xs path) ∙ take_all (length path) path (omega arith)

-- ---- one path more

-- one more stands in the row
in_row-push : (place : ℕ) (spans : List Span) (s : Span) → AreInRow place spans → s.start ≡ end_from place spans → s.start ≤ s.end → AreInRow place (spans ++ s ∷ [])
unfolding end_from
in_row-push place [] s are begins le = (begins, omega (arith, begins, le), tt)
in_row-push place (r ∷ spans) s are begins le = (are.0, are.1, in_row-push r.end spans s are.2 begins le)

-- and ends where all do
end_from-push : (place : ℕ) (spans : List Span) (s : Span) → end_from place (spans ++ s ∷ []) ≡ s.end
unfolding end_from
end_from-push place [] s = refl
end_from-push place (r ∷ spans) s = end_from-push r.end spans s

-- a region with a path at its end
pub region_more : (nodes path : List ℕ) (spans : List Span) (s : Span) → IsRegion nodes spans → s.start ≡ length nodes → s.end ≡ length (nodes ++ path) → length spans + 1 < 2 ^ 31 → length nodes + length path < 2 ^ 31
    → IsRegion (nodes ++ path) (spans ++ s ∷ [])
region_more nodes path spans s region begins ends paths room = record {
  in_row = in_row-push 0 spans s region.in_row (begins ∙ sym region.whole) (omega (arith, begins, ends, length-append nodes path));
  whole = end_from-push 0 spans s ∙ ends;
  few_paths = omega (arith, length_push spans s, paths);
  few_nodes = omega (arith, length-append nodes path, room);
}

-- has one path more, and the earlier ones as they were
pub paths_more : (nodes path : List ℕ) (spans : List Span) (s : Span) → IsRegion nodes spans → s.start ≡ length nodes → s.end ≡ length (nodes ++ path) → paths_in (nodes ++ path) (spans ++ s ∷ []) ≡ paths_in nodes spans ++ path ∷ []
paths_more nodes path spans s region begins ends =
    let new : path_in (nodes ++ path) s ≡ path = ap₂ (slice_range (nodes ++ path)) begins (ends ∙ length-append nodes path) ∙ part_last nodes path in
    map-append (path_in (nodes ++ path)) spans (s ∷ [])
    ∙ ap₂ (λ (ps : List (List ℕ)) (p : List ℕ). ps ++ p ∷ []) (same_paths (nodes ++ path) nodes 0 spans region.in_row (λ a b le l. part-append nodes path a b le (omega (arith, l, region.whole)))) new

-- ---- fewer paths

-- the first of the row stand in a row
in_row-take : (n place : ℕ) (spans : List Span) → AreInRow place spans → AreInRow place (take n spans)
in_row-take zero place spans are = tt
in_row-take (suc n) place [] are = tt
in_row-take (suc n) place (s ∷ spans) are = (are.0, are.1, in_row-take n s.end spans are.2)

-- and end no later
end_from-take : (n place : ℕ) (spans : List Span) → AreInRow place spans → end_from place (take n spans) ≤ end_from place spans
unfolding end_from
end_from-take zero place spans are = end_most place spans are
end_from-take (suc n) place [] are = omega arith
end_from-take (suc n) place (s ∷ spans) are = end_from-take n s.end spans are.2

-- where the last of them does
pub end_from-last : (k place : ℕ) (spans : List Span) (d : Span) → k < length spans → end_from place (take (suc k) spans) ≡ (get_or spans k d).end
unfolding end_from
end_from-last k place [] d l = absurd (omega (arith, l))
end_from-last zero place (s ∷ spans) d l = refl
end_from-last (suc k) place (s ∷ spans) d l = end_from-last k s.end spans d (omega (arith, l))

-- a region that is cut back to its first paths
pub region_less : (nodes : List ℕ) (spans : List Span) (n end : ℕ) → IsRegion nodes spans → end ≡ end_from 0 (take n spans) → IsRegion (take end nodes) (take n spans)
region_less nodes spans n end region is =
    let most : end ≤ length nodes = omega (arith, is, end_from-take n 0 spans region.in_row, region.whole) in
    record {
      in_row = in_row-take n 0 spans region.in_row;
      whole = sym is ∙ sym (length-take-le end nodes most);
      few_paths = omega (arith, length-take-most n spans, region.few_paths);
      few_nodes = omega (arith, length-take-le end nodes most, most, region.few_nodes);
    }
  where
    length-take-most : (i : ℕ) (xs : List Span) → length (take i xs) ≤ length xs
    length-take-most zero xs = omega arith
    length-take-most (suc i) [] = omega arith
    length-take-most (suc i) (x ∷ xs) = omega (arith, length-take-most i xs)

-- has those paths
pub paths_less : (nodes : List ℕ) (spans : List Span) (n end : ℕ) → IsRegion nodes spans → end ≡ end_from 0 (take n spans) → paths_in (take end nodes) (take n spans) ≡ take n (paths_in nodes spans)
paths_less nodes spans n end region is =
    same_paths (take end nodes) nodes 0 (take n spans) (in_row-take n 0 spans region.in_row) (λ a b le l. part-take nodes end a b le (omega (arith, l, is))) ∙ sym (take-map _ _ _)

-- ---- what is read

-- there are as many paths as spans
pub length-paths : (nodes : List ℕ) (spans : List Span) → length (paths_in nodes spans) ≡ length spans
length-paths nodes spans = length-map spans (path_in nodes)

-- a span that was read stands in the region, and holds the path of its number
pub span_read : (nodes : List ℕ) (spans : List Span) (k : ℕ) (s : Span) → IsRegion nodes spans → k < length spans → s ≡ get_or spans k s → (s.start ≤ s.end) × (s.end ≤ length nodes) × (path_in nodes s ≡ slice_index_or (paths_in nodes spans) k [])
span_read nodes spans k s region l is =
    let at = span_in 0 spans k s region.in_row l in
    let ordered : s.start ≤ s.end = subst (λ (r : Span). r.start ≤ r.end) (sym is) at.0 in
    let most : s.end ≤ end_from 0 spans = subst (λ (r : Span). r.end ≤ end_from 0 spans) (sym is) at.1 in
    (ordered, omega (arith, most, region.whole), ap (path_in nodes) is ∙ sym (get_or-map (path_in nodes) spans k s [] l))

-- it stands in a copy of the region too
pub span_lent : (nodes xs : List ℕ) (spans : List Span) (k : ℕ) (s : Span) → IsRegion nodes spans → k < length spans → s ≡ get_or spans k s → xs ≡ nodes → (s.start ≤ s.end) × (s.end ≤ length xs)
span_lent nodes xs spans k s region l is same = let at = span_read nodes spans k s region l is in (at.0, rw same at.1)

-- how many nodes the paths have, from a place on
nodes_from : (nodes : List ℕ) (place : ℕ) (spans : List Span) → AreInRow place spans → end_from place spans ≤ length nodes → place + nodes_in (paths_in nodes spans) ≡ end_from place spans
unfolding end_from
nodes_from nodes place [] are most = omega arith
nodes_from nodes place (s ∷ spans) are most =
    let rest : s.end + nodes_in (paths_in nodes spans) ≡ end_from s.end spans = nodes_from nodes s.end spans are.2 most in
    let low : s.end ≤ end_from s.end spans = end_most s.end spans are.2 in
    let size : length (path_in nodes s) ≡ s.end - s.start = length-take-le (s.end - s.start) (drop s.start nodes) (omega (arith, length-drop s.start nodes, low, most)) in
    omega (arith, rest, size, are.0, are.1)

-- all are those of the paths
pub nodes_all : (nodes : List ℕ) (spans : List Span) → IsRegion nodes spans → nodes_in (paths_in nodes spans) ≡ length nodes
nodes_all nodes spans region = omega (arith, nodes_from nodes 0 spans region.in_row (omega (arith, region.whole)), region.whole)

-- an empty region
pub region_none : IsRegion [] []
unfolding end_from
region_none = record { in_row = tt; whole = refl; few_paths = omega arith; few_nodes = omega arith }

-- no paths end at place 0
pub end_none : (spans : List Span) (n : ℕ) → n ≡ 0 → 0 ≡ end_from 0 (take n spans)
unfolding end_from
end_none spans n none = rw none refl

-- the first n end where the last of them does
pub end_last : (spans : List Span) (n : ℕ) (s : Span) → 1 ≤ n → n ≤ length spans → s ≡ get_or spans (n - 1) s → s.end ≡ end_from 0 (take n spans)
end_last spans n s some l is =
    let whole : suc (n - 1) ≡ n = omega (arith, some) in
    ap (λ (r : Span). r.end) is ∙ (sym (end_from-last (n - 1) 0 spans s (omega (arith, l, some))) ∙ ap (λ k. end_from 0 (take k spans)) whole)
