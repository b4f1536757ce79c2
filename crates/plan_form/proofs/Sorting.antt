-- A sort of paths leaves as many nodes, and a search finds the place of a path.
use Rattle.std.proofs.Common.{◌≡◌, ℕ, zero, suc, add-one, ◌<◌, ◌≤◌, ◌+◌, ◌++◌, List, [], ◌∷◌, length, take, get_or, refl, sym, ◌∙◌, inl, inr, arith, Vec, Contains}
use Rattle.std.specs.Global.{Global}
use Rattle.std.specs.declared.cmp.Ordering.{Ordering}
use Rattle.std.specs.Cmp.Lexicographic.{nat_list_cmp_total}
use Rattle.std.specs.List.Sorted.{IsStrictlySortedBy}
use Rattle.std.specs.List.{sum_by}
use Rattle.std.specs.List.Sorted.{IsSortedBy, IsNonDecreasingBy, IsPartitionPoint}
use Rattle.std.specs.Ordering.{is_lt, ordering_reverse, ordering_index}
use Rattle.std.specs.declared.cmp.Ordering.TheVariants.{Less, Equal, Greater}
use Rattle.std.proofs.lemmas.Bool.{cases_lt}
use Rattle.std.proofs.Math.Seq.{get_or-append_seam}
use Rattle.std.proofs.lemmas.List.Recursion.{is_sum_by}
use Rattle.std.proofs.lemmas.List.Sorted.{searchable_from_sorted}
use Rattle.std.proofs.lemmas.Map.Lookups.{exact_bytes}
use Rattle.simple_path.specs.Pools.{nodes_in}
use Rattle.std.proofs.lemmas.List.{get_or-map, length-map, length-take-le, length-append, get_or-take, get_or_append_left}
use Rattle.plan_form.specs.Order.{path_cmp}
use Rattle.plan_form.specs.Building.{turned}
use Rattle.plan_form.specs.Steps.{IsNumberOf, AreNumbers}
use Rattle.tomo_base.specs.SetLists.{lists_of}

-- how many node numbers there are is the sum of the lengths
nodes_in-sum : (ps : List (List ℕ)) → nodes_in ps ≡ sum_by (length {A = ℕ}) ps
nodes_in-sum = is_sum_by nodes_in (length {A = ℕ}) refl (λ p ps. refl)

-- so no more of them are left where no sum over the paths is larger
pub nodes_few : (old new : List (List ℕ)) → ((w : List ℕ → ℕ) → sum_by w new ≤ sum_by w old) → nodes_in new ≤ nodes_in old
nodes_few old new sums = omega (arith, sums (length {A = ℕ}), nodes_in-sum old, nodes_in-sum new)

-- as many lists as vectors
pub paths_few : (old new : List (Vec ℕ Global)) → length new ≤ length old → length (lists_of new) ≤ length (lists_of old)
paths_few old new few = omega (arith, few, length-map old (λ (v : Vec ℕ Global). v.items), length-map new (λ (v : Vec ℕ Global). v.items))

-- ---- the place of a path

-- paths that ascend are in order
in_order : (vs : List (Vec ℕ Global)) → IsStrictlySortedBy path_cmp (lists_of vs) → IsSortedBy (λ a b. is_lt (path_cmp a.items b.items)) vs
unfolding IsStrictlySortedBy
in_order [] up k d low l = absurd (omega (arith, l))
in_order (a ∷ []) up k d low l = absurd (omega (arith, l))
in_order (a ∷ b ∷ vs) up zero d low l = rw (nat_list_cmp_total.antisymm b.items a.items, up.0.0) refl
in_order (a ∷ b ∷ vs) up (suc k) d low l = rw add-one (rw add-one at (in_order (b ∷ vs) up.1 k d (omega arith) (omega (arith, l))))

-- a path is neither less nor greater than itself
itself : (p : List ℕ) → path_cmp p p ≡ Equal
itself p = settle (path_cmp p p) (nat_list_cmp_total.antisymm p p)
  where
    settle : (o : Ordering) → o ≡ ordering_reverse o → o ≡ Equal
    settle Less e = cc e
    settle Equal e = refl
    settle Greater e = cc e

-- a search that ended at no path, where the path stands
pub search_finds : (vs : List (Vec ℕ Global)) (key : List ℕ) (i : ℕ) → IsStrictlySortedBy path_cmp (lists_of vs) → Contains (lists_of vs) key
    → (IsNonDecreasingBy (λ v. ordering_index (path_cmp v.items key)) vs → IsPartitionPoint (λ v. path_cmp v.items key ≡ Less) (λ v. path_cmp v.items key ≡ Greater) vs i) → ⊥
search_finds [] key i up at found = omega (arith, at.1)
search_finds (v ∷ vs) key i up at found =
    let parts = found (searchable_from_sorted nat_list_cmp_total (λ (v : Vec ℕ Global). v.items) (v ∷ vs) key (in_order (v ∷ vs) up)) in
    let within : at.0 < length (v ∷ vs) = rw length-map at at.1 in
    let same : (get_or (v ∷ vs) at.0 v).items ≡ key = rw (get_or-map (λ (v : Vec ℕ Global). v.items) (v ∷ vs) at.0 v key within) at at.2 in
    let tie : path_cmp (get_or (v ∷ vs) at.0 v).items key ≡ Equal = rw same (itself key) in
    elim (cases_lt at.0 i) [
      | inl lt ↦ apart (sym tie ∙ parts.0 at.0 v (omega arith) lt)
      | inr le ↦ apart' (sym tie ∙ parts.1 at.0 v le within)
    ]
  where
    apart : Equal ≡ Less → ⊥
    apart e = cc e

    apart' : Equal ≡ Greater → ⊥
    apart' e = cc e

-- a search that ended at an equal path
pub search_number : (vs : List (Vec ℕ Global)) (key : Vec ℕ Global) (path : List ℕ) (i : ℕ) → i < length vs → ((d : Vec ℕ Global) → path_cmp (get_or vs i d).items key.items ≡ Equal) → key.items ≡ turned path → IsNumberOf (lists_of vs) path i
search_number vs key path i l tie is = (rw length-map l, get_or-map (λ (v : Vec ℕ Global). v.items) vs i key [] l ∙ (exact_bytes (get_or vs i key).items key.items (tie key) ∙ is))

-- the numbers of one path more
pub number_more : (pool paths : List (List ℕ)) (numbers : List ℕ) (i n : ℕ) → i < length pool → AreNumbers (take i pool) paths numbers → IsNumberOf paths (get_or pool i []) n → AreNumbers (take (i + 1) pool) paths (numbers ++ n ∷ [])
number_more pool paths numbers i n l are here = record {
  one_each = omega (arith, length-append numbers (n ∷ []), count, length-take-le (i + 1) pool (omega (arith, l)));
  each = λ j below.
      let most : j < i + 1 = omega (arith, below, length-take-le (i + 1) pool (omega (arith, l))) in
      rw (get_or-take (i + 1) pool j [] most) (elim (cases_lt j i) [
        | inl before ↦ rw (get_or_append_left numbers (n ∷ []) 0 j (omega (arith, before, count))) (rw (get_or-take i pool j [] before) at (are.each j (omega (arith, before, length-take-le i pool (omega (arith, l))))))
        | inr after ↦ let last : j ≡ length numbers = omega (arith, most, after, count) in
            rw (last, get_or-append_seam numbers n [] 0, count) here
      ]);
}
  where
    count : length numbers ≡ i
    count = omega (arith, are.one_each, length-take-le i pool (omega (arith, l)))
