-- Nodes are numbered by the places of their names: which numbers stay when a name is added, and that they are different.
use Rattle.std.proofs.Common.{◌≡◌, ◌≢◌, ℕ, ◌+◌, ◌<◌, Bool, true, false, not, cond, ◌||◌, List, [], ◌∷◌, ◌++◌, length, get_or, refl, sym, ap, ◌∙◌, inl, inr, arith, AllPairs, bytes_eq, map, nat_lt, position, Some, None}
use Rattle.std.specs.List.{list_any, position_or_len, IsDistinct}
use Rattle.std.specs.Cmp.Lexicographic.{nat_list_eq_equiv}
use Rattle.std.proofs.lemmas.Bool.{cases_Bool, both_ways, or_parts, true≢false, lt-ltb, le-ltb}
use Rattle.std.proofs.lemmas.List.{length-map}
use Rattle.std.proofs.lemmas.List.Sums.{passes_at_first}
use Rattle.std.proofs.lemmas.Map.Keys.{IsDistinct-push, apart_from_distinct}
use Rattle.std.proofs.lemmas.Slice.Eq.{bytes_eq-Decides}
use Rattle.indexmap.specs.IndexSet.{insert_key}
use Rattle.topology.specs.Topology.{node_of}
use Rattle.topology.proofs.Distinct.{insert_new, insert_known}

-- the first place of an item that stands in the list is one of its places
pub position_within : {A : Type 0} (test : A → Bool) (xs : List A) → list_any test xs ≡ true → position_or_len test xs < length xs
position_within test [] h = absurd (true≢false (sym h))
position_within test (x ∷ xs) h = elim (cases_Bool (test x)) [
  | inl e ↦ rw e (omega arith)
  | inr e ↦ (let rest : list_any test xs ≡ true = sym (ap (λ b. b || list_any test xs) e) ∙ h in rw e (omega (arith, position_within test xs rest)))
]

-- and stays where more items follow
pub position_kept : {A : Type 0} (test : A → Bool) (xs ys : List A) → list_any test xs ≡ true → position_or_len test (xs ++ ys) ≡ position_or_len test xs
position_kept test [] ys h = absurd (true≢false (sym h))
position_kept test (x ∷ xs) ys h = elim (cases_Bool (test x)) [
  | inl e ↦ rw e refl
  | inr e ↦ (let rest : list_any test xs ≡ true = sym (ap (λ b. b || list_any test xs) e) ∙ h in rw e (ap (λ n. 1 + n) (position_kept test xs ys rest)))
]

-- an item that does not stand in the list would come after it
pub position_past : {A : Type 0} (test : A → Bool) (xs : List A) → list_any test xs ≡ false → position_or_len test xs ≡ length xs
position_past test [] h = refl
position_past test (x ∷ xs) h =
    let parts = or_parts (test x) (list_any test xs) h in
    rw parts.0 (omega (arith, position_past test xs parts.1))

-- where it is put there, that is its place
pub position_pushed : {A : Type 0} (test : A → Bool) (xs : List A) (x : A) → list_any test xs ≡ false → test x ≡ true → position_or_len test (xs ++ x ∷ []) ≡ length xs
position_pushed test [] x h here = rw here refl
position_pushed test (y ∷ xs) x h here =
    let parts = or_parts (test y) (list_any test xs) h in
    rw parts.0 (omega (arith, position_pushed test xs x parts.1 here))

-- an item stands at the first place within the list, or at none
pub any_within : {A : Type 0} (test : A → Bool) (xs : List A) → nat_lt (position_or_len test xs) (length xs) ≡ list_any test xs
any_within test xs = elim (cases_Bool (list_any test xs)) [
  | inl e ↦ lt-ltb (position_or_len test xs) (length xs) (position_within test xs e) ∙ sym e
  | inr e ↦ le-ltb (position_or_len test xs) (length xs) (omega (arith, position_past test xs e)) ∙ sym e
]

-- what a search that finds a place says, and one that finds none
pub position_found : {A : Type 0} (test : A → Bool) (xs : List A) (i : ℕ) → Some i ≡ position test xs → (i ≡ position_or_len test xs) × (list_any test xs ≡ true)
position_found test xs i h = elim (cases_Bool (list_any test xs)) [
  | inl e ↦ (some (h ∙ rw (any_within test xs, e) refl), e)
  | inr e ↦ absurd (none i (h ∙ rw (any_within test xs, e) refl))
]
  where
    some : {m n : ℕ} → Some m ≡ Some n → m ≡ n
    some e = cc

    none : (n : ℕ) → Some n ≡ None → ⊥
    none n e = cc

pub position_missed : {A : Type 0} (test : A → Bool) (xs : List A) → None ≡ position test xs → list_any test xs ≡ false
position_missed test xs h = elim (cases_Bool (list_any test xs)) [
  | inl e ↦ absurd (some (position_or_len test xs) (h ∙ rw (any_within test xs, e) refl))
  | inr e ↦ e
]
  where
    some : (n : ℕ) → None ≡ Some n → ⊥
    some n e = cc

-- the first place, seen through a map
pub position-map : {A B : Type 0} (f : A → B) (test : B → Bool) (xs : List A) → position test (map f xs) ≡ position (λ x. test (f x)) xs
position-map {A = A} f test xs = rw (length-map xs f, first xs) refl
  where
    first : (ys : List A) → position_or_len test (map f ys) ≡ position_or_len (λ x. test (f x)) ys
    first [] = refl
    first (y ∷ ys) = ap (λ n. cond (not (test (f y))) (1 + n) 0) (first ys)

-- ---- names

-- a name that stands keeps its number when a name is added
pub node_kept : (names : List (List ℕ)) (more name : List ℕ) → list_any (bytes_eq name) names ≡ true → node_of (insert_key bytes_eq names more) name ≡ node_of names name
unfolding node_of
node_kept names more name there = elim (cases_Bool (list_any (bytes_eq more) names)) [
  | inl known ↦ rw (insert_known bytes_eq names more known) refl
  | inr new ↦ rw (insert_new bytes_eq names more new) (position_kept (bytes_eq name) names (more ∷ []) there)
]

-- the name that is added has the number that was foreseen
pub node_added : (names : List (List ℕ)) (name : List ℕ) → node_of (insert_key bytes_eq names name) name ≡ node_of names name
unfolding node_of
node_added names name = elim (cases_Bool (list_any (bytes_eq name) names)) [
  | inl known ↦ rw (insert_known bytes_eq names name known) refl
  | inr new ↦ rw (insert_new bytes_eq names name new) (position_pushed (bytes_eq name) names name new ((bytes_eq-Decides name name).1 refl) ∙ sym (position_past (bytes_eq name) names new))
]

-- the number of a name that stands is that of a node
pub node_within : (names : List (List ℕ)) (name : List ℕ) → list_any (bytes_eq name) names ≡ true → node_of names name < length names
unfolding node_of
node_within names name there = position_within (bytes_eq name) names there

-- the name at its number is that name
pub name_of_node : (names : List (List ℕ)) (name d : List ℕ) → list_any (bytes_eq name) names ≡ true → get_or names (node_of names name) d ≡ name
unfolding node_of
name_of_node names name d there = sym ((bytes_eq-Decides name (get_or names (position_or_len (bytes_eq name) names) d)).0 (passes_at_first (bytes_eq name) names d (position_within (bytes_eq name) names there)))

-- different names have different numbers
pub nodes_differ : (names : List (List ℕ)) (a b : List ℕ) → bytes_eq a b ≡ false → list_any (bytes_eq a) names ≡ true → list_any (bytes_eq b) names ≡ true → node_of names a ≢ node_of names b
nodes_differ names a b differ here there same =
    let equal : a ≡ b = sym (name_of_node names a [] here) ∙ (ap (λ i. get_or names i []) same ∙ name_of_node names b [] there) in
    both_ways (bytes_eq a b) differ ((bytes_eq-Decides a b).1 equal)

-- names stay different when one is added
pub distinct_names : (names : List (List ℕ)) (name : List ℕ) → IsDistinct bytes_eq names → IsDistinct bytes_eq (insert_key bytes_eq names name)
distinct_names names name apart = elim (cases_Bool (list_any (bytes_eq name) names)) [
  | inl known ↦ rw (insert_known bytes_eq names name known) apart
  | inr new ↦ rw (insert_new bytes_eq names name new) (IsDistinct-push nat_list_eq_equiv names name apart new)
]

-- so no two of them are equal
pub names_differ : (names : List (List ℕ)) → IsDistinct bytes_eq names → AllPairs (λ x y. x ≢ y) names
names_differ names apart i j d lt within same =
    both_ways (bytes_eq (get_or names i d) (get_or names j d)) (apart_from_distinct bytes_eq names i j d apart lt within) ((bytes_eq-Decides (get_or names i d) (get_or names j d)).1 same)
