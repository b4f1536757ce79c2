-- Which node a search for a name finds.
use Rattle.std.proofs.Common.{◌≡◌, ◌≢◌, ℕ, ◌<◌, false, List, [], length, get_or, slice_get, refl, sym, ap, ◌∙◌, inl, inr, arith, All, AllPairs, IsTrue, bytes_eq, position, Some, None, Option, IfSome, IfNone}
use Rattle.std.specs.List.{list_any, position_or_len}
use Rattle.std.proofs.lemmas.Bool.{cases_Bool, both_ways, false_from_ne_true, lt-ltb}
use Rattle.std.proofs.lemmas.List.Folds.{list_any_none}
use Rattle.std.proofs.lemmas.List.Sums.{passes_at_first, position_or_len_is}
use Rattle.std.proofs.lemmas.Option.{slice_get-get_or, get_or_from_slice_get, slice_get_within}
use Rattle.std.proofs.lemmas.Slice.Eq.{bytes_eq-Decides}
use Rattle.topology.specs.Names.{is_name}
use Rattle.topology.proofs.Numbers.{position_within, any_within, position_missed}

-- the number that a search for a name finds is a number of the name
pub name_found : (names : List (List ℕ)) (name : List ℕ) → IfSome (position (bytes_eq name) names) (λ v. slice_get names v ≡ Some name)
name_found names name = elim (cases_Bool (list_any (bytes_eq name) names)) [
  | inl e ↦ rw (any_within (bytes_eq name) names, e) (at_first (position_within (bytes_eq name) names e))
  | inr e ↦ rw (any_within (bytes_eq name) names, e) tt
]
  where
    at_first : position_or_len (bytes_eq name) names < length names → slice_get names (position_or_len (bytes_eq name) names) ≡ Some name
    at_first within = slice_get-get_or names (position_or_len (bytes_eq name) names) name within
        ∙ ap Some (sym ((bytes_eq-Decides name (get_or names (position_or_len (bytes_eq name) names) name)).0 (passes_at_first (bytes_eq name) names name within)))

-- where no two names are equal, the number of a name is found
pub name_is_found : (names : List (List ℕ)) (name : List ℕ) (v : ℕ) → AllPairs (λ x y. x ≢ y) names → slice_get names v ≡ Some name → position (bytes_eq name) names ≡ Some v
name_is_found names name v differ at =
    let within : v < length names = slice_get_within names v name at in
    let is : get_or names v [] ≡ name = get_or_from_slice_get names v name [] at in
    let first : position_or_len (bytes_eq name) names ≡ v = position_or_len_is (bytes_eq name) names v [] (omega arith)
    (λ k lt. false_from_ne_true (bytes_eq name (get_or names k [])) (λ e. differ k v [] lt within (sym ((bytes_eq-Decides name (get_or names k [])).0 e) ∙ sym is)))
    (λ l. (bytes_eq-Decides name (get_or names v [])).1 (sym is)) in
    rw (first, lt-ltb v (length names) within) refl

-- no node has as its name what is no name
pub no_name_stands : (names : List (List ℕ)) (name : List ℕ) → All (λ x. IsTrue (is_name x)) names → is_name name ≡ false → list_any (bytes_eq name) names ≡ false
no_name_stands names name named none = list_any_none (bytes_eq name) names (λ k d l.
    false_from_ne_true (bytes_eq name (get_or names k d)) (λ e. both_ways (is_name name) none (ap is_name ((bytes_eq-Decides name (get_or names k d)).0 e) ∙ named k d l)))

-- where a search finds no number, the name does not stand
pub missed_name : (names : List (List ℕ)) (name : List ℕ) (o : Option ℕ) → o ≡ position (bytes_eq name) names → IfNone o (list_any (bytes_eq name) names ≡ false)
missed_name names name None is = position_missed (bytes_eq name) names is
missed_name names name (Some v) is = tt
