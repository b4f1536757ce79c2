-- Which nodes the rows before a place name, one row on and at the end.
use Rattle.std.proofs.Common.{◌≡◌, ◌≢◌, ℕ, ◌+◌, ◌<◌, ◌≤◌, Bool, false, ◌||◌, ◌==◌, List, [], length, take, get_or, slice_get, refl, ap, ◌∙◌, inl, inr, arith, AllPairs, bytes_eq, Some}
use Rattle.std.specs.List.{list_any}
use Rattle.std.specs.List.Sorted.{IsStrictlyIncreasing}
use Rattle.std.proofs.lemmas.Bool.{cases_eq, ne_eqb}
use Rattle.std.proofs.lemmas.List.{take_all}
use Rattle.std.proofs.lemmas.List.Folds.{list_any-from_Any}
use Rattle.std.proofs.lemmas.Option.{get_or_from_slice_get, slice_get_within}
use Rattle.std.proofs.lemmas.Slice.Eq.{bytes_eq-Decides}
use Rattle.tomo_base.specs.Sets.{has}
use Rattle.rows.specs.Rows.{Row}
use Rattle.topology.specs.declared.faults.MonFault.TheVariants.{Unknown}
use Rattle.topology.specs.Names.{name_at}
use Rattle.topology.specs.Monitors.{is_known, AllKnown, IsMonFault, monitors_of}
use Rattle.topology.proofs.Picked.{is_picked, picked_more, picked_none, picked_are, same_name}

-- a row names the node with the name in its first field
abbrev pub names_it : List ℕ → Row → Bool
names_it name row = bytes_eq (name_at row 0) name

-- v is a node, and one of the rows names it
abbrev pub is_named : List (List ℕ) → List Row → ℕ → Bool
is_named names rows v = is_picked names_it names rows v

-- the node of one more row is named
pub named_more : (names : List (List ℕ)) (rows : List Row) (i v w : ℕ) → AllPairs (λ x y. x ≢ y) names → i < length rows → slice_get names v ≡ Some (name_at (get_or rows i []) 0)
    → ((v == w) || is_named names (take i rows) w) ≡ is_named names (take (i + 1) rows) w
named_more names rows i v w differ within at = picked_more names_it names rows i w (v == w) within (λ lt. same_name names (name_at (get_or rows i []) 0) v w differ at lt)
    (λ ge. ne_eqb v w (λ e. omega (arith, slice_get_within names v _ at, e, ge)))

-- an ascending list of the nodes that the rows name is their list
pub monitors_are : (names : List (List ℕ)) (rows : List Row) (i : ℕ) (monitors : List ℕ) → length rows ≤ i → IsStrictlyIncreasing monitors → ((w : ℕ) → has monitors w ≡ is_named names (take i rows) w)
    → monitors ≡ monitors_of names rows
unfolding monitors_of
monitors_are names rows i monitors past up named = picked_are names_it names rows monitors up (λ w. named w ∙ rw (take_all i rows past) refl)

-- one more row that names a node
pub known_more : (names : List (List ℕ)) (rows : List Row) (i v : ℕ) → AllKnown names rows i → slice_get names v ≡ Some (name_at (get_or rows i []) 0) → AllKnown names rows (i + 1)
unfolding is_known
known_more names rows i v known at k before = elim (cases_eq k i) [
  | inl same ↦ rw same (list_any-from_Any (bytes_eq (name_at (get_or rows i []) 0)) names
      (v, name_at (get_or rows i []) 0, slice_get_within names v _ at, get_or_from_slice_get names v _ _ at, (bytes_eq-Decides (name_at (get_or rows i []) 0) (name_at (get_or rows i []) 0)).1 refl))
  | inr other ↦ known k (omega (arith, before, other))
]

-- what is known when the rows before a place have been read
pub record HasNamed (names : List (List ℕ)) (rows : List Row) (monitors : List ℕ) (i : ℕ) : Type 0 where
  pub known : AllKnown names rows i
  pub named : (w : ℕ) → has monitors w ≡ is_named names (take i rows) w

-- at the start
pub read_none : (names : List (List ℕ)) (rows : List Row) (monitors : List ℕ) → monitors ≡ [] → HasNamed names rows monitors 0
read_none names rows monitors none = rw none (record {
  known = λ k before. absurd (omega arith);
  named = picked_none names_it names;
})

-- one row on
pub read_more : (names : List (List ℕ)) (rows : List Row) (old new : List ℕ) (i v : ℕ) → AllPairs (λ x y. x ≢ y) names → i < length rows → slice_get names v ≡ Some (name_at (get_or rows i []) 0)
    → ((w : ℕ) → has new w ≡ ((v == w) || has old w)) → HasNamed names rows old i → HasNamed names rows new (i + 1)
read_more names rows old new i v differ within at added read = record {
  known = known_more names rows i v read.known at;
  named = λ w. added w ∙ (ap (λ b. (v == w) || b) (read.named w) ∙ named_more names rows i v w differ within at);
}

-- a row that names no node is the first
pub first_unknown : (names : List (List ℕ)) (rows : List Row) (i : ℕ) → AllKnown names rows i → i < length rows → list_any (bytes_eq (name_at (get_or rows i []) 0)) names ≡ false → IsMonFault names rows (Unknown (i + 1))
unfolding is_known
first_unknown names rows i known within none = (i, refl, within, known, none)
