-- What is known of the rows up to a place, one row on and at the end.
use Rattle.std.proofs.Common.{◌≡◌, ℕ, ◌+◌, ◌<◌, ◌≤◌, Bool, List, [], ◌∷◌, ◌++◌, length, take, get_or, inl, inr, arith, None}
use Rattle.std.proofs.lemmas.Bool.{cases_eq}
use Rattle.std.proofs.lemmas.List.{take_more, drop-append-le, length-take}
use Rattle.rows.specs.Rows.{Row}
use Rattle.tomo_base.specs.declared.graph.Link.{Link}
use Rattle.topology.specs.Faults.{skipped, examined, fault_at, AllFine}
use Rattle.topology.specs.Draft.{IsDraftOf}

-- one row on
pub examined_more : (header : Bool) (rows : List Row) (i : ℕ) → skipped header ≤ i → i < length rows
    → examined header (take (i + 1) rows) ≡ examined header (take i rows) ++ get_or rows i [] ∷ []
examined_more header rows i after within =
    let inside : skipped header ≤ length (take i rows) = omega (arith, length-take i rows) in
    rw (take_more rows i [] within) (drop-append-le (skipped header) (take i rows) (get_or rows i [] ∷ []) inside)

-- one more row without a fault
pub fine_more : (header : Bool) (rows : List Row) (i : ℕ) → AllFine header rows i → fault_at header rows i ≡ None → AllFine header rows (i + 1)
fine_more header rows i fine here k after before = elim (cases_eq k i) [
  | inl same ↦ rw same here
  | inr other ↦ fine k after (omega (arith, before, other))
]

-- what is known when the rows before a place have been read
pub record HasRead (header : Bool) (rows : List Row) (names : List (List ℕ)) (links : List Link) (i : ℕ) : Type 0 where
  pub after : skipped header ≤ i
  pub draft : IsDraftOf (examined header (take i rows)) names links
  pub fine : AllFine header rows i

-- one row on
pub read_more : (header : Bool) (rows : List Row) (names names' : List (List ℕ)) (links links' : List Link) (i : ℕ) → i < length rows → HasRead header rows names links i
    → (fault_at header rows i ≡ None) × IsDraftOf (examined header (take i rows) ++ get_or rows i [] ∷ []) names' links' → HasRead header rows names' links' (i + 1)
read_more header rows names names' links links' i within read taken = record {
  after = omega (arith, read.after);
  draft = rw (examined_more header rows i read.after within) taken.1;
  fine = fine_more header rows i read.fine taken.0;
}
