-- A list of rows stays countable in 32 bits where a field is added or a row is closed.
use Rattle.std.proofs.Common.{sym, subst, ℕ, ◌+◌, ◌<◌, ◌^◌, List, [], ◌∷◌, ◌++◌, length, arith, length-append}
use Rattle.std.proofs.lemmas.List.Elements.{All-nil, All-push}
use Rattle.rows.specs.Rows.{RowList, IsFullRow, IsCountable}
use Rattle.rows.specs.Layout.{view_of, IsLaidOut}
use Rattle.rows.proofs.Cuts.{field-view, close-view, closed-length}

-- the list after a field is added, and after a row is closed
counted-field : (rows : RowList) (more : List ℕ) → IsCountable rows → length rows.current + 1 < 2 ^ 32
    → IsCountable (record rows { current = rows.current ++ more ∷ [] })
counted-field rows more is room = record {
  count = is.count;
  each = is.each;
  current = rw length-append room;
}

counted-close : (rows : RowList) → IsCountable rows → 0 < length rows.current → length rows.closed + 1 < 2 ^ 32
    → IsCountable (record { closed = rows.closed ++ rows.current ∷ []; current = [] })
counted-close rows is filled room = record {
  count = rw length-append room;
  each = All-push IsFullRow rows.closed rows.current is.each (filled, is.current);
  current = omega arith;
}

-- the view after a field is added
pub field-counted : (bytes ends row_ends more : List ℕ) → IsLaidOut bytes ends row_ends → IsCountable (view_of bytes ends row_ends)
    → length (view_of bytes ends row_ends).current + 1 < 2 ^ 32
    → IsCountable (view_of (bytes ++ more) (ends ++ length (bytes ++ more) ∷ []) row_ends)
field-counted bytes ends row_ends more cut is room =
    subst IsCountable (sym (field-view bytes ends row_ends more cut)) (counted-field (view_of bytes ends row_ends) more is room)

-- the view after a row is closed
pub close-counted : (bytes ends row_ends : List ℕ) → IsLaidOut bytes ends row_ends → IsCountable (view_of bytes ends row_ends)
    → 0 < length (view_of bytes ends row_ends).current → length (view_of bytes ends row_ends).closed + 1 < 2 ^ 32
    → IsCountable (view_of bytes ends (row_ends ++ length ends ∷ []))
close-counted bytes ends row_ends cut is filled room =
    subst IsCountable (sym (close-view bytes ends row_ends cut)) (counted-close (view_of bytes ends row_ends) is filled room)

-- no rows
pub none-counted : IsCountable (record { closed = []; current = [] })
none-counted = record { count = omega arith; each = All-nil IsFullRow; current = omega arith }

-- the closed rows, counted by their places
pub places-counted : (bytes ends row_ends : List ℕ) → IsCountable (view_of bytes ends row_ends) → length row_ends < 2 ^ 32
places-counted bytes ends row_ends is = omega (arith, is.count, closed-length bytes ends row_ends)
