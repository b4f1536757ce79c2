-- How a list of rows is kept: one buffer of bytes, cut into fields, and these cut into rows.
use Rattle.std.specs.Prelude.{ℕ, ◌≡◌, ◌-◌, List, [], ◌∷◌, length, take, drop}
use Rattle.csv.specs.Records.{Rising, last_end}
use Rattle.rows.specs.Rows.{RowList}

-- the parts that end at these places, after a start
unfoldable pub cut : {A : Type 0} → ℕ → List ℕ → List A → List (List A)
cut start [] xs = []
cut start (end ∷ ends) xs = take (end - start) (drop start xs) ∷ cut end ends xs

-- the rows of bytes that are cut into fields at `ends`, and these into rows at `row_ends`
abbrev pub view_of : List ℕ → List ℕ → List ℕ → RowList
view_of bytes ends row_ends = record {
  closed = cut 0 row_ends (cut 0 ends bytes);
  current = drop (last_end 0 row_ends) (cut 0 ends bytes);
}

-- what the places keep: they are in order, and the last field ends with the bytes
pub record IsLaidOut (bytes ends row_ends : List ℕ) : Type 0 where
  pub fields : Rising 0 ends (length bytes)
  pub whole : last_end 0 ends ≡ length bytes
  pub rows : Rising 0 row_ends (length ends)
