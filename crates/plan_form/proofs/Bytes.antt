-- The nodes of paths are no more than the bytes of their rows.
use Rattle.std.proofs.Common.{◌≡◌, ℕ, ◌+◌, ◌<◌, ◌≤◌, ◌^◌, List, [], ◌∷◌, length, arith, length-append, All}
use Rattle.std.specs.Fmt.{decimal}
use Rattle.std.proofs.lemmas.Fmt.{decimal_nonempty}
use Rattle.std.proofs.lemmas.List.Elements.{All-head, All-tail}
use Rattle.std.proofs.lemmas.List.Sums.{sum_by-cons}
use Rattle.rows.specs.Rows.{Row, row_bytes, byte_count}
use Rattle.simple_path.specs.Pools.{nodes_in}
use Rattle.plan_form.specs.Parts.{IsSmall, IsNodeList}
use Rattle.plan_form.specs.PlanRows.{path_row, numbered}
use Rattle.plan_form.specs.Spelling.{space, numbers_text}

-- a list of numbers has a byte for each
text_holds : (ns : List ℕ) → All IsSmall ns → length ns ≤ length (numbers_text ns)
text_holds [] small = omega arith
text_holds (n ∷ []) small = omega (arith, decimal_nonempty n (omega (arith, All-head IsSmall n [] small)))
text_holds (n ∷ m ∷ ns) small =
    omega (arith, length-append (decimal n) (space ∷ numbers_text (m ∷ ns)), text_holds (m ∷ ns) (All-tail IsSmall n (m ∷ ns) small))

-- and its row four more
pub path_row_holds : (i : ℕ) (nodes : List ℕ) → IsNodeList nodes → length nodes + 4 ≤ row_bytes (path_row i nodes)
path_row_holds i nodes is = omega (arith, text_holds nodes is.1)

-- so do the rows of paths
pub path_rows_hold : (i : ℕ) (paths : List (List ℕ)) → All IsNodeList paths → length paths + nodes_in paths ≤ byte_count (numbered path_row i paths)
unfolding numbered
path_rows_hold i [] fit = omega arith
path_rows_hold i (p ∷ ps) fit =
    omega (arith, sum_by-cons row_bytes (path_row i p) (numbered path_row (i + 1) ps), path_row_holds i p (All-head IsNodeList p ps fit), path_rows_hold (i + 1) ps (All-tail IsNodeList p ps fit))

-- where the rows of paths and the row of one more have few bytes, there is room for the path
pub path_room : (row : Row) (i : ℕ) (paths : List (List ℕ)) (nodes : List ℕ) → All IsNodeList paths → IsNodeList nodes → row ≡ path_row i nodes → byte_count (numbered path_row 0 paths) + row_bytes row < 2 ^ 31
    → (length paths + 1 < 2 ^ 31) × (nodes_in paths + length nodes < 2 ^ 31)
path_room row i paths nodes all one is few =
    let bytes = rw is at few in
    let held = path_rows_hold 0 paths all in
    let here = path_row_holds i nodes one in
    (omega (arith, held, here, bytes), omega (arith, held, here, bytes))
