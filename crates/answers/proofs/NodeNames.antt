-- Nodes are named in a row, one after the other.
use Rattle.std.proofs.Common.{◌≡◌, ◌<◌, ◌+◌, ◌^◌, ◌++◌, ◌∷◌, [], ℕ, List, map, take, length, get_or, arith, sym, ap, ◌∙◌, append_assoc, length-append}
use Rattle.std.proofs.lemmas.List.{map_more, length-map, length-take-le}
use Rattle.rows.specs.Rows.{RowList}

-- the open row with the names of the first i nodes behind what stood there
abbrev pub named : RowList → List (List ℕ) → List ℕ → ℕ → RowList
named before names nodes i = record { closed = before.closed; current = before.current ++ map (λ v. get_or names v []) (take i nodes) }

-- there is room for one name more
pub named_few : (before : RowList) (names : List (List ℕ)) (nodes : List ℕ) (i : ℕ) (rows : RowList) → i < length nodes → length before.current + length nodes < 2 ^ 32 → rows ≡ named before names nodes i
    → length rows.current + 1 < 2 ^ 32
named_few before names nodes i rows l room same =
    rw same (omega (arith, l, room, length-append before.current (map (λ v. get_or names v []) (take i nodes)), length-map (take i nodes) (λ v. get_or names v []), length-take-le i nodes (omega (arith, l))))

-- one name more
pub named_more : (before : RowList) (names : List (List ℕ)) (nodes : List ℕ) (i : ℕ) (old new : RowList) (name : List ℕ) → i < length nodes → name ≡ get_or names (get_or nodes i 0) []
    → old ≡ named before names nodes i → new ≡ record old { current = old.current ++ name ∷ [] } → new ≡ named before names nodes (i + 1)
named_more before names nodes i old new name l is so_far more =
    let names_so_far = map (λ v. get_or names v []) (take i nodes) in
    more ∙ rw so_far (ap (λ fields. record { closed = before.closed; current = fields })
    (append_assoc before.current names_so_far (name ∷ []) ∙ ap (λ fields. before.current ++ fields) (ap (λ x. names_so_far ++ x ∷ []) is ∙ sym (map_more (λ v. get_or names v []) nodes i 0 l))))
