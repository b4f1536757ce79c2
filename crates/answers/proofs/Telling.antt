-- Rows that were added kind after kind are the rows of the whole.
use Rattle.std.proofs.Common.{◌≡◌, List, [], ◌∷◌, ◌++◌, ap, append_assoc, refl}
use Rattle.rows.specs.Rows.{Row, RowList}
use Rattle.plan_form.specs.PlanRows.{AddsRows}

-- rows of four kinds, and a last one
pub added_four : (r₀ r₁ r₂ r₃ r₄ r₅ : RowList) (names cuts blocks threes : List Row) (last : Row) → r₀ ≡ record { closed = []; current = [] } → AddsRows r₀ r₁ names → AddsRows r₁ r₂ cuts → AddsRows r₂ r₃ blocks
    → AddsRows r₃ r₄ threes → AddsRows r₄ r₅ (last ∷ []) → r₅.closed ≡ names ++ (cuts ++ (blocks ++ (threes ++ last ∷ [])))
added_four r₀ r₁ r₂ r₃ r₄ r₅ names cuts blocks threes last none a b c d e =
    let start : r₀.closed ≡ [] = ap (λ (r : RowList). r.closed) none in
    rw (e.0, d.0, c.0, b.0, a.0, start) (simp append_assoc)

-- rows of one kind, and a last one
pub added_one : (r₀ r₁ r₂ : RowList) (nodes : List Row) (last : Row) → r₀ ≡ record { closed = []; current = [] } → AddsRows r₀ r₁ nodes → AddsRows r₁ r₂ (last ∷ []) → r₂.closed ≡ nodes ++ last ∷ []
added_one r₀ r₁ r₂ nodes last none a b =
    let start : r₀.closed ≡ [] = ap (λ (r : RowList). r.closed) none in
    rw (b.0, a.0, start) refl
