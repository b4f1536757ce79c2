-- Lists in which each item stands once.
use Rattle.std.specs.Prelude.{Bool, not, List, [], ◌∷◌, filter}

-- each item once, at the place of its first appearance
unfoldable pub distinct : {A : Type 0} → (A → A → Bool) → List A → List A
distinct eq [] = []
distinct eq (x ∷ xs) = x ∷ filter (λ y. not (eq x y)) (distinct eq xs)
