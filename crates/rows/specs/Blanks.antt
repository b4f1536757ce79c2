-- The blanks at the ends of a field.
use Rattle.std.specs.Prelude.{ℕ, Bool, ◌==◌, ◌||◌, List, [], ◌∷◌, reverse, if◌then◌else◌}

-- a space or a tab
abbrev pub is_blank : ℕ → Bool
is_blank b = (b == 32) || (b == 9)

-- the bytes from the first one on that is no blank
unfoldable pub after_blanks : List ℕ → List ℕ
after_blanks [] = []
after_blanks (b ∷ bs) = if is_blank b then after_blanks bs else b ∷ bs

-- the field without the blanks at its ends
unfoldable pub trimmed : List ℕ → List ℕ
trimmed field = reverse (after_blanks (reverse (after_blanks field)))
