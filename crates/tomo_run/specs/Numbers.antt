-- Numbers among the words.
use Rattle.std.specs.Prelude.{ℕ, ◌^◌, ◌&&◌, List, [], Bool, Option, Some, None, nat_lt, if◌then◌else◌, decimal, slice_index_or}
use Rattle.std.specs.Str.{bytes_eq}
use Rattle.std.specs.Str.Parse.{digits_value}
use Rattle.answers.specs.Drilling.{fit}
use Rattle.answers.specs.declared.drilling.DrillNumbers.{DrillNumbers}

-- the value of a word, if it is digits
abbrev pub value_of : List ℕ → ℕ
value_of word = digits_value 10 word

-- the word is the decimal of a number of 32 bits: so it has no zero in front, but for 0 itself
abbrev pub is_number : List ℕ → Bool
is_number word = bytes_eq word (decimal (value_of word)) && nat_lt (value_of word) (2 ^ 32)

-- that number
abbrev pub number_of : List ℕ → Option ℕ
number_of word = if is_number word then Some (value_of word) else None

-- three numbers, where a network can be drawn by them
abbrev pub numbers_in : Option ℕ → Option ℕ → Option ℕ → Option DrillNumbers
numbers_in None nodes links = None
numbers_in (Some seed) None links = None
numbers_in (Some seed) (Some nodes) None = None
numbers_in (Some seed) (Some nodes) (Some links) =
    if fit (record { seed = seed; nodes = nodes; links = links }) then Some (record { seed = seed; nodes = nodes; links = links }) else None

-- the three words after the first, as such numbers
abbrev pub numbers_of : List (List ℕ) → Option DrillNumbers
numbers_of words = numbers_in (number_of (slice_index_or words 1 [])) (number_of (slice_index_or words 2 [])) (number_of (slice_index_or words 3 []))
