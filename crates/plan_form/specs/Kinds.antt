-- The kinds of rows of a plan, in the order in which they stand, and the formats that have them.
use Rattle.std.specs.Prelude.{ℕ, ◌==◌, ◌&&◌, ◌||◌, nat_le, Bool, true, false, cond, List, [], ◌∷◌, length, Option, Some, None, codes, decimal, bytes_eq, find, slice_index_or}
use Rattle.rows.specs.Rows.{Row}
use Rattle.topology.specs.Names.{is_name}
use Rattle.plan_form.specs.declared.kinds.Kind.{Kind}
use Rattle.plan_form.specs.declared.kinds.Kind.TheVariants.{Plan, Node, Link, Must, Not, Monitor, Pocket, Path, Recipe, End}

-- the number of the format that is printed
abbrev pub newest_format : ℕ
newest_format = 2

-- the number of the older format, which is still read
abbrev pub oldest_format : ℕ
oldest_format = 1

-- the kinds, in order
abbrev pub in_turn : List Kind
in_turn = Plan ∷ Node ∷ Link ∷ Must ∷ Not ∷ Monitor ∷ Pocket ∷ Path ∷ Recipe ∷ End ∷ []

-- the table: the place of each kind, the word that its rows begin with, how many fields they have, whether the second is their number, and the first format that has them
abbrev pub kind_table : Kind → ℕ × List ℕ × ℕ × Bool × ℕ
kind_table Plan = (0, codes "plan", 2, false, 1)
kind_table Node = (1, codes "node", 3, true, 1)
kind_table Link = (2, codes "link", 4, true, 1)
kind_table Must = (3, codes "must", 2, false, 2)
kind_table Not = (4, codes "not", 2, false, 2)
kind_table Monitor = (5, codes "monitor", 2, false, 1)
kind_table Pocket = (6, codes "pocket", 4, true, 1)
kind_table Path = (7, codes "path", 3, true, 1)
kind_table Recipe = (8, codes "recipe", 3, true, 1)
kind_table End = (9, codes "end", 1, false, 1)

-- where rows of the kind stand among those of other kinds
abbrev pub place : Kind → ℕ
place k = (kind_table k).0

-- the word
abbrev pub word : Kind → List ℕ
word k = (kind_table k).1

-- the number of fields
abbrev pub width : Kind → ℕ
width k = (kind_table k).2

-- the second field is the row's number among those of its kind
abbrev pub is_numbered : Kind → Bool
is_numbered k = (kind_table k).3

-- the first format that has rows of the kind
abbrev pub since : Kind → ℕ
since k = (kind_table k).4

-- the kind that a word names
abbrev pub kind_named : List ℕ → Option Kind
kind_named bytes = find (λ k. bytes_eq bytes (word k)) in_turn

-- the field at a place
abbrev pub field : Row → ℕ → List ℕ
field row i = slice_index_or row i []

-- the text is the number of a format
abbrev pub is_format : List ℕ → Bool
is_format text = bytes_eq text (decimal oldest_format) || bytes_eq text (decimal newest_format)

-- the row has the fields of its kind; a plan row has a format's number, and a node row a name
abbrev pub is_record : Row → Kind → Bool
is_record row Plan = (length row == width Plan) && is_format (field row 1)
is_record row Node = (length row == width Node) && is_name (field row 2)
is_record row k = length row == width k

-- the value, where it passes the test
abbrev pub filtered : {A : Type 0} → (A → Bool) → Option A → Option A
filtered test None = None
filtered test (Some x) = cond (test x) (Some x) None

-- the kind of a row in a format, where the format has it and the row is a record of it
unfoldable pub row_kind : ℕ → Row → Option Kind
row_kind format row = filtered (λ k. nat_le (since k) format && is_record row k) (kind_named (field row 0))
