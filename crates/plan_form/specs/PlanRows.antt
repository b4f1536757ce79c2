-- The rows of a plan: one row for each item, in the order of the table, each spelled in one way.
use Rattle.std.specs.Prelude.{ℕ, ◌≡◌, ◌<◌, ◌+◌, ◌^◌, ◌⊎◌, List, [], ◌∷◌, ◌++◌, flat_map, length, decimal, codes, ⊤}
use Rattle.tomo_base.specs.declared.graph.Link.{Link}
use Rattle.simple_path.specs.declared.recipe.Term.{Term}
use Rattle.rows.specs.Rows.{Row, RowList}
use Rattle.plan_form.specs.declared.kinds.Kind.{Kind}
use Rattle.plan_form.specs.declared.kinds.Kind.TheVariants as kinds
use Rattle.plan_form.specs.Kinds.{newest_format, oldest_format, in_turn}
use Rattle.plan_form.specs.Spelling.{numbers_text, terms_text}
use Rattle.plan_form.specs.Parts.{PlanPocket, PlanParts, IsSmall, IsNodeList, IsTermList, IsName, IsSmallLink, IsSmallPocket}

abbrev pub plan_row : ℕ → Row
plan_row format = codes "plan" ∷ decimal format ∷ []

abbrev pub node_row : ℕ → List ℕ → Row
node_row i name = codes "node" ∷ decimal i ∷ name ∷ []

abbrev pub link_row : ℕ → Link → Row
link_row i l = codes "link" ∷ decimal i ∷ decimal l.a ∷ decimal l.b ∷ []

abbrev pub must_row : ℕ → Row
must_row v = codes "must" ∷ decimal v ∷ []

abbrev pub not_row : ℕ → Row
not_row v = codes "not" ∷ decimal v ∷ []

abbrev pub monitor_row : ℕ → Row
monitor_row v = codes "monitor" ∷ decimal v ∷ []

abbrev pub pocket_row : ℕ → PlanPocket → Row
pocket_row i p = codes "pocket" ∷ decimal i ∷ decimal p.need ∷ numbers_text p.nodes ∷ []

abbrev pub path_row : ℕ → List ℕ → Row
path_row i nodes = codes "path" ∷ decimal i ∷ numbers_text nodes ∷ []

abbrev pub recipe_row : ℕ → List Term → Row
recipe_row i terms = codes "recipe" ∷ decimal i ∷ terms_text terms ∷ []

abbrev pub end_row : Row
end_row = codes "end" ∷ []

-- what a row of the kind tells besides its number
abbrev pub Item : Kind → Type 0
Item kinds.Plan = ℕ
Item kinds.Node = List ℕ
Item kinds.Link = Link
Item kinds.Must = ℕ
Item kinds.Not = ℕ
Item kinds.Monitor = ℕ
Item kinds.Pocket = PlanPocket
Item kinds.Path = List ℕ
Item kinds.Recipe = List Term
Item kinds.End = ⊤

-- it can be told; a plan row tells the number of a format
abbrev pub IsItem : (k : Kind) → Item k → Type 0
IsItem kinds.Plan format = (format ≡ oldest_format) ⊎ (format ≡ newest_format)
IsItem kinds.Node name = IsName name
IsItem kinds.Link l = IsSmallLink l
IsItem kinds.Must v = IsSmall v
IsItem kinds.Not v = IsSmall v
IsItem kinds.Monitor v = IsSmall v
IsItem kinds.Pocket p = IsSmallPocket p
IsItem kinds.Path nodes = IsNodeList nodes
IsItem kinds.Recipe terms = IsTermList terms
IsItem kinds.End t = ⊤

-- the row with number i that tells it
abbrev pub row_of : (k : Kind) → ℕ → Item k → Row
row_of kinds.Plan i format = plan_row format
row_of kinds.Node i name = node_row i name
row_of kinds.Link i l = link_row i l
row_of kinds.Must i v = must_row v
row_of kinds.Not i v = not_row v
row_of kinds.Monitor i v = monitor_row v
row_of kinds.Pocket i p = pocket_row i p
row_of kinds.Path i nodes = path_row i nodes
row_of kinds.Recipe i terms = recipe_row i terms
row_of kinds.End i t = end_row

-- what the rows of the kind tell of a plan in a format
abbrev pub items : ℕ → PlanParts → (k : Kind) → List (Item k)
items format p kinds.Plan = format ∷ []
items format p kinds.Node = p.names
items format p kinds.Link = p.links
items format p kinds.Must = p.forced
items format p kinds.Not = p.barred
items format p kinds.Monitor = p.monitors
items format p kinds.Pocket = p.pockets
items format p kinds.Path = p.paths
items format p kinds.Recipe = p.recipes
items format p kinds.End = tt ∷ []

-- rows with the numbers i, i + 1, ..
unfoldable pub numbered : {A : Type 0} → (ℕ → A → Row) → ℕ → List A → List Row
numbered f i [] = []
numbered f i (x ∷ xs) = f i x ∷ numbered f (i + 1) xs

-- the rows of one kind
abbrev pub rows_of_kind : ℕ → PlanParts → Kind → List Row
rows_of_kind format p k = numbered (row_of k) 0 (items format p k)

-- the rows of a plan in a format: those of each kind in turn
abbrev pub rows_in : ℕ → PlanParts → List Row
rows_in format p = flat_map (rows_of_kind format p) in_turn

-- the rows of a plan
abbrev pub plan_rows : PlanParts → List Row
plan_rows p = rows_in newest_format p

-- a format can tell the plan: the newest can, and the oldest where no node is forced or barred
abbrev pub IsToldIn : ℕ → PlanParts → Type 0
IsToldIn format p = (format ≡ newest_format) ⊎ ((format ≡ oldest_format) × (p.forced ≡ []) × (p.barred ≡ []))

-- the rows are those of the plan in a format that can tell it
pub record AreRowsOf (rows : List Row) (p : PlanParts) : Type 0 where
  pub format : ℕ
  pub told : IsToldIn format p
  pub rows_are : rows ≡ rows_in format p

-- how many rows a plan has
abbrev pub row_count : PlanParts → ℕ
row_count p =
    length p.names + length p.links + length p.forced + length p.barred + length p.monitors + length p.pockets + length p.paths + length p.recipes + 2

-- these rows were added at the end, and none is at hand
abbrev pub AddsRows : RowList → RowList → List Row → Type 0
AddsRows old new rows = (new.closed ≡ old.closed ++ rows) × (new.current ≡ [])

-- no field is at hand, and there is room for so many rows more
abbrev pub HasRoomForRows : RowList → ℕ → Type 0
HasRoomForRows rows n = (rows.current ≡ []) × (length rows.closed + n < 2 ^ 32)

-- a row for each item was added, each with its number from 0 on
abbrev pub AddsEach : {A : Type 0} → (ℕ → A → Row) → List A → RowList → RowList → Type 0
AddsEach row items old new = AddsRows old new (numbered row 0 items) × (length new.closed ≡ length old.closed + length items)
