-- How long the text of a plan is.
use Rattle.std.proofs.Common.{refl, ◌≡◌, ◌∙◌, subst, ℕ, suc, ◌+◌, ◌*◌, ◌^◌, ◌<◌, ◌≤◌, true, List, [], ◌∷◌, ◌++◌, map, length, get_or, not, ◌||◌, ◌==◌, arith, length-append, All, inl, inr, ℤ, pos, negsuc, rules}
use Rattle.std.specs.Fmt.{decimal, signed_decimal}
use Rattle.std.specs.Int.{IsInRange}
use Rattle.std.specs.List.{join_with_byte, sum_by, flat_map}
use Rattle.std.proofs.lemmas.Bool.{cases_Bool}
use Rattle.std.proofs.lemmas.Bool.Decides.{nat_tests}
use Rattle.std.proofs.lemmas.Fmt.{decimal_is_IsNumeral, length-decimal-le}
use Rattle.std.proofs.lemmas.List.{get_or_default}
use Rattle.std.proofs.lemmas.List.Elements.{All-cons, All-head, All-tail}
use Rattle.std.proofs.lemmas.List.Folds.{list_all-append}
use Rattle.std.proofs.lemmas.List.Sums.{sum_by-append, sum_by-cons}
use Rattle.std.proofs.lemmas.Str.Parse.{digit_at}
use Rattle.tomo_base.specs.Limits.{link_limit, node_limit}
use Rattle.rows.specs.Rows.{is_plain, field_size, row_size}
use Rattle.rows.specs.Laws.{TextFits}
use Rattle.simple_path.specs.declared.recipe.Term.{Term}
use Rattle.plan_form.specs.declared.kinds.Kind.{Kind}
use Rattle.plan_form.specs.declared.kinds.Kind.TheVariants as kinds
use Rattle.plan_form.specs.Kinds.{newest_format, in_turn}
use Rattle.plan_form.specs.Laws.{PrintedIsShort}
use Rattle.plan_form.specs.Limits.{AreFewNodes, IsLowLink, IsLowPocket, AreFewTerms, IsWithinLimits, path_limit}
use Rattle.plan_form.specs.Parts.{PlanParts, IsCoefficient}
use Rattle.plan_form.specs.PlanRows.{Item, items, row_of, numbered, rows_of_kind, plan_rows}
use Rattle.plan_form.specs.Spelling.{space, colon, numbers_text, term_text, terms_text}

-- the field needs no quotes, and has at most k bytes
abbrev Fits : ℕ → List ℕ → Type 0
Fits k field = (is_plain field ≡ true) × (length field ≤ k)

-- such a field is printed as it stands
fits_size : (k : ℕ) (field : List ℕ) → Fits k field → field_size field ≤ k
fits_size k field fits = rw fits.0 fits.1

-- a name of at most 64 bytes may stand in quotes, each byte doubled
name_size : (name : List ℕ) → length name ≤ 64 → field_size name ≤ 130
name_size name few = elim (cases_Bool (is_plain name)) [ inl plain ↦ rw plain (omega (arith, few)) | inr other ↦ rw other (omega (arith, few)) ]

-- two fields, one behind the other
fits_append : (j k : ℕ) (xs ys : List ℕ) → Fits j xs → Fits k ys → Fits (j + k) (xs ++ ys)
fits_append j k xs ys first second = (list_all-append _ xs ys ∙ rw (first.0, second.0) refl, omega (arith, length-append xs ys, first.1, second.1))

-- digits need no quotes
digits_plain : (text : List ℕ) → All (IsInRange 48 57) text → is_plain text ≡ true
digits_plain [] each = refl
digits_plain (b ∷ text) each = rw (plain b (All-head (IsInRange 48 57) b text each), digits_plain text (All-tail (IsInRange 48 57) b text each)) refl
  where
    plain : (b : ℕ) → IsInRange 48 57 b → not ((b == 44) || (b == 34) || (b == 13) || (b == 10)) ≡ true
    plain b digit = grind (arith, nat_tests)

-- a number of at most k digits
decimal_fits : (k n : ℕ) → 0 < k → n < 10 ^ k → n < 2 ^ 32 → Fits k (decimal n)
decimal_fits k n some few small = (
  digits_plain (decimal n) (λ i d l. subst (IsInRange 48 57) (get_or_default (decimal n) i 0 d l) (digit_at (decimal n) i (decimal_is_IsNumeral n (omega (arith, small))).0.1 l)),
  length-decimal-le k n some few (omega (arith, small)),
)

-- the number of a node
node_fits : (n : ℕ) → n < node_limit → Fits 4 (decimal n)
node_fits n low = decimal_fits 4 n (omega arith) (omega (arith, low)) (omega (arith, low))

-- a number of a row
number_fits : (n : ℕ) → n < path_limit → Fits 5 (decimal n)
number_fits n low = decimal_fits 5 n (omega arith) (omega (arith, low)) (omega (arith, low))

-- a coefficient, with its sign
signed_fits : (z : ℤ) → IsCoefficient z → Fits 2 (signed_decimal z)
signed_fits (pos n) h = let one = decimal_fits 1 n (omega arith) (omega (arith, h.1)) (omega (arith, h.1)) in (one.0, omega (arith, one.1))
signed_fits (negsuc n) h = fits_append 1 1 (45 ∷ []) (decimal (suc n)) (refl, omega arith) (decimal_fits 1 (suc n) (omega arith) (omega (arith, h)) (omega (arith, h)))

-- a term
term_fits : (t : Term) → IsCoefficient t.coef × (t.path < path_limit) → Fits 8 (term_text t)
term_fits t h = fits_append 2 6 (signed_decimal t.coef) (colon ∷ decimal t.path) (signed_fits t.coef h.0) (fits_append 1 5 (colon ∷ []) (decimal t.path) (refl, omega arith) (number_fits t.path h.1))

-- items joined by spaces: each has one byte more
joined_fits : {A : Type 0} (f : A → List ℕ) (k : ℕ) (xs : List A) → All (λ x. Fits k (f x)) xs → Fits (length xs * (k + 1)) (join_with_byte space (map f xs))
joined_fits f k [] each = (refl, omega arith)
joined_fits {A} f k (x ∷ []) each = let one = All-head (λ (y : A). Fits k (f y)) x [] each in (one.0, omega (arith, one.1))
joined_fits {A} f k (x ∷ y ∷ xs) each =
    let one = All-head (λ (z : A). Fits k (f z)) x (y ∷ xs) each in
    let rest = joined_fits f k (y ∷ xs) (All-tail (λ (z : A). Fits k (f z)) x (y ∷ xs) each) in
    let more = fits_append 1 (length (y ∷ xs) * (k + 1)) (space ∷ []) (join_with_byte space (map f (y ∷ xs))) (refl, omega arith) rest in
    let all = fits_append k (1 + length (y ∷ xs) * (k + 1)) (f x) (space ∷ join_with_byte space (map f (y ∷ xs))) one more in
    (all.0, omega (arith, all.1))

-- a list of nodes
nodes_fit : (nodes : List ℕ) → AreFewNodes nodes → Fits (5 * node_limit) (numbers_text nodes)
nodes_fit nodes few =
    let joined = joined_fits decimal 4 nodes (λ i d l. node_fits (get_or nodes i d) (few.1 i d l)) in
    (joined.0, omega (arith, joined.1, few.0))

-- a list of terms
terms_fit : (terms : List Term) → AreFewTerms terms → Fits 144 (terms_text terms)
terms_fit terms few =
    let joined = joined_fits term_text 8 terms (λ i d l. term_fits (get_or terms i d) (few.1 i d l)) in
    (joined.0, omega (arith, joined.1, few.0))

-- what the rows of a plan within the limits tell
abbrev IsLowItem : (k : Kind) → Item k → Type 0
IsLowItem kinds.Plan format = format < 10
IsLowItem kinds.Node name = length name ≤ 64
IsLowItem kinds.Link l = IsLowLink l
IsLowItem kinds.Must v = v < node_limit
IsLowItem kinds.Not v = v < node_limit
IsLowItem kinds.Monitor v = v < node_limit
IsLowItem kinds.Pocket p = IsLowPocket p
IsLowItem kinds.Path nodes = AreFewNodes nodes
IsLowItem kinds.Recipe terms = AreFewTerms terms
IsLowItem kinds.End t = Unit {0}

-- how many rows of the kind there are at most, and how many bytes each of them has
abbrev most : Kind → ℕ × ℕ
most kinds.Plan = (1, 14)
most kinds.Node = (node_limit, 145)
most kinds.Link = (link_limit, 24)
most kinds.Must = (node_limit, 13)
most kinds.Not = (node_limit, 12)
most kinds.Monitor = (node_limit, 16)
most kinds.Pocket = (node_limit, 5 * node_limit + 22)
most kinds.Path = (path_limit, 5 * node_limit + 15)
most kinds.Recipe = (link_limit, 161)
most kinds.End = (1, 7)

-- the row of each such item has no more bytes; that of a name may stand in quotes
item_size : (k : Kind) (i : ℕ) (x : Item k) → i < path_limit → IsLowItem k x → row_size (row_of k i x) ≤ (most k).1
item_size kinds.Plan i format low few = omega (arith, fits_size 1 (decimal format) (decimal_fits 1 format (omega arith) (omega (arith, few)) (omega (arith, few))))
item_size kinds.Node i name low few = omega (arith, fits_size 5 (decimal i) (number_fits i low), name_size name few)
item_size kinds.Link i l low ends = omega (arith, fits_size 5 (decimal i) (number_fits i low), fits_size 4 (decimal l.a) (node_fits l.a ends.0), fits_size 4 (decimal l.b) (node_fits l.b ends.1))
item_size kinds.Must i v low few = omega (arith, fits_size 4 (decimal v) (node_fits v few))
item_size kinds.Not i v low few = omega (arith, fits_size 4 (decimal v) (node_fits v few))
item_size kinds.Monitor i v low few = omega (arith, fits_size 4 (decimal v) (node_fits v few))
item_size kinds.Pocket i k low few =
    omega (arith, fits_size 5 (decimal i) (number_fits i low), fits_size 4 (decimal k.need) (node_fits k.need few.0), fits_size (5 * node_limit) (numbers_text k.nodes) (nodes_fit k.nodes few.1))
item_size kinds.Path i nodes low few = omega (arith, fits_size 5 (decimal i) (number_fits i low), fits_size (5 * node_limit) (numbers_text nodes) (nodes_fit nodes few))
item_size kinds.Recipe i terms low few = omega (arith, fits_size 5 (decimal i) (number_fits i low), fits_size 144 (terms_text terms) (terms_fit terms few))
item_size kinds.End i t low few = omega arith

-- a plan within the limits tells such items, and no more of them
items_low : (p : PlanParts) → IsWithinLimits p → (k : Kind) → All (IsLowItem k) (items newest_format p k) × (length (items newest_format p k) ≤ (most k).0)
items_low p within kinds.Plan = (All-cons (λ n. n < 10) newest_format [] (omega arith) (λ i d l. absurd (omega (arith, l))), omega arith)
items_low p within kinds.Node = (within.names, within.few_names)
items_low p within kinds.Link = (within.links, within.few_links)
items_low p within kinds.Must = (within.forced.1, within.forced.0)
items_low p within kinds.Not = (within.barred.1, within.barred.0)
items_low p within kinds.Monitor = (within.monitors.1, within.monitors.0)
items_low p within kinds.Pocket = (within.pockets, within.few_pockets)
items_low p within kinds.Path = (within.paths, within.few_paths)
items_low p within kinds.Recipe = (within.recipes, within.few_recipes)
items_low p within kinds.End = (λ i d l. tt, omega arith)

-- the rows of such items together
items_size : (k : Kind) (i : ℕ) (xs : List (Item k)) → i + length xs ≤ path_limit → All (IsLowItem k) xs → sum_by row_size (numbered (row_of k) i xs) ≤ length xs * (most k).1
unfolding numbered
items_size k i [] room all = omega arith
items_size k i (x ∷ xs) room all =
    let first = item_size k i x (omega (arith, room)) (All-head (IsLowItem k) x xs all) in
    let rest = items_size k (i + 1) xs (omega (arith, room)) (All-tail (IsLowItem k) x xs all) in
    omega (arith, first, rest, sum_by-cons row_size (row_of k i x) (numbered (row_of k) (i + 1) xs))

-- the most bytes of the rows of several kinds
abbrev most_of : List Kind → ℕ
most_of [] = 0
most_of (k ∷ ks) = (most k).0 * (most k).1 + most_of ks

-- of no kind there are more rows than paths may be
few_rows : (k : Kind) → (most k).0 ≤ path_limit
few_rows kinds.Plan = omega arith
few_rows _ = omega arith

-- the rows of several kinds of a plan within the limits have no more bytes than that
kinds_size : (p : PlanParts) → IsWithinLimits p → (ks : List Kind) → sum_by row_size (flat_map (rows_of_kind newest_format p) ks) ≤ most_of ks
kinds_size p within [] = omega arith
kinds_size p within (k ∷ ks) =
    let low = items_low p within k in
    let one : sum_by row_size (rows_of_kind newest_format p k) ≤ length (items newest_format p k) * (most k).1 = items_size k 0 (items newest_format p k) (omega (arith, low.1, few_rows k)) low.0 in
    let all : length (items newest_format p k) * (most k).1 ≤ (most k).0 * (most k).1 = times_le (length (items newest_format p k)) (most k).0 (most k).1 low.1 in
    omega (arith, sum_by-append row_size (rows_of_kind newest_format p k) (flat_map (rows_of_kind newest_format p) ks), one, all, kinds_size p within ks)
  where
    times_le : (a b c : ℕ) → a ≤ b → a * c ≤ b * c
    times_le a b c le = search rules

-- so the text of a plan within the limits is short
pub plan_short : TextFits → PrintedIsShort
plan_short fits p within = omega (arith, fits (plan_rows p), kinds_size p within in_turn)
