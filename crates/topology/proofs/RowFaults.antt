-- The fault of one row, case by case, and what a row without a fault does to a draft.
use Rattle.std.proofs.Common.{◌≡◌, ℕ, ◌<◌, ◌≤◌, true, false, nat_lt, cond, List, [], ◌∷◌, ◌++◌, length, refl, sym, bytes_eq, Some, None}
use Rattle.std.proofs.lemmas.Bool.{and_left, and_right, and_from, lt-ltb, le-ltb}
use Rattle.tomo_base.specs.Limits.{link_limit, node_limit}
use Rattle.indexmap.specs.IndexSet.{insert_key}
use Rattle.tomo_base.specs.declared.graph.Link.{Link}
use Rattle.tomo_base.specs.Table.{in_order}
use Rattle.rows.specs.Rows.{Row}
use Rattle.topology.specs.declared.faults.TopoFault.TheVariants.{Width, Name, Loop, Nodes, Links}
use Rattle.topology.specs.Names.{name_at, is_name}
use Rattle.topology.specs.Topology.{names_of, node_of, link_between, same_link, links_of}
use Rattle.topology.specs.Faults.{row_fault}
use Rattle.topology.specs.Draft.{IsDraft, IsDraftOf, LinksNames}
use Rattle.topology.proofs.Drafts.{names_more, links_more, draft_step, with_names, new_link}

-- a row of fewer than two fields
pub fault_width : (before : List Row) (row : Row) (number : ℕ) → length row < 2 → row_fault before row number ≡ Some (Width number)
unfolding row_fault
fault_width before row number narrow = rw (lt-ltb (length row) 2 narrow) refl

-- a first name that is none
pub fault_first : (before : List Row) (row : Row) (number : ℕ) → 2 ≤ length row → is_name (name_at row 0) ≡ false → row_fault before row number ≡ Some (Name number)
unfolding row_fault
fault_first before row number wide none = rw (le-ltb (length row) 2 wide, and_left (is_name (name_at row 0)) (is_name (name_at row 1)) none) refl

-- a second name that is none
pub fault_second : (before : List Row) (row : Row) (number : ℕ) → 2 ≤ length row → is_name (name_at row 1) ≡ false → row_fault before row number ≡ Some (Name number)
unfolding row_fault
fault_second before row number wide none = rw (le-ltb (length row) 2 wide, and_right (is_name (name_at row 0)) (is_name (name_at row 1)) none) refl

-- two equal names
pub fault_loop : (before : List Row) (row : Row) (number : ℕ) → 2 ≤ length row → is_name (name_at row 0) ≡ true → is_name (name_at row 1) ≡ true → bytes_eq (name_at row 0) (name_at row 1) ≡ true
    → row_fault before row number ≡ Some (Loop number)
unfolding row_fault
fault_loop before row number wide first second equal =
    rw (le-ltb (length row) 2 wide, and_from (is_name (name_at row 0)) (is_name (name_at row 1)) first second, equal) refl

-- two different names leave the limits alone to be passed
past_names : (before : List Row) (row : Row) (number : ℕ) (first second : List ℕ) → LinksNames row first second
    → row_fault before row number ≡ cond (nat_lt node_limit (length (names_of (before ++ row ∷ [])))) (Some (Nodes number)) (cond (nat_lt link_limit (length (links_of (before ++ row ∷ [])))) (Some (Links number)) None)
unfolding row_fault
past_names before row number first second names =
    let first_named : is_name (name_at row 0) ≡ true = rw names.first_is at names.first_named in
    let second_named : is_name (name_at row 1) ≡ true = rw names.second_is at names.second_named in
    let differ : bytes_eq (name_at row 0) (name_at row 1) ≡ false = rw (names.first_is, names.second_is) at names.differ in
    rw (le-ltb (length row) 2 names.wide, and_from (is_name (name_at row 0)) (is_name (name_at row 1)) first_named second_named, differ) refl

-- the names after the row, and its link
abbrev pub two_names : List (List ℕ) → List ℕ → List ℕ → List (List ℕ)
two_names names first second = insert_key bytes_eq (insert_key bytes_eq names first) second

abbrev pub with_link : List (List ℕ) → List Link → List ℕ → List ℕ → List Link
with_link names links first second = insert_key same_link links (in_order (link_between (node_of names first, node_of (insert_key bytes_eq names first) second)))

-- they are those of the rows with the row
pub names_taken : (before : List Row) (row : Row) (names : List (List ℕ)) (links : List Link) (first second : List ℕ) → IsDraftOf before names links → LinksNames row first second
    → two_names names first second ≡ names_of (before ++ row ∷ [])
names_taken before row names links first second draft linked = rw (linked.first_is, linked.second_is, draft.names_are) (sym (names_more before row))

pub links_taken : (before : List Row) (row : Row) (names : List (List ℕ)) (links : List Link) (first second : List ℕ) → IsDraftOf before names links → LinksNames row first second
    → with_link names links first second ≡ links_of (before ++ row ∷ [])
links_taken before row names links first second draft linked = rw (linked.first_is, linked.second_is, draft.links_are, draft.names_are) (sym (links_more before row))

-- more names than a topology may have nodes
pub fault_nodes : (before : List Row) (row : Row) (number : ℕ) (names : List (List ℕ)) (links : List Link) (first second : List ℕ) → IsDraftOf before names links → LinksNames row first second
    → node_limit < length (two_names names first second) → row_fault before row number ≡ Some (Nodes number)
fault_nodes before row number names links first second draft linked many =
    let all : node_limit < length (names_of (before ++ row ∷ [])) = rw (← names_taken before row names links first second draft linked) many in
    rw (past_names before row number first second linked, lt-ltb node_limit (length (names_of (before ++ row ∷ []))) all) refl

-- more links than a topology may have
pub fault_links : (before : List Row) (row : Row) (number : ℕ) (names : List (List ℕ)) (links : List Link) (first second : List ℕ) → IsDraftOf before names links → LinksNames row first second
    → length (two_names names first second) ≤ node_limit → link_limit < length (with_link names links first second) → row_fault before row number ≡ Some (Links number)
fault_links before row number names links first second draft linked few many =
    let nodes : length (names_of (before ++ row ∷ [])) ≤ node_limit = rw (← names_taken before row names links first second draft linked) few in
    let all : link_limit < length (links_of (before ++ row ∷ [])) = rw (← links_taken before row names links first second draft linked) many in
    rw (past_names before row number first second linked, le-ltb node_limit (length (names_of (before ++ row ∷ []))) nodes, lt-ltb link_limit (length (links_of (before ++ row ∷ []))) all) refl

-- no fault, and the draft of the rows with the row
pub row_taken : (before : List Row) (row : Row) (number : ℕ) (names : List (List ℕ)) (links : List Link) (first second : List ℕ) → IsDraftOf before names links → LinksNames row first second
    → length (two_names names first second) ≤ node_limit → length (with_link names links first second) ≤ link_limit
    → (row_fault before row number ≡ None) × IsDraftOf (before ++ row ∷ []) (two_names names first second) (with_link names links first second)
row_taken before row number names links first second draft linked few_names few_links =
    let names_is = names_taken before row names links first second draft linked in
    let links_is = links_taken before row names links first second draft linked in
    let nodes : length (names_of (before ++ row ∷ [])) ≤ node_limit = rw (← names_is) few_names in
    let all : length (links_of (before ++ row ∷ [])) ≤ link_limit = rw (← links_is) few_links in
    let first_named : is_name (name_at row 0) ≡ true = rw linked.first_is at linked.first_named in
    let second_named : is_name (name_at row 1) ≡ true = rw linked.second_is at linked.second_named in
    let differ : bytes_eq (name_at row 0) (name_at row 1) ≡ false = rw (linked.first_is, linked.second_is) at linked.differ in
    let step : IsDraft (with_names names row) (insert_key same_link links (new_link names row)) =
    draft_step names links row draft.draft first_named second_named differ (rw (linked.first_is, linked.second_is) at few_names) (rw (linked.first_is, linked.second_is) at few_links) in (
      rw (past_names before row number first second linked, le-ltb node_limit (length (names_of (before ++ row ∷ []))) nodes, le-ltb link_limit (length (links_of (before ++ row ∷ []))) all) refl,
      record { names_are = names_is; links_are = links_is; draft = rw (linked.first_is, linked.second_is) step },
    )
