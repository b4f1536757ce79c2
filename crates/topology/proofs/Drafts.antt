-- What one more row does to the names and the links of rows, and to a draft of them.
use Rattle.std.proofs.Common.{◌≡◌, ℕ, ◌≤◌, true, false, List, [], ◌∷◌, ◌++◌, length, map, refl, sym, ap, ap₂, ◌∙◌, arith, IsTrue, bytes_eq}
use Rattle.std.specs.List.{list_any, flat_map, IsDistinct}
use Rattle.std.proofs.lemmas.Bool.{or_left, or_right}
use Rattle.std.proofs.lemmas.List.{map_push, append_assoc, flat_map_more}
use Rattle.std.proofs.lemmas.List.Elements.{All-nil}
use Rattle.std.proofs.lemmas.Slice.Eq.{bytes_eq-Decides}
use Rattle.tomo_base.specs.Limits.{link_limit, node_limit}
use Rattle.indexmap.specs.IndexSet.{insert_key}
use Rattle.tomo_base.specs.declared.graph.Link.{Link}
use Rattle.tomo_base.specs.Table.{in_order}
use Rattle.rows.specs.Rows.{Row}
use Rattle.topology.specs.Names.{name_at, is_name}
use Rattle.topology.specs.Distinct.{distinct}
use Rattle.topology.specs.Topology.{row_names, names_of, node_of, link_between, link_of, same_link, links_of}
use Rattle.topology.specs.Draft.{IsDraft, IsDraftOf}
use Rattle.topology.proofs.Distinct.{any_inserted, any_kept, any-distinct, distinct-push, All-inserted, length-inserted}
use Rattle.topology.proofs.Numbers.{node_kept, node_added, node_within, nodes_differ, distinct_names}
use Rattle.tomo_base.proofs.Graphs.{AreLinks-more}
use Rattle.topology.proofs.Graphs.{same_link-Decides, links_added, between_ordered}

-- the two names of a row, added in turn
abbrev pub with_names : List (List ℕ) → Row → List (List ℕ)
with_names names row = insert_key bytes_eq (insert_key bytes_eq names (name_at row 0)) (name_at row 1)

-- the names of rows and one more row
pub names_more : (rows : List Row) (row : Row) → names_of (rows ++ row ∷ []) ≡ with_names (names_of rows) row
unfolding names_of
names_more rows row =
    let split : flat_map row_names (rows ++ row ∷ []) ≡ (flat_map row_names rows ++ name_at row 0 ∷ []) ++ name_at row 1 ∷ [] =
    sym (flat_map_more row_names [] rows row) ∙ sym (append_assoc (flat_map row_names rows) (name_at row 0 ∷ []) (name_at row 1 ∷ [])) in
    ap (distinct bytes_eq) split
    ∙ (distinct-push bytes_eq bytes_eq-Decides (flat_map row_names rows ++ name_at row 0 ∷ []) (name_at row 1)
    ∙ ap (λ ks. insert_key bytes_eq ks (name_at row 1)) (distinct-push bytes_eq bytes_eq-Decides (flat_map row_names rows) (name_at row 0)))

-- each row's names stand among the names
abbrev pub AllNamed : List (List ℕ) → List Row → Type 0
AllNamed names [] = Unit {0}
AllNamed names (row ∷ rows) = (list_any (bytes_eq (name_at row 0)) names ≡ true) × (list_any (bytes_eq (name_at row 1)) names ≡ true) × AllNamed names rows

AllNamed-more : (names : List (List ℕ)) (name : List ℕ) (rows : List Row) → AllNamed names rows → AllNamed (name ∷ names) rows
AllNamed-more names name [] all = tt
AllNamed-more names name (row ∷ rows) all = (or_right _ _ all.0, or_right _ _ all.1, AllNamed-more names name rows all.2)

AllNamed-same : (names others : List (List ℕ)) (rows : List Row) → ((name : List ℕ) → list_any (bytes_eq name) others ≡ list_any (bytes_eq name) names) → AllNamed names rows → AllNamed others rows
AllNamed-same names others [] same all = tt
AllNamed-same names others (row ∷ rows) same all = (same (name_at row 0) ∙ all.0, same (name_at row 1) ∙ all.1, AllNamed-same names others rows same all.2)

itself : (name : List ℕ) → bytes_eq name name ≡ true
itself name = (bytes_eq-Decides name name).1 refl

in_turn : (rows : List Row) → AllNamed (flat_map row_names rows) rows
in_turn [] = tt
in_turn (row ∷ rows) = (or_left _ _ (itself (name_at row 0)), or_right _ _ (or_left _ _ (itself (name_at row 1))), AllNamed-more (name_at row 1 ∷ flat_map row_names rows) (name_at row 0) rows (AllNamed-more (flat_map row_names rows) (name_at row 1) rows (in_turn rows)))

-- all rows' names stand among the names of the rows
pub all_named : (rows : List Row) → AllNamed (names_of rows) rows
unfolding names_of
all_named rows = AllNamed-same _ _ rows (λ name. any-distinct bytes_eq bytes_eq-Decides name _) (in_turn rows)

-- links keep their ends where a name is added
pub links_kept : (names : List (List ℕ)) (name : List ℕ) (rows : List Row) → AllNamed names rows → map (link_of (insert_key bytes_eq names name)) rows ≡ map (link_of names) rows
links_kept names name [] all = refl
links_kept names name (row ∷ rows) all = ap₂ ◌∷◌
    (rw (node_kept names name (name_at row 0) all.0, node_kept names name (name_at row 1) all.1) refl)
    (links_kept names name rows all.2)

AllNamed-kept : (names : List (List ℕ)) (name : List ℕ) (rows : List Row) → AllNamed names rows → AllNamed (insert_key bytes_eq names name) rows
AllNamed-kept names name [] all = tt
AllNamed-kept names name (row ∷ rows) all = (any_kept bytes_eq _ names name all.0, any_kept bytes_eq _ names name all.1, AllNamed-kept names name rows all.2)

-- the link of a row whose names are added in turn: the numbers that its names get
abbrev pub new_link : List (List ℕ) → Row → Link
new_link names row = in_order (link_between (node_of names (name_at row 0), node_of (insert_key bytes_eq names (name_at row 0)) (name_at row 1)))

pub link_of_new : (names : List (List ℕ)) (row : Row) → link_of (with_names names row) row ≡ new_link names row
link_of_new names row =
    let first : node_of (with_names names row) (name_at row 0) ≡ node_of names (name_at row 0) =
    node_kept (insert_key bytes_eq names (name_at row 0)) (name_at row 1) (name_at row 0) (any_inserted bytes_eq bytes_eq-Decides names (name_at row 0)) ∙ node_added names (name_at row 0) in
    let second : node_of (with_names names row) (name_at row 1) ≡ node_of (insert_key bytes_eq names (name_at row 0)) (name_at row 1) = node_added (insert_key bytes_eq names (name_at row 0)) (name_at row 1) in
    ap₂ (λ (a b : ℕ). in_order (link_between (a, b))) first second

-- the links of rows and one more row
pub links_more : (rows : List Row) (row : Row) → links_of (rows ++ row ∷ []) ≡ insert_key same_link (links_of rows) (new_link (names_of rows) row)
unfolding links_of
links_more rows row =
    let names = names_of rows in
    let kept : map (link_of (with_names names row)) rows ≡ map (link_of names) rows =
    links_kept (insert_key bytes_eq names (name_at row 0)) (name_at row 1) rows (AllNamed-kept names (name_at row 0) rows (all_named rows)) ∙ links_kept names (name_at row 0) rows (all_named rows) in
    rw (names_more rows row, map_push (link_of (with_names names row)) rows row, distinct-push same_link same_link-Decides (map (link_of (with_names names row)) rows) (link_of (with_names names row) row), kept, link_of_new names row) refl

-- a draft of no rows
pub draft_none : IsDraftOf [] [] []
unfolding names_of links_of distinct IsDistinct
draft_none = record {
  names_are = refl;
  links_are = refl;
  draft = record { graph = tt; named = All-nil _; different = tt; few_nodes = omega arith; few_links = omega arith };
}

-- a draft keeps its form where a row names two different names
pub draft_step : (names : List (List ℕ)) (links : List Link) (row : Row) → IsDraft names links → is_name (name_at row 0) ≡ true → is_name (name_at row 1) ≡ true → bytes_eq (name_at row 0) (name_at row 1) ≡ false
    → length (with_names names row) ≤ node_limit → length (insert_key same_link links (new_link names row)) ≤ link_limit → IsDraft (with_names names row) (insert_key same_link links (new_link names row))
draft_step names links row draft first second differ few_nodes few_links =
    let one : List (List ℕ) = insert_key bytes_eq names (name_at row 0) in
    let here : list_any (bytes_eq (name_at row 0)) (with_names names row) ≡ true = any_kept bytes_eq _ one (name_at row 1) (any_inserted bytes_eq bytes_eq-Decides names (name_at row 0)) in
    let there : list_any (bytes_eq (name_at row 1)) (with_names names row) ≡ true = any_inserted bytes_eq bytes_eq-Decides one (name_at row 1) in
    let grown : length names ≤ length (with_names names row) = omega (arith, length-inserted bytes_eq names (name_at row 0), length-inserted bytes_eq one (name_at row 1)) in
    let ends = between_ordered (length (with_names names row)) (node_of (with_names names row) (name_at row 0)) (node_of (with_names names row) (name_at row 1))
    (nodes_differ (with_names names row) (name_at row 0) (name_at row 1) differ here there) (node_within (with_names names row) (name_at row 0) here) (node_within (with_names names row) (name_at row 1) there) in
    let added = rw (link_of_new names row) at (links_added (length (with_names names row)) links (link_of (with_names names row) row) (AreLinks-more (length names) (length (with_names names row)) links grown draft.graph) ends.0 ends.1) in
    record {
      graph = added;
      named = All-inserted bytes_eq (λ name. IsTrue (is_name name)) one (name_at row 1) (All-inserted bytes_eq (λ name. IsTrue (is_name name)) names (name_at row 0) draft.named first) second;
      different = distinct_names one (name_at row 1) (distinct_names names (name_at row 0) draft.different);
      few_nodes = few_nodes;
      few_links = few_links;
    }
