-- What the fields of a row of each kind tell.
use Rattle.std.proofs.Common.{◌≡◌, ℕ, true, List, [], ◌∷◌, ◌++◌, length, Some, None, inl, inr, Result, Ok, Err, IfErr, refl, sym, ap, ◌∙◌, IsTrue}
use Rattle.std.specs.Fmt.{decimal}
use Rattle.std.proofs.lemmas.Bool.{and_parts, or_cases, false≢true}
use Rattle.std.proofs.lemmas.Slice.Eq.{bytes_eq-Decides}
use Rattle.tomo_base.specs.declared.graph.Link.{Link}
use Rattle.rows.specs.Rows.{Row}
use Rattle.topology.specs.Names.{is_name}
use Rattle.simple_path.specs.declared.recipe.Term.{Term}
use Rattle.plan_form.specs.declared.faults.PlanFault.{PlanFault}
use Rattle.plan_form.specs.declared.faults.PlanFault.TheVariants as faults
use Rattle.plan_form.specs.declared.kinds.Kind.{Kind}
use Rattle.plan_form.specs.declared.kinds.Kind.TheVariants as kinds
use Rattle.plan_form.specs.Kinds.{newest_format, oldest_format, field, is_numbered, is_record, word}
use Rattle.plan_form.specs.Parts.{PlanPocket, IsSmall, IsNodeList, IsTermList}
use Rattle.plan_form.specs.PlanRows.{Item, IsItem, row_of}
use Rattle.plan_form.specs.Reading.{IsRow}
use Rattle.plan_form.specs.Spelling.{numbers_text, terms_text}
use Rattle.plan_form.specs.Taking.{AddsItem, RefusesNode, RefusesNumber, RefusesItem}
use Rattle.plan_form.specs.Values.{Spells}
use Rattle.plan_form.proofs.Spelled.{is_wide, row_of_one, row_of_two, row_of_three, row_of_four, unspelled}
use Rattle.plan_form.proofs.Telling.{second_field}
use Rattle.plan_form.proofs.Texts.{number_injective}

-- the row tells the item: with a number in its second field, where the kind is numbered, it is the item's row with that number
pub record Tells (k : Kind) (row : Row) (x : Item k) : Type 0 where
  pub fits : IsItem k x
  pub row_is : (i : ℕ) → (is_numbered k ≡ true → field row 1 ≡ decimal i) → row ≡ row_of k i x

-- a row that tells an item, with the next number, adds the item
pub adds_item : (k : Kind) (row : Row) (x : Item k) (old new : List (Item k)) → Tells k row x → (is_numbered k ≡ true → Spells IsSmall decimal (field row 1) (Some (length old))) → new ≡ old ++ x ∷ [] → AddsItem k row old new
adds_item k row x old new tells number more = record {
  item = x;
  fits = tells.fits;
  small = λ n. (number n).0;
  row_is = tells.row_is (length old) (λ n. (number n).1);
  more = more;
}

-- with another number, or a misspelled one, it is refused
pub number_refused : (k : Kind) (row : Row) (x : Item k) (i n : ℕ) (f : PlanFault) → is_numbered k ≡ true → Tells k row x → RefusesNumber i n (field row 1) f → RefusesItem k i n row f
number_refused k row x i n faults.NoMemory numbered tells h = absurd h
number_refused k row x i n (faults.Record m) numbered tells h = absurd h
number_refused k row x i n (faults.Number m) numbered tells h = (h.0, λ j is. h.1 j (is.small numbered) (ap (λ r. field r 1) is.row_is ∙ second_field k j is.item numbered))
number_refused k row x i n (faults.Order m) numbered tells h = (
  h.0,
  (h.1, record { item = x; fits = tells.fits; small = λ _. h.3.0; row_is = tells.row_is h.1 (λ _. h.3.1) }),
  λ is. h.2 (number_injective h.1 i h.3.0 (is.small numbered) (sym h.3.1 ∙ (ap (λ r. field r 1) is.row_is ∙ second_field k i is.item numbered))),
)
number_refused k row x i n (faults.Missing m) numbered tells h = absurd h
number_refused k row x i n (faults.After m) numbered tells h = absurd h

-- a row of a kind of nodes is refused where its node is
pub node_refused : {T : Type 0} (k : Kind) (i n : ℕ) (row : Row) (answer : Result T PlanFault) → (Spells IsSmall decimal (field row 1) None → (j : ℕ) → IsRow k j row → ⊥) → IfErr answer (RefusesNode n (field row 1)) → IfErr answer (RefusesItem k i n row)
node_refused k i n row (Ok x) none h = tt
node_refused k i n row (Err f) none h = by f h
  where
    by : (f : PlanFault) → RefusesNode n (field row 1) f → RefusesItem k i n row f
    by faults.NoMemory h = tt
    by (faults.Record m) h = absurd h
    by (faults.Number m) h = (h.0, none h.1)
    by (faults.Order m) h = absurd h
    by (faults.Missing m) h = absurd h
    by (faults.After m) h = absurd h

-- a plan row tells a format
pub plan_tells : (row : Row) (i : ℕ) → field row 0 ≡ word kinds.Plan → is_record row kinds.Plan ≡ true → IsRow kinds.Plan i row
plan_tells row i begins record_is = elim (or_cases _ _ (and_parts _ _ record_is).1) [
  | inl e ↦ one oldest_format (inl refl) ((bytes_eq-Decides (field row 1) (decimal oldest_format)).0 e)
  | inr e ↦ one newest_format (inr refl) ((bytes_eq-Decides (field row 1) (decimal newest_format)).0 e)
]
  where
    one : (format : ℕ) → IsItem kinds.Plan format → field row 1 ≡ decimal format → IsRow kinds.Plan i row
    one format fits e = record { item = format; fits = fits; small = λ n. absurd (false≢true n); row_is = row_of_two row (is_wide kinds.Plan row record_is) ∙ rw (begins, e) refl }

-- an end row tells nothing
pub end_tells : (row : Row) (i : ℕ) → field row 0 ≡ word kinds.End → is_record row kinds.End ≡ true → IsRow kinds.End i row
end_tells row i begins record_is = record { item = tt; fits = tt; small = λ n. absurd (false≢true n); row_is = row_of_one row (is_wide kinds.End row record_is) ∙ rw begins refl }

-- the name in a node row
pub node_named : (row : Row) → is_record row kinds.Node ≡ true → IsTrue (is_name (field row 2))
node_named row record_is = (and_parts _ _ record_is).1

-- a node row tells its name
pub name_tells : (row : Row) → field row 0 ≡ word kinds.Node → is_record row kinds.Node ≡ true → Tells kinds.Node row (field row 2)
name_tells row begins record_is = record { fits = node_named row record_is; row_is = λ i number. row_of_three row (is_wide kinds.Node row record_is) ∙ rw (begins, number refl) refl }

-- a link row tells its ends
pub link_tells : (row : Row) (l : Link) → field row 0 ≡ word kinds.Link → is_record row kinds.Link ≡ true → Spells IsSmall decimal (field row 2) (Some l.a) → Spells IsSmall decimal (field row 3) (Some l.b) → Tells kinds.Link row l
link_tells row l begins record_is a b = record { fits = (a.0, b.0); row_is = λ i number. row_of_four row (is_wide kinds.Link row record_is) ∙ rw (begins, number refl, a.1, b.1) refl }

-- a row without the first end is no link row
pub link_without_first : (row : Row) → Spells IsSmall decimal (field row 2) None → (i : ℕ) → IsRow kinds.Link i row → ⊥
link_without_first row = unspelled kinds.Link 2 IsSmall decimal (λ l. l.a) (λ i l fits. (fits.0, refl)) row

-- a row without the second end is no link row
pub link_without_second : (row : Row) → Spells IsSmall decimal (field row 3) None → (i : ℕ) → IsRow kinds.Link i row → ⊥
link_without_second row = unspelled kinds.Link 3 IsSmall decimal (λ l. l.b) (λ i l fits. (fits.1, refl)) row

-- a row for a forced node tells the node
pub must_tells : (row : Row) (v : ℕ) → field row 0 ≡ word kinds.Must → is_record row kinds.Must ≡ true → Spells IsSmall decimal (field row 1) (Some v) → Tells kinds.Must row v
must_tells row v begins record_is node = record { fits = node.0; row_is = λ i number. row_of_two row (is_wide kinds.Must row record_is) ∙ rw (begins, node.1) refl }

-- a row for a barred node tells the node
pub not_tells : (row : Row) (v : ℕ) → field row 0 ≡ word kinds.Not → is_record row kinds.Not ≡ true → Spells IsSmall decimal (field row 1) (Some v) → Tells kinds.Not row v
not_tells row v begins record_is node = record { fits = node.0; row_is = λ i number. row_of_two row (is_wide kinds.Not row record_is) ∙ rw (begins, node.1) refl }

-- a row for a monitor tells the node
pub monitor_tells : (row : Row) (v : ℕ) → field row 0 ≡ word kinds.Monitor → is_record row kinds.Monitor ≡ true → Spells IsSmall decimal (field row 1) (Some v) → Tells kinds.Monitor row v
monitor_tells row v begins record_is node = record { fits = node.0; row_is = λ i number. row_of_two row (is_wide kinds.Monitor row record_is) ∙ rw (begins, node.1) refl }

-- a pocket row tells a need and nodes
pub pocket_tells : (row : Row) (p : PlanPocket) → field row 0 ≡ word kinds.Pocket → is_record row kinds.Pocket ≡ true → Spells IsSmall decimal (field row 2) (Some p.need) → Spells IsNodeList numbers_text (field row 3) (Some p.nodes)
    → Tells kinds.Pocket row p
pocket_tells row p begins record_is need nodes = record { fits = (need.0, nodes.0); row_is = λ i number. row_of_four row (is_wide kinds.Pocket row record_is) ∙ rw (begins, number refl, need.1, nodes.1) refl }

-- a row without a need is no pocket row
pub pocket_without_need : (row : Row) → Spells IsSmall decimal (field row 2) None → (i : ℕ) → IsRow kinds.Pocket i row → ⊥
pocket_without_need row = unspelled kinds.Pocket 2 IsSmall decimal (λ p. p.need) (λ i p fits. (fits.0, refl)) row

-- a row without nodes is no pocket row
pub pocket_without_nodes : (row : Row) → Spells IsNodeList numbers_text (field row 3) None → (i : ℕ) → IsRow kinds.Pocket i row → ⊥
pocket_without_nodes row = unspelled kinds.Pocket 3 IsNodeList numbers_text (λ p. p.nodes) (λ i p fits. (fits.1, refl)) row

-- a path row tells nodes
pub path_tells : (row : Row) (nodes : List ℕ) → field row 0 ≡ word kinds.Path → is_record row kinds.Path ≡ true → Spells IsNodeList numbers_text (field row 2) (Some nodes) → Tells kinds.Path row nodes
path_tells row nodes begins record_is spelled = record { fits = spelled.0; row_is = λ i number. row_of_three row (is_wide kinds.Path row record_is) ∙ rw (begins, number refl, spelled.1) refl }

-- a row without nodes is no path row
pub path_without_nodes : (row : Row) → Spells IsNodeList numbers_text (field row 2) None → (i : ℕ) → IsRow kinds.Path i row → ⊥
path_without_nodes row = unspelled kinds.Path 2 IsNodeList numbers_text (λ nodes. nodes) (λ i nodes fits. (fits, refl)) row

-- a recipe row tells terms
pub recipe_tells : (row : Row) (terms : List Term) → field row 0 ≡ word kinds.Recipe → is_record row kinds.Recipe ≡ true → Spells IsTermList terms_text (field row 2) (Some terms) → Tells kinds.Recipe row terms
recipe_tells row terms begins record_is spelled = record { fits = spelled.0; row_is = λ i number. row_of_three row (is_wide kinds.Recipe row record_is) ∙ rw (begins, number refl, spelled.1) refl }

-- a row without terms is no recipe row
pub recipe_without_terms : (row : Row) → Spells IsTermList terms_text (field row 2) None → (i : ℕ) → IsRow kinds.Recipe i row → ⊥
recipe_without_terms row = unspelled kinds.Recipe 2 IsTermList terms_text (λ terms. terms) (λ i terms fits. (fits, refl)) row
