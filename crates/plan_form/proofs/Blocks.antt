-- The rows of each kind stand together, kind after kind: such rows have no fault, and the rows of a kind can be picked out.
use Rattle.std.proofs.Common.{◌≡◌, ◌⊎◌, ℕ, drop, ◌+◌, ◌<◌, ◌≤◌, ◌==◌, ◌&&◌, nat_le, Bool, true, false, cond, List, [], ◌∷◌, ◌++◌, length, Some, refl, sym, ap, ap₂, subst, ◌∙◌, inl, inr, arith, append_assoc}
use Rattle.std.specs.Prelude.{flat_map}
use Rattle.std.proofs.lemmas.Bool.{and_from, and_parts, cases_Bool, cases_eq, eq-eqb, le-leb, leb-true, lt-ltb, ne_eqb}
use Rattle.std.proofs.lemmas.List.{append-nil}
use Rattle.tomo_base.specs.Sets.{one_if}
use Rattle.rows.specs.Rows.{Row}
use Rattle.plan_form.specs.declared.kinds.Kind.{Kind}
use Rattle.plan_form.specs.declared.kinds.Kind.TheVariants as kinds
use Rattle.plan_form.specs.Kinds.{row_kind, place, in_turn}
use Rattle.plan_form.specs.Reading.{IsRow, counted, last_kind, AreNext}
use Rattle.plan_form.proofs.Walking.{picked, picked-append, counted-append, counted-push, last_kind-push, AreNext-append}

-- rows of one kind, numbered from i
abbrev pub Block : ℕ → Kind → ℕ → List Row → Type 0
Block format k i [] = Unit {0}
Block format k i (row ∷ rows) = (row_kind format row ≡ Some k) × IsRow k i row × Block format k (i + 1) rows

-- they are of no other kind
counted_block : (format : ℕ) (j k : Kind) (i : ℕ) (rows : List Row) → (place j == place k) ≡ false → Block format j i rows → counted format k rows ≡ 0
unfolding counted
counted_block format j k i [] other block = refl
counted_block format j k i (row ∷ rows) other block = rw (block.0, other) (omega (arith, counted_block format j k (i + 1) rows other block.2))

-- they are picked for their kind, and for no other
picked_block : (format : ℕ) (j k : Kind) (i : ℕ) (rows : List Row) → Block format j i rows → picked format k rows ≡ cond (place j == place k) rows []
unfolding picked
picked_block format j k i rows block = elim (cases_Bool (place j == place k)) [
  | inl same ↦ rw same (all format j k i rows same block)
  | inr other ↦ rw other (none format j k i rows other block)
]
  where
    all : (format : ℕ) (j k : Kind) (i : ℕ) (rows : List Row) → (place j == place k) ≡ true → Block format j i rows → picked format k rows ≡ rows
    all format j k i [] same block = refl
    all format j k i (row ∷ rows) same block = rw (block.0, same) (ap (λ rs. row ∷ rs) (all format j k (i + 1) rows same block.2))

    none : (format : ℕ) (j k : Kind) (i : ℕ) (rows : List Row) → (place j == place k) ≡ false → Block format j i rows → picked format k rows ≡ []
    none format j k i [] other block = refl
    none format j k i (row ∷ rows) other block = rw (block.0, other) (none format j k (i + 1) rows other block.2)

-- rows whose last is of the kind `last`, of which none is of a kind from place d on
pub record Front (format d : ℕ) (rows : List Row) : Type 0 where
  pub last : Kind
  pub last_is : last_kind format rows ≡ Some last
  pub below : place last < d
  pub none : (k : Kind) → d ≤ place k → counted format k rows ≡ 0
  pub fine : AreNext format [] rows

-- the rows of one kind follow, with their numbers, rows whose last is of no later kind; of the last kind there is one row at most
block_next : (format : ℕ) (k last : Kind) (before rows : List Row) (i : ℕ) → 0 < place k → last_kind format before ≡ Some last → place last ≤ place k → counted format k before ≡ i
    → (0 < length rows → counted format kinds.End before ≡ 0) → (place k ≡ place kinds.End → length rows ≤ 1) → Block format k i rows → AreNext format before rows
block_next format k last before [] i some is le count open_yet lone block = tt
block_next format k last before (row ∷ rows) i some is le count open_yet lone block = (
  record {
    kind = k;
    is_of = record { open_yet = open_yet (omega arith); is_kind = block.0 };
    in_order = rw is (and_from _ _ (lt-ltb 0 (place k) some) (le-leb (place last) (place k) le));
    is_row = subst (λ n. IsRow k n row) (sym count) block.1;
  },
  block_next format k k (before ++ row ∷ []) rows (i + 1) some (last_kind-push format before row ∙ block.0) (omega arith)
      (counted-push format k k before row block.0 ∙ rw (count, eq-eqb (place k) (place k) refl) refl)
      (λ more. counted-push format kinds.End k before row block.0 ∙ still (cases_eq (place k) (place kinds.End)) more)
      (λ e. let l = lone e in omega (arith, l))
      block.2,
)
  where
    still : ((place k ≡ place kinds.End) ⊎ (place k ≡ place kinds.End → ⊥)) → 0 < length rows → counted format kinds.End before + one_if (place k == place kinds.End) ≡ 0
    still (inl e) more = absurd (omega (arith, lone e, more))
    still (inr ne) more = rw (ne_eqb (place k) (place kinds.End) ne) (omega (arith, open_yet (omega arith)))

-- the last kind of rows that a block ends
record Ends (format : ℕ) (k : Kind) (rows : List Row) : Type 0 where
  last : Kind
  is : last_kind format rows ≡ Some last
  le : place last ≤ place k

-- rows that a block follows end so
block_ends : (format : ℕ) (k last : Kind) (i : ℕ) (before rows : List Row) → last_kind format before ≡ Some last → place last ≤ place k → Block format k i rows → Ends format k (before ++ rows)
block_ends format k last i before [] is le block = record { last = last; is = ap (last_kind format) (append-nil before) ∙ is; le = le }
block_ends format k last i before (row ∷ rows) is le block =
    subst (Ends format k) (append_assoc before (row ∷ []) rows) (block_ends format k k (i + 1) (before ++ row ∷ []) rows (last_kind-push format before row ∙ block.0) (omega arith) block.2)

-- no kind comes after the last
end_is_last : (k : Kind) → place k ≤ place kinds.End
end_is_last kinds.End = omega arith
end_is_last _ = omega arith

-- a block more
front_block : (format d : ℕ) (k : Kind) (before rows : List Row) → 0 < place k → d ≤ place k → (place k ≡ place kinds.End → length rows ≤ 1) → Front format d before → Block format k 0 rows → Front format (place k + 1) (before ++ rows)
front_block format d k before rows some le lone f block =
    let ends = block_ends format k f.last 0 before rows f.last_is (let b = f.below in omega (arith, b, le)) block in
    record {
      last = ends.last;
      last_is = ends.is;
      below = (let l = ends.le in omega (arith, l));
      none = λ j l. counted-append format j before rows ∙ rw (f.none j (omega (arith, l, le)), counted_block format k j 0 rows (ne_eqb (place k) (place j) (λ e. absurd (omega (arith, e, l)))) block) refl;
      fine = AreNext-append format [] before rows f.fine (block_next format k f.last before rows 0 some f.last_is (let b = f.below in omega (arith, b, le)) (f.none k le) (λ _. f.none kinds.End (omega (arith, le, end_is_last k))) lone block);
    }

-- the plan row alone
first_front : (format : ℕ) (first : Row) → row_kind format first ≡ Some kinds.Plan → IsRow kinds.Plan 0 first → Front format 1 (first ∷ [])
unfolding counted last_kind
first_front format first is row = record {
  last = kinds.Plan;
  last_is = is;
  below = omega arith;
  none = λ k l. rw (is, ne_eqb 0 (place k) (λ e. absurd (omega (arith, e, l)))) refl;
  fine = (record { kind = kinds.Plan; is_of = record { open_yet = refl; is_kind = is }; in_order = refl; is_row = row }, tt);
}

-- the kinds stand in order, from place d on
abbrev climbs : ℕ → List Kind → Bool
climbs d [] = true
climbs d (k ∷ ks) = nat_le d (place k) && climbs (place k + 1) ks

module _ (format : ℕ) (part : Kind → List Row) (block : (k : Kind) → Block format k 0 (part k)) where
  -- the blocks of later kinds follow
  blocks_follow : length (part kinds.End) ≤ 1 → (d : ℕ) (ks : List Kind) (before : List Row) → 0 < d → climbs d ks ≡ true → Front format d before → AreNext format [] (before ++ flat_map part ks)
  blocks_follow one d [] before some up f = subst (AreNext format []) (sym (append-nil before)) f.fine
  blocks_follow one d (k ∷ ks) before some up f =
      let le : d ≤ place k = leb-true d (place k) (and_parts _ _ up).0 in
      subst (AreNext format []) (append_assoc before (part k) (flat_map part ks))
      (blocks_follow one (place k + 1) ks (before ++ part k) (omega arith) (and_parts _ _ up).1
      (front_block format d k before (part k) (omega (arith, some, le)) le (lone k) f (block k)))
    where
      lone : (k : Kind) → place k ≡ place kinds.End → length (part k) ≤ 1
      lone kinds.End e = one
      lone _ e = absurd (omega (arith, e))

  -- where there is one plan row and at most one end row, the blocks of all kinds in turn have no fault
  pub blocks_fine : (first : Row) → part kinds.Plan ≡ first ∷ [] → length (part kinds.End) ≤ 1 → AreNext format [] (flat_map part in_turn)
  blocks_fine first is one = rw is (blocks_follow one 1 (drop 1 in_turn) (first ∷ []) (omega arith) refl (first_front format first plan.0 plan.1))
    where
      plan : Block format kinds.Plan 0 (first ∷ [])
      plan = subst (Block format kinds.Plan 0) is (block kinds.Plan)

  -- what is picked of blocks
  chosen : Kind → List Kind → List Row
  chosen k [] = []
  chosen k (j ∷ js) = cond (place j == place k) (part j) [] ++ chosen k js

  -- it is picked, whatever kinds there are
  picked_blocks : (k : Kind) (ks : List Kind) → picked format k (flat_map part ks) ≡ chosen k ks
  unfolding picked chosen
  picked_blocks k [] = refl
  picked_blocks k (j ∷ js) = picked-append format k (part j) (flat_map part js) ∙ ap₂ ◌++◌ (picked_block format j k 0 (part j) (block j)) (picked_blocks k js)

  -- of the blocks of all kinds in turn, that of the kind
  pub picked_in_turn : (k : Kind) → picked format k (flat_map part in_turn) ≡ part k
  unfolding chosen
  picked_in_turn kinds.Plan = picked_blocks kinds.Plan in_turn ∙ append-nil (part kinds.Plan)
  picked_in_turn k = picked_blocks k in_turn ∙ append-nil (part k)
