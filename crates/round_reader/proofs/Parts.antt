-- Sums are added one after the other, and rounds are the parts of all sums.
use Rattle.std.proofs.Common.{◌≡◌, ℕ, zero, suc, ◌+◌, ◌*◌, ◌-◌, ◌<◌, ◌≤◌, List, [], ◌∷◌, ◌++◌, length, get_or, take, drop, refl, sym, ap, ◌∙◌, subst, inl, inr, arith, length-append}
use Rattle.std.proofs.lemmas.Bool.{cases_eq}
use Rattle.std.proofs.lemmas.List.{append-nil, append_assoc, length_push, get_or_append_left, get_or_push, drop-drop, drop-append-le, take-append-le, drop_at, take_all, length-drop}
use Rattle.rows.specs.Rows.{Row}
use Rattle.round_reader.specs.declared.faults.RoundFault.{RoundFault}
use Rattle.round_reader.specs.declared.faults.RoundFault.TheVariants.{NoMemory, Width, Number}
use Rattle.round_reader.specs.Sums.{IsSum, AreRounds, field_at, IsRound}
use Rattle.round_reader.specs.Cuts.{cut_up}
use Rattle.round_reader.specs.Faults.{IsFirstOther, IsRowFault, IsFirstRoundFault}

-- a part ends within the parts
pub part_within : (i k w : ℕ) → i < k → i * w + w ≤ k * w
part_within i k w lt = subst (λ n. i * w + w ≤ n * w) (let e : i + 1 + (k - (i + 1)) ≡ k = omega (arith, lt) in e) (more i (k - (i + 1)) w)
  where
    more : (i d w : ℕ) → i * w + w ≤ (i + 1 + d) * w
    more i d w = omega arith

-- as many parts as wanted
pub length-cut_up : (w k : ℕ) (xs : List ℕ) → length (cut_up w k xs) ≡ k
unfolding cut_up
length-cut_up w zero xs = refl
length-cut_up w (suc k) xs = omega (arith, length-cut_up w k (drop w xs))

-- the part at a place
pub cut_at : (w k : ℕ) (xs : List ℕ) (i : ℕ) → i < k → get_or (cut_up w k xs) i [] ≡ take w (drop (i * w) xs)
unfolding cut_up
cut_at w zero xs i lt = absurd (omega (arith, lt))
cut_at w (suc k) xs zero lt = let none : 0 * w ≡ 0 = omega arith in ap (λ n. take w (drop n xs)) (sym none)
cut_at w (suc k) xs (suc i) lt =
    let next : w + i * w ≡ suc i * w = omega arith in
    cut_at w k (drop w xs) i (omega (arith, lt)) ∙ ap (take w) (drop-drop (i * w) w xs ∙ ap (λ n. drop n xs) next)

-- the sums of the first k fields of a row were added
pub record AreAddedTo (row : Row) (k : ℕ) (old sums : List ℕ) : Type 0 where
  pub new : List ℕ
  pub grown : sums ≡ old ++ new
  pub size : length new ≡ k
  pub each : (j : ℕ) → j < k → IsSum (field_at row j) (get_or new j 0)

-- at first none
pub added_none : (row : Row) (old : List ℕ) → AreAddedTo row 0 old old
added_none row old = record { new = []; grown = sym (append-nil old); size = refl; each = λ j l. absurd (omega (arith, l)) }

-- one more
pub added_more : (row : Row) (k : ℕ) (old sums : List ℕ) (v : ℕ) → IsSum (field_at row k) v → AreAddedTo row k old sums → AreAddedTo row (k + 1) old (sums ++ v ∷ [])
added_more row k old sums v is a = record {
  new = a.new ++ v ∷ [];
  grown = ap (λ xs. xs ++ v ∷ []) a.grown ∙ append_assoc old a.new (v ∷ []);
  size = length_push a.new v ∙ ap (λ n. n + 1) a.size;
  each = λ j l. elim (cases_eq j k) [
    | inl e ↦ rw (e, get_or_push a.new v 0 k a.size) is
    | inr ne ↦ rw (get_or_append_left a.new (v ∷ []) 0 j (omega (arith, l, ne, a.size))) (a.each j (omega (arith, l, ne)))
  ];
}

-- all of them
pub added_all : (paths : ℕ) (row : Row) (k : ℕ) (old sums : List ℕ) → length row ≡ paths → k ≤ paths → paths ≤ k → AreAddedTo row k old sums → (new : List ℕ) × IsRound paths row new × (sums ≡ old ++ new)
added_all paths row k old sums width most least a = (
  a.new,
  record { width = width; one_each = omega (arith, a.size, most, least); each = λ j l. a.each j (omega (arith, l, least)) },
  a.grown,
)

-- the first field that is no sum
pub first_other : (row : Row) (k : ℕ) (old sums : List ℕ) → k < length row → ((v : ℕ) → IsSum (field_at row k) v → ⊥) → AreAddedTo row k old sums → IsFirstOther row k
first_other row k old sums lt none a = record { within = lt; before = λ j l. (get_or a.new j 0, a.each j l); here = none }

-- the first i rows are rounds, and their sums stand one after the other
pub record AreReadTo (paths : ℕ) (rows : List Row) (i : ℕ) (sums : List ℕ) : Type 0 where
  pub size : length sums ≡ i * paths
  pub each : (k : ℕ) → k < i → IsRound paths (get_or rows k []) (take paths (drop (k * paths) sums))

-- at first none
pub read_none : (paths : ℕ) (rows : List Row) → AreReadTo paths rows 0 []
read_none paths rows = record { size = omega arith; each = λ k l. absurd (omega (arith, l)) }

-- one more
pub read_more : (paths : ℕ) (rows : List Row) (i : ℕ) (sums new : List ℕ) → IsRound paths (get_or rows i []) new → AreReadTo paths rows i sums → AreReadTo paths rows (i + 1) (sums ++ new)
read_more paths rows i sums new are r = record {
  size = omega (arith, length-append sums new, r.size, are.one_each);
  each = λ k l. elim (cases_eq k i) [
    | inl e ↦
        let last : take paths (drop (k * paths) (sums ++ new)) ≡ new =
        ap (take paths) (drop_at sums new (k * paths) (r.size ∙ ap (λ n. n * paths) (sym e))) ∙ take_all paths new (omega (arith, are.one_each)) in
        rw (last, e) are
    | inr ne ↦
        let within = part_within k i paths (omega (arith, l, ne)) in
        let low : k * paths ≤ length sums = omega (arith, within, r.size) in
        let room : paths ≤ length (drop (k * paths) sums) = omega (arith, length-drop (k * paths) sums, within, r.size) in
        let same : take paths (drop (k * paths) (sums ++ new)) ≡ take paths (drop (k * paths) sums) = ap (take paths) (drop-append-le (k * paths) sums new low) ∙ take-append-le paths (drop (k * paths) sums) new room in
        rw same (r.each k (omega (arith, l, ne)))
  ];
}

-- all of them
pub read_all : (paths : ℕ) (rows : List Row) (i n : ℕ) (sums : List ℕ) → i ≡ length rows → n ≡ length rows → AreReadTo paths rows i sums → AreRounds paths rows (cut_up paths n sums)
read_all paths rows i n sums e count r = record {
  one_each = length-cut_up paths n sums ∙ count;
  each = λ k l. rw (cut_at paths n sums k (omega (arith, l, count))) (r.each k (omega (arith, l, e)));
}

-- the first row with a fault
pub first_fault : (paths : ℕ) (rows : List Row) (i : ℕ) (sums : List ℕ) (fault : RoundFault) → i < length rows → AreReadTo paths rows i sums → IsRowFault paths (get_or rows i []) i fault → IsFirstRoundFault paths rows fault
first_fault paths rows i sums NoMemory lt r here = tt
first_fault paths rows i sums (Width w) lt r here = record { place = i; within = lt; before = λ j l. (take paths (drop (j * paths) sums), r.each j l); here = here }
first_fault paths rows i sums (Number w f) lt r here = record { place = i; within = lt; before = λ j l. (take paths (drop (j * paths) sums), r.each j l); here = here }
