-- One file after the other leads to the end of a run, and no name is asked for after that of a refused file.
use Rattle.std.proofs.Common.{◌≡◌, ◌∙◌, sym, ap, refl, ℕ, ◌+◌, ◌≤◌, ◌<◌, List, [], ◌∷◌, ◌++◌, length, take, get_or, Option, Some, None, zero, suc, arith, subst, append_assoc, inl, inr, Result, Ok, Err, add-one}
use Rattle.std.proofs.lemmas.List.{take_more, take_all}
use Rattle.std.specs.Prelude.{IfSome, IsSomeAnd}
use Rattle.std.specs.FinMap.{get}
use Rattle.outside.specs.Shelf.{Files, Tells, KnowsName, Asks, Gives}
use Rattle.outside.specs.declared.shelf.Got.{Got}
use Rattle.outside.specs.declared.shelf.Got.TheVariants.{Whole, TooLong}
use Rattle.outside.specs.declared.shelf.ShelfFault.{ShelfFault}
use Rattle.outside.specs.declared.shelf.ShelfFault.TheVariants.{NoMemory, Failed}
use Rattle.rows.specs.Rows.{Row}
use Rattle.tomo_run.specs.Machine.{Steps, Fewer, files_left, kind_of, start}
use Rattle.answers.specs.FileKinds.{limit}
use Rattle.tomo_run.specs.Table.{shape, file_words, first_place}
use Rattle.tomo_run.specs.declared.table.Shape.{Shape}
use Rattle.tomo_run.proofs.Shape.{file_named}
use Rattle.answers.specs.declared.file_kind.FileKind.{FileKind}
use Rattle.tomo_run.specs.Ends.{Ends}
use Rattle.tomo_run.specs.Run.{RunFrom, AsksFrom, AsksOnly, LeadsTo, AddsFront, AsksAll, KnowsAll}
use Rattle.answers.specs.declared.status.Status.{Status}
use Rattle.tomo_run.specs.declared.machine.Wants.{Wants}
use Rattle.tomo_run.specs.declared.machine.End.{End}
use Rattle.tomo_run.specs.declared.machine.End.TheVariants.{Ready, Refused}
use Rattle.tomo_run.specs.declared.machine.Next.{Next}
use Rattle.tomo_run.specs.declared.machine.Next.TheVariants.{Ask, Stop}

-- what holds of a content that is told, by what holds of it before
some-map : (o : Option (List ℕ)) (P Q : List ℕ → Type 0) → ((c : List ℕ) → P c → Q c) → IsSomeAnd o P → IsSomeAnd o Q
some-map None P Q f h = h
some-map (Some c) P Q f h = f c h

-- what a shelf tells has each further property
pub tells-map : (told : Option Files) (name : List ℕ) (P Q : List ℕ → Type 0) → ((c : List ℕ) → P c → Q c) → Tells told name P → Tells told name Q
tells-map None name P Q f h = tt
tells-map (Some files) name P Q f h = some-map (get files name) P Q f h

-- so many of the names were taken in, one after the other, and led from the first state to the next
unfoldable pub Taken : Option Files → List (List ℕ) → Next → ℕ → Next → Type 0
Taken told names first zero next = first ≡ next
Taken told [] first (suc turn) next = ⊥
Taken told (name ∷ names) (Stop end) (suc turn) next = ⊥
Taken told (name ∷ names) (Ask wants) (suc turn) next = Tells told name (λ content. (mid : Next) × Steps wants name content mid × Taken told names mid turn next)

-- nothing was taken in yet
pub taken_none : (told : Option Files) (names : List (List ℕ)) (first next : Next) → first ≡ next → Taken told names first 0 next
unfolding Taken
taken_none told names first next same = same

-- one more is taken in
taken-suc : (told : Option Files) (names : List (List ℕ)) (first : Next) (turn : ℕ) (wants : Wants) (next : Next) → turn < length names → Taken told names first turn (Ask wants)
    → Tells told (get_or names turn []) (λ content. Steps wants (get_or names turn []) content next) → Taken told names first (suc turn) next
unfolding Taken
taken-suc told [] first zero wants next below taken steps = absurd (omega (arith, below))
taken-suc told (name ∷ names) first zero wants next below taken steps =
    let P : List ℕ → Type 0 = λ content. Steps wants name content next in
    let Q : List ℕ → Type 0 = λ content. (mid : Next) × Steps wants name content mid × (mid ≡ next) in
    let there : Taken told (name ∷ names) (Ask wants) (suc zero) next = tells-map told name P Q (λ content step. (next, step, refl)) steps in
    subst (λ f. Taken told (name ∷ names) f (suc zero) next) (sym taken) there
taken-suc told [] first (suc turn) wants next below taken steps = absurd (omega (arith, below))
taken-suc told (name ∷ names) (Stop end) (suc turn) wants next below taken steps = absurd taken
taken-suc told (name ∷ names) (Ask before) (suc turn) wants next below taken steps =
    let P : List ℕ → Type 0 = λ content. (mid : Next) × Steps before name content mid × Taken told names mid turn (Ask wants) in
    let Q : List ℕ → Type 0 = λ content. (mid : Next) × Steps before name content mid × Taken told names mid (suc turn) next in
    tells-map told name P Q (λ content h. (h.0, h.1, taken-suc told names h.0 turn wants next (omega (arith, below)) h.2 steps)) taken

-- one more file was taken in
pub taken_more : (told : Option Files) (names : List (List ℕ)) (first : Next) (turn : ℕ) (wants : Wants) (name : List ℕ) (next : Next) → turn < length names → name ≡ get_or names turn []
    → Taken told names first turn (Ask wants) → Tells told name (λ content. Steps wants name content next) → Taken told names first (turn + 1) next
taken_more told names first turn wants name next below same taken steps = rw add-one (taken-suc told names first turn wants next below taken (rw same at steps))

-- a run that stops here is answered so
run_stops : (told : Option Files) (others names : List (List ℕ)) (end : End) (status : Status) (rows : List Row) → Ends others end status rows → RunFrom told others names (Stop end) status rows
unfolding RunFrom
run_stops told others [] end status rows ends = ends
run_stops told others (name ∷ names) end status rows ends = ends

-- what was taken in leads to the answer of a run
pub taken_leads : (told : Option Files) (names : List (List ℕ)) (first : Next) (turn : ℕ) (end : End) → Taken told names first turn (Stop end) → LeadsTo told names first end
unfolding Taken RunFrom
taken_leads told names first zero end taken others status rows ends = subst (λ f. RunFrom told others names f status rows) (sym taken) (run_stops told others names end status rows ends)
taken_leads told [] first (suc turn) end taken others status rows ends = absurd taken
taken_leads told (name ∷ names) (Stop other) (suc turn) end taken others status rows ends = absurd taken
taken_leads told (name ∷ names) (Ask wants) (suc turn) end taken others status rows ends =
    let P : List ℕ → Type 0 = λ content. (mid : Next) × Steps wants name content mid × Taken told names mid turn (Stop end) in
    let Q : List ℕ → Type 0 = λ content. (next : Next) × Steps wants name content next × RunFrom told others names next status rows in
    tells-map told name P Q (λ content h. (h.0, h.1, taken_leads told names h.0 turn end h.2 others status rows ends)) taken

-- ---- what was asked for

-- the names taken in so far were asked for
asks-before : (files : Files) (names : List (List ℕ)) (first : Next) (turn : ℕ) (next : Next) → Taken (Some files) names first turn next → AsksFrom files names first (take turn names)
unfolding Taken AsksFrom
asks-before files names first zero next taken = tt
asks-before files [] first (suc turn) next taken = absurd taken
asks-before files (name ∷ names) (Stop end) (suc turn) next taken = absurd taken
asks-before files (name ∷ names) (Ask wants) (suc turn) next taken =
    let P : List ℕ → Type 0 = λ content. (mid : Next) × Steps wants name content mid × Taken (Some files) names mid turn next in
    let Q : List ℕ → Type 0 = λ content. (mid : Next) × Steps wants name content mid × AsksFrom files names mid (take turn names) in
    (refl, inr (some-map (get files name) P Q (λ content h. (h.0, h.1, asks-before files names h.0 turn next h.2)) taken))

-- and the name that is wanted now
asks-now : (files : Files) (names : List (List ℕ)) (first : Next) (turn : ℕ) (wants : Wants) → turn < length names → Taken (Some files) names first turn (Ask wants) → AsksFrom files names first (take (suc turn) names)
unfolding Taken AsksFrom
asks-now files [] first zero wants below taken = absurd (omega (arith, below))
asks-now files (name ∷ names) first zero wants below taken = subst (λ f. AsksFrom files (name ∷ names) f (name ∷ [])) (sym taken) (refl, inl refl)
asks-now files [] first (suc turn) wants below taken = absurd taken
asks-now files (name ∷ names) (Stop end) (suc turn) wants below taken = absurd taken
asks-now files (name ∷ names) (Ask before) (suc turn) wants below taken =
    let P : List ℕ → Type 0 = λ content. (mid : Next) × Steps before name content mid × Taken (Some files) names mid turn (Ask wants) in
    let Q : List ℕ → Type 0 = λ content. (mid : Next) × Steps before name content mid × AsksFrom files names mid (take (suc turn) names) in
    (refl, inr (some-map (get files name) P Q (λ content h. (h.0, h.1, asks-now files names h.0 turn wants (omega (arith, below)) h.2)) taken))

-- a read that asks for its name adds it to those asked for
pub asked_more : (names : List (List ℕ)) (turn : ℕ) (name : List ℕ) (old before new : List (List ℕ)) → turn < length names → name ≡ get_or names turn []
    → before ≡ old ++ take turn names → new ≡ before ++ name ∷ [] → new ≡ old ++ take (turn + 1) names
asked_more names turn name old before new below same asked more =
    rw (take_more names turn [] below, ← same) (more ∙ rw asked (append_assoc old (take turn names) (name ∷ [])))

-- after a read, what was asked for is a front of the names, and none was asked for in vain
abbrev pub Fronts : Option Files → List (List ℕ) → Next → List (List ℕ) → List (List ℕ) → Type 0
Fronts told names first old new = AddsFront old new names × IfSome told (λ files. AsksOnly files names first old new)

-- before the next name is asked for
pub fronts_before : (told : Option Files) (names : List (List ℕ)) (first next : Next) (turn : ℕ) (old new : List (List ℕ)) → Taken told names first turn next → new ≡ old ++ take turn names → Fronts told names first old new
fronts_before None names first next turn old new taken asked = ((turn, asked), tt)
fronts_before (Some files) names first next turn old new taken asked = ((turn, asked), (take turn names, asked, asks-before files names first turn next taken))

-- after it is asked for
fronts_now : (told : Option Files) (names : List (List ℕ)) (first : Next) (wants : Wants) (turn : ℕ) (old new : List (List ℕ)) → turn < length names
    → Taken told names first turn (Ask wants) → new ≡ old ++ take (turn + 1) names → Fronts told names first old new
fronts_now None names first wants turn old new below taken asked = ((turn + 1, asked), tt)
fronts_now (Some files) names first wants turn old new below taken asked =
    ((turn + 1, asked), (take (suc turn) names, rw add-one at asked, asks-now files names first turn wants below taken))

-- a read that asks for the next name, or wants memory first, adds a front of the names
pub fronts : (told : Option Files) (names : List (List ℕ)) (first : Next) (wants : Wants) (turn : ℕ) (name : List ℕ) (old before new : List (List ℕ)) (result : Result Got ShelfFault)
    → turn < length names → name ≡ get_or names turn [] → before ≡ old ++ take turn names → Taken told names first turn (Ask wants)
    → Asks before new name result → Fronts told names first old new
fronts told names first wants turn name old before new (Ok got) below same asked taken asks =
    fronts_now told names first wants turn old new below taken (asked_more names turn name old before new below same asked asks)
fronts told names first wants turn name old before new (Err Failed) below same asked taken asks =
    fronts_now told names first wants turn old new below taken (asked_more names turn name old before new below same asked asks)
fronts told names first wants turn name old before new (Err NoMemory) below same asked taken (inl asks) =
    fronts_now told names first wants turn old new below taken (asked_more names turn name old before new below same asked asks)
fronts told names first wants turn name old before new (Err NoMemory) below same asked taken (inr asks) =
    fronts_before told names first (Ask wants) turn old new taken (asks ∙ asked)

-- where all files are read, all names were asked for
pub asks_all : (old new names : List (List ℕ)) (turn : ℕ) (wants : Wants) (end : End) → Fewer (files_left wants) (Stop end) → turn + files_left wants ≡ length names
    → new ≡ old ++ take (turn + 1) names → AsksAll old new names end
asks_all old new names turn wants (Ready all) fewer left asked =
    let whole : turn + 1 ≡ length names = omega (arith, fewer, left) in
    rw (whole, take_all (length names) names (omega arith)) at asked
asks_all old new names turn wants (Refused row) fewer left asked = tt

-- what is known while a file is wanted: how many are left, what was asked for, and what was taken in
pub record Reading (told : Option Files) (names : List (List ℕ)) (first : Next) (old asked : List (List ℕ)) (turn : ℕ) (wants : Wants) : Type 0 where
  pub left : turn + files_left wants ≡ length names
  pub some : 0 < files_left wants
  pub so_far : asked ≡ old ++ take turn names
  pub taken : Taken told names first turn (Ask wants)

-- the file that is wanted is one of the names
pub turn_below : (told : Option Files) (names : List (List ℕ)) (first : Next) (old asked : List (List ℕ)) (turn : ℕ) (wants : Wants) → Reading told names first old asked turn wants → turn < length names
turn_below told names first old asked turn wants r = omega (arith, r.left, r.some)

-- before the first file
pub reading_first : (told : Option Files) (names : List (List ℕ)) (first : Next) (old : List (List ℕ)) (wants : Wants) → first ≡ Ask wants → files_left wants ≡ length names → 0 < files_left wants → Reading told names first old old 0 wants
reading_first told names first old wants same left some = record { left = omega (arith, left); some = some; so_far = append_nil old; taken = taken_none told names first (Ask wants) same }
  where
    append_nil : (xs : List (List ℕ)) → xs ≡ xs ++ []
    append_nil [] = refl
    append_nil (x ∷ xs) = ap (λ ys. x ∷ ys) (append_nil xs)

-- after a read
pub reading_asks : (told : Option Files) (names : List (List ℕ)) (first : Next) (old asked new : List (List ℕ)) (turn : ℕ) (wants : Wants) (name : List ℕ) (result : Result Got ShelfFault)
    → Reading told names first old asked turn wants → name ≡ get_or names turn [] → Asks asked new name result → Fronts told names first old new
reading_asks told names first old asked new turn wants name result r same asks =
    fronts told names first wants turn name old asked new result (turn_below told names first old asked turn wants r) same r.so_far r.taken asks

-- after a file was taken in, and another is wanted
pub reading_more : (told : Option Files) (names : List (List ℕ)) (first : Next) (old asked new : List (List ℕ)) (turn : ℕ) (wants later : Wants) (name : List ℕ)
    → Reading told names first old asked turn wants → name ≡ get_or names turn [] → new ≡ asked ++ name ∷ [] → Fewer (files_left wants) (Ask later)
    → Tells told name (λ content. Steps wants name content (Ask later)) → Reading told names first old new (turn + 1) later
reading_more told names first old asked new turn wants later name r same more fewer steps =
    let below = turn_below told names first old asked turn wants r in
    record {
      left = omega (arith, r.left, fewer.0);
      some = fewer.1;
      so_far = asked_more names turn name old asked new below same r.so_far more;
      taken = taken_more told names first turn wants name (Ask later) below same r.taken steps;
    }

-- after the last file was taken in
pub reading_ends : (told : Option Files) (names : List (List ℕ)) (first : Next) (old asked : List (List ℕ)) (turn : ℕ) (wants : Wants) (name : List ℕ) (end : End)
    → Reading told names first old asked turn wants → name ≡ get_or names turn [] → Tells told name (λ content. Steps wants name content (Stop end)) → LeadsTo told names first end
reading_ends told names first old asked turn wants name end r same steps =
    taken_leads told names first (turn + 1) end (taken_more told names first turn wants name (Stop end) (turn_below told names first old asked turn wants r) same r.taken steps)

-- a name of a list that the shelf knows
pub knows_at : (told : Option Files) (names : List (List ℕ)) (turn : ℕ) → KnowsAll told names → turn < length names → KnowsName told (get_or names turn [])
unfolding KnowsAll
knows_at told [] turn knows below = absurd (omega (arith, below))
knows_at told (name ∷ names) zero knows below = knows.0
knows_at told (name ∷ names) (suc turn) knows below = knows_at told names turn knows.1 (omega (arith, below))

-- what a read gives, in the words of what was wanted
pub gives_wanted : (before told : Option Files) (name : List ℕ) (wants : Wants) (kind : FileKind) (most : ℕ) (got : Got) (content : List ℕ) → before ≡ told → kind ≡ kind_of wants → most ≡ limit kind
    → Gives before name most (Ok got) content → Gives told name (limit (kind_of wants)) (Ok got) content
gives_wanted before told name wants kind most got content same of_wants of_kind gives =
    subst (λ t. Gives t name (limit (kind_of wants)) (Ok got) content) same
    (subst (λ most. Gives before name most (Ok got) content) (of_kind ∙ ap limit of_wants) gives)

-- it is within the limit
within_limit : (told : Option Files) (name : List ℕ) (most : ℕ) (got : Got) (out : List ℕ) → Gives told name most (Ok got) out → length out ≤ most
within_limit told name most Whole out gives = gives.0
within_limit told name most TooLong out gives = rw gives.0 (omega arith)

-- what was read whole is within the limit of the file that is wanted
pub within_wanted : (told : Option Files) (name : List ℕ) (wants : Wants) (kind : FileKind) (most : ℕ) (got : Got) (content : List ℕ) → kind ≡ kind_of wants → most ≡ limit kind
    → Gives told name most (Ok got) content → length content ≤ limit (kind_of wants)
within_wanted told name wants kind most got content of_wants of_kind gives =
    within_limit told name (limit (kind_of wants)) got content (gives_wanted told told name wants kind most got content refl of_wants of_kind gives)

-- the name that stands at a turn's place among the words is the one that is wanted
pub turn_named : (told : Option Files) (words : List (List ℕ)) (s : Shape) (old asked : List (List ℕ)) (place turn : ℕ) (wants : Wants) (name : List ℕ) → shape words ≡ Some s
    → Reading told (file_words words) (start s) old asked turn wants → place ≡ first_place s.header → name ≡ get_or words (place + turn) [] → name ≡ get_or (file_words words) turn []
turn_named told words s old asked place turn wants name shaped r at same = file_named words s place turn name shaped (turn_below told (file_words words) (start s) old asked turn wants r) at same

-- and what was asked for after its read is a front of the names
pub turn_asks : (told : Option Files) (words : List (List ℕ)) (s : Shape) (old asked new : List (List ℕ)) (place turn : ℕ) (wants : Wants) (name : List ℕ) (result : Result Got ShelfFault) → shape words ≡ Some s
    → Reading told (file_words words) (start s) old asked turn wants → place ≡ first_place s.header → name ≡ get_or words (place + turn) [] → Asks asked new name result → Fronts told (file_words words) (start s) old new
turn_asks told words s old asked new place turn wants name result shaped r at same asks =
    reading_asks told (file_words words) (start s) old asked new turn wants name result r (turn_named told words s old asked place turn wants name shaped r at same) asks
