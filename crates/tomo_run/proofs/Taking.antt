-- What taking in a file leads to, by what was read of it.
use Rattle.std.proofs.Common.{◌≡◌, ℕ, List, ◌≤◌, length, nat_lt, Result, Ok, Err, inl, inr, subst, arith}
use Rattle.std.specs.Prelude.{IfOk}
use Rattle.std.proofs.lemmas.Bool.{cases_Bool, ltb-true}
use Rattle.outside.specs.declared.shelf.Got.TheVariants.{Whole}
use Rattle.rows.specs.Rows.{rows_of}
use Rattle.tomo_run.specs.Machine.{Takes, Steps, StepsBy, kind_of}
use Rattle.answers.specs.FileKinds.{limit}
use Rattle.tomo_run.proofs.Gathering.{tells-map}
use Rattle.tomo_base.specs.declared.memory.NoMemory.{NoMemory}
use Rattle.tomo_run.specs.declared.machine.Wants.{Wants}
use Rattle.tomo_run.specs.declared.machine.Next.{Next}

-- a file within its limit does what its rows do
steps_within : (wants : Wants) (name content : List ℕ) (next : Next) → length content ≤ limit (kind_of wants) → Takes wants name (rows_of content) next → Steps wants name content next
steps_within wants name content next within takes = elim (cases_Bool (nat_lt (limit (kind_of wants)) (length content))) [
  | inl e ↦ absurd (omega (arith, ltb-true (limit (kind_of wants)) (length content) e, within))
  | inr e ↦ rw e takes
]

-- so does what was read of it, whatever else the shelf tells
pub whole_steps : (wants : Wants) (name content : List ℕ) (next : Next) → Takes wants name (rows_of content) next → StepsBy wants name Whole content next
whole_steps wants name content next takes told gives =
    let P : List ℕ → Type 0 = λ file. content ≡ file in
    let Q : List ℕ → Type 0 = λ file. Steps wants name file next in
    tells-map told name P Q (λ file same. subst Q same (steps_within wants name content next gives.0 takes)) gives.1

-- and for whatever comes of it
pub whole_answers : (wants : Wants) (name content : List ℕ) (result : Result Next NoMemory) → IfOk result (λ next. Takes wants name (rows_of content) next) → IfOk result (λ next. StepsBy wants name Whole content next)
whole_answers wants name content (Ok next) takes = whole_steps wants name content next takes
whole_answers wants name content (Err e) takes = tt
