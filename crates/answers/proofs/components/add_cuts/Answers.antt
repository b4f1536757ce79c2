use Rattle.std.proofs.Common.{ℕ, ◌+◌, ◌≡◌, List, [], ◌∷◌, map, refl, ap}
use Rattle.rows.specs.Rows.{Row}
use Rattle.plan_form.specs.PlanRows.{numbered}
use Rattle.plan_form.proofs.Numbering.{added_none, added_more, added_all}
use Rattle.answers.specs.Components.{cut_row}
use Rattle.answers.proofs.components.add_cuts.Goals as goal

-- rows without numbers
map-numbered : (f : ℕ → Row) (i : ℕ) (xs : List ℕ) → numbered (λ _ x. f x) i xs ≡ map f xs
unfolding numbered
map-numbered f i [] = refl
map-numbered f i (x ∷ xs) = ap (λ rs. f x ∷ rs) (map-numbered f (i + 1) xs)

pub loop-v-init : goal.loop-v-init
loop-v-init c = added_none (λ _ v. cut_row v) c.args.cuts.now c.args.rows.now c.requires.none

pub loop-v-preserved : goal.loop-v-preserved
loop-v-preserved c = added_more (λ _ v. cut_row v) c.args.cuts.now c.args.rows.now c.loop-v.rows c.add_row.new.rows c.loop-v.v-index 0 c.loop-v-test.true c.loop-v.invariant (rw (c.as_bytes.ensures.value, c.as_bytes-in-loop-v.ensures.value, c.format.ensures.text) at c.in_ok-add_row.ensures.rows)

pub returns-clause-rows : goal.returns-clause-rows
returns-clause-rows c = rw (← (map-numbered cut_row 0 c.args.cuts.now)) (added_all (λ _ v. cut_row v) c.args.cuts.now c.args.rows.now c.loop-v.v-index c.loop-v.rows c.loop-v-test.false c.loop-v.invariant)
