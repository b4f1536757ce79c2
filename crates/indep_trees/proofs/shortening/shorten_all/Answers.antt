use Rattle.std.proofs.Common.{ℕ, Result, Ok, Err, OnOk, List, arith}
use Rattle.tomo_base.specs.Search.{entry_at}
use Rattle.indep_trees.specs.Shortening.{IsLow, IsHigh, IsLater, AreChosen}
use Rattle.indep_trees.proofs.Choosing.{chosen_as, turned_high, turned_later}
use Rattle.indep_trees.proofs.shortening.shorten_all.Goals as goal

-- what is chosen of one kind, unless there is an error
chosen_on : {A E : Type 0} (kind wider : ℕ → ℕ → Type 0) (old new : List ℕ) (r : Result A E) → ((v w : ℕ) → kind v w → wider v w) → OnOk r (AreChosen kind old new) → OnOk r (AreChosen wider old new)
chosen_on kind wider old new (Ok a) widen chosen = chosen_as kind wider old new widen chosen
chosen_on kind wider old new (Err e) widen chosen = tt

-- what holds in any case
whatever : {A E P : Type 0} (r : Result A E) → P → OnOk r P
whatever (Ok a) p = p
whatever (Err e) p = tt

pub returns-clause-high : goal.returns-clause-high
returns-clause-high c =
    let g = c.args.g.now in
    let ear = entry_at c.args.places.now.ears.items in
    let down = entry_at c.in_ok-down.down.items in
    whatever c.shorten-3.result
    (chosen_as (IsLow g down ear) (IsHigh g (entry_at c.args.numbers.now) ear) c.args.places.now.high.items c.shorten-2.new.parents.items
    (turned_high g c.nodes-n.ensures.graph (entry_at c.args.numbers.now) ear down (λ v l. c.in_ok-down.ensures.each v (omega (arith, l, c.nodes-n.ensures.nodes))))
    (rw (c.deref-3.ensures.value, c.deref-4.ensures.value) at c.in_ok-shorten-2.ensures.chosen))

pub returns-clause-third : goal.returns-clause-third
returns-clause-third c =
    let g = c.args.g.now in
    let ear = entry_at c.args.places.now.ears.items in
    let late = entry_at c.in_ok-late.late.items in
    chosen_on (IsLow g late late) (IsLater g ear) c.args.third.now.items c.shorten-3.new.parents.items c.shorten-3.result
    (turned_later g c.nodes-n.ensures.graph ear late (λ v l. rw c.deref-6.ensures.value at (c.in_ok-late.ensures.each v (omega (arith, l, c.nodes-n.ensures.nodes)))))
    (rw (c.deref-7.ensures.value, c.deref-8.ensures.value) at c.shorten-3.ensures.chosen)
