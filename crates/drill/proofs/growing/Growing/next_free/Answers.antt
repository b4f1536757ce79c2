use Rattle.std.proofs.Common.{drop, take, find, sym, ap, ◌∙◌}
use Rattle.std.specs.Option.{option_or}
use Rattle.std.proofs.lemmas.List.{take_rest}
use Rattle.std.proofs.lemmas.List.Folds.{find-append}
use Rattle.drill.specs.Generated.{is_free}
use Rattle.drill.proofs.growing.Growing.next_free.Goals as goal

pub returns-in-Some : goal.returns-in-Some
returns-in-Some c =
    let free = is_free c.args.self.now.links in
    let front = take c.args.place c.args.pairs.now in
    let rest = drop c.args.place c.args.pairs.now in
    ap (λ o. option_or o (find free front)) (rw (take_rest c.args.pairs.now c.args.place) at c.in-Some.ensures) ∙ sym (find-append free rest front)

pub returns-in-None : goal.returns-in-None
returns-in-None c =
    let free = is_free c.args.self.now.links in
    let front = take c.args.place c.args.pairs.now in
    let rest = drop c.args.place c.args.pairs.now in
    c.first_free-in-None.ensures ∙ (ap (λ o. option_or o (find free front)) (rw (take_rest c.args.pairs.now c.args.place) at c.in-None.ensures) ∙ sym (find-append free rest front))
