use Rattle.std.proofs.Common.{◌≡◌, Option, cond, nat_lt, nat_eq, List, length, ℕ, Some, None, sym, ◌∙◌, rules, tests}
use Rattle.std.specs.List.{position_or_len}
use Rattle.std.proofs.lemmas.Iterator.{YieldsList-from_slice}
use Rattle.std.proofs.lemmas.Iterator.Search.{position_from_yields_List}
use Rattle.plan_form.proofs.Cutting.{uncut, cut_at}
use Rattle.plan_form.proofs.lists.cut.Goals as goal

abbrev first_place : List ℕ → ℕ → Option ℕ
first_place text byte = cond (nat_lt (position_or_len (λ b. nat_eq b byte) text) (length text)) (Some (position_or_len (λ b. nat_eq b byte) text)) None

pub returns-in-None-clause-last : goal.returns-in-None-clause-last
returns-in-None-clause-last c =
    let is : c.position.result ≡ first_place c.args.text.now c.args.byte = position_from_yields_List (λ b. nat_eq b c.args.byte) _ _ c.position.result c.position.ensures.ran (YieldsList-from_slice c.args.text.now c.iter.ensures.rest) (λ x b q k. search (rules, tests)) in
    uncut c.args.byte c.args.text.now (sym c.in-None.is ∙ is)

pub returns-in-Some-clause-more : goal.returns-in-Some-clause-more
returns-in-Some-clause-more c =
    let is : c.position.result ≡ first_place c.args.text.now c.args.byte = position_from_yields_List (λ b. nat_eq b c.args.byte) _ _ c.position.result c.position.ensures.ran (YieldsList-from_slice c.args.text.now c.iter.ensures.rest) (λ x b q k. search (rules, tests)) in
    cut_at c.args.byte c.args.text.now c.in-Some.place (sym c.in-Some.is ∙ is)
