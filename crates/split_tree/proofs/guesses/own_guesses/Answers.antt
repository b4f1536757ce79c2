use Rattle.std.proofs.Common.{◌≡◌, ◌<◌, ℕ, true, false, arith, ◌∙◌, replicate}
use Rattle.std.proofs.lemmas.List.{get_or-replicate}
use Rattle.tomo_base.specs.Search.{mark_of}
use Rattle.tomo_base.specs.Sets.{count}
use Rattle.tomo_base.specs.Walks.{everything}
use Rattle.tomo_base.proofs.Counts.{count-same, count-everything}
use Rattle.split_tree.proofs.guesses.own_guesses.Goals as goal

pub probe-requires-clause-four : goal.probe-requires-clause-four
probe-requires-clause-four c =
    let n = c.in-Some.g.nodes in
    let marks = c.deref-2.result.now in
    let nodes : n ≡ c.args.count = rw c.in-Some.is at c.in_ok-g.ensures in
    let bare : c.in_ok-all.all.items ≡ replicate c.args.count true = c.in_ok-all.ensures.items_if_clones_equal (λ y h. h) in
    let same : (v : ℕ) → v < n → mark_of marks v ≡ true = λ v lt. rw (c.deref-2.ensures.value, bare) (get_or-replicate c.args.count v true false (omega (arith, lt, nodes))) in
    let all : count n (mark_of marks) ≡ n = count-same n (mark_of marks) everything same ∙ count-everything n in
    omega (arith, all, nodes, c.requires.four)
