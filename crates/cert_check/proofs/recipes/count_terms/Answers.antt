use Rattle.std.proofs.Common.{ℕ, ◌<◌, ◌+◌, ◌*◌, ◌^◌, length, [], pos, take, get_or, arith}
use Rattle.std.proofs.lemmas.List.{take_more}
use Rattle.simple_path.specs.declared.recipe.Term.{Term}
use Rattle.simple_path.specs.Terms.{path_terms}
use Rattle.tomo_base.specs.Search.{entry_at}
use Rattle.cert_check.specs.Counting.{AreSteps}
use Rattle.cert_check.proofs.Uses.{steps_at}
use Rattle.cert_check.proofs.Balances.{room_left, terms_more, coefficients, byte_same}
use Rattle.cert_check.proofs.recipes.count_terms.Goals as goal

-- no term
abbrev none : Term
none = record { coef = pos 0; path = 0 }

-- the steps that are read are those of the term's path
read : (c : goal.After-add-arg-in-loop-term-1) → AreSteps c.args.g.now.links (get_or c.args.paths.now (get_or c.args.terms.now c.loop-term.term-index none).path []) c.deref.result.now
read c = rw c.deref.ensures.value (steps_at c.args.g.now.links c.args.paths.now c.args.steps.now _ _ _ c.requires.steps (c.requires.names c.loop-term.term-index none c.loop-term-test.true) c.index-steps-term.is)

pub add-requires-clause-gains : goal.add-requires-clause-gains
add-requires-clause-gains c = rw c.loop-term.invariant.has.gain_each (read c).in_links

pub add-requires-clause-losses : goal.add-requires-clause-losses
add-requires-clause-losses c = rw c.loop-term.invariant.has.loss_each (read c).in_links

-- there is room for the path
room : (c : goal.After-add-arg-in-loop-term-1) → (k : ℕ) → (entry_at c.loop-term.counts.gains.items k + 4 * length c.deref.result.now < 2 ^ 63) × (entry_at c.loop-term.counts.losses.items k + 4 * length c.deref.result.now < 2 ^ 63)
room c k =
    let few = coefficients c.args.terms.now c.requires.formed.2 in
    let path = (get_or c.args.terms.now c.loop-term.term-index none).path in
    let left = room_left c.args.g.now.links c.args.paths.now c.args.terms.now c.loop-term.term-index path c.loop-term.counts c.requires.formed.1 few c.len-paths.ensures.few_nodes c.loop-term.invariant k in
    (omega (arith, left.0, (read c).short), omega (arith, left.1, (read c).short))

pub add-requires-clause-gain_room : goal.add-requires-clause-gain_room
add-requires-clause-gain_room c = λ k. (room c k).0

pub add-requires-clause-loss_room : goal.add-requires-clause-loss_room
add-requires-clause-loss_room c = λ k. (room c k).1

pub loop-term-preserved : goal.loop-term-preserved
loop-term-preserved c =
    let path = (get_or c.args.terms.now c.loop-term.term-index none).path in
    let steps : AreSteps c.args.g.now.links (get_or c.args.paths.now path []) c.deref.result.now =
    rw c.deref.ensures.value (steps_at c.args.g.now.links c.args.paths.now c.args.steps.now _ _ _ c.requires.steps (c.requires.names c.loop-term.term-index none c.loop-term-test.true) c.index-steps-term.is) in
    let counted = c.in_ok-add.ensures c.args.g.now.links (path_terms c.args.paths.now (take c.loop-term.term-index c.args.terms.now)) (get_or c.args.paths.now path []) steps c.loop-term.invariant in
    rw (take_more c.args.terms.now c.loop-term.term-index none c.loop-term-test.true, terms_more) (rw (byte_same _ (c.requires.formed.2 c.loop-term.term-index none c.loop-term-test.true).0) at counted)
