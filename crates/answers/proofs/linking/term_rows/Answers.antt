use Rattle.std.proofs.Common.{◌∙◌, pos, map, slice_index_or, arith, ap}
use Rattle.std.proofs.lemmas.List.{take_all}
use Rattle.answers.specs.Refusals.{only}
use Rattle.answers.specs.Linking.{term_row}
use Rattle.answers.proofs.CrossTerms.{with_path}
use Rattle.answers.proofs.TermRows.{term_rows_more, term_rows_all}
use Rattle.simple_path.proofs.Pools.{path_within}
use Rattle.answers.proofs.linking.term_rows.Goals as goal

pub add_term-requires-clause-short : goal.add_term-requires-clause-short
add_term-requires-clause-short c =
    let term = slice_index_or c.terms-term-items.result.now c.loop-term.term-index (record { coef = pos 0; path = 0 }) in
    rw c.path.ensures (omega (arith, path_within c.args.paths.now term.path, c.len-count.ensures.few_nodes))

pub loop-term-preserved : goal.loop-term-preserved
loop-term-preserved c =
    term_rows_more c.args.topology.now.names c.args.paths.now c.terms-term-items.result.now c.loop-term.term-index (record { coef = pos 0; path = 0 }) c.loop-term.rows c.add_term.new.rows c.loop-term-test.true c.loop-term.invariant
    (rw c.path.ensures at c.in_ok-add_term.ensures)

pub returns : goal.returns
returns c =
    let names = c.args.topology.now.names in
    let paths = c.args.paths.now in
    let ts = c.terms-term-items.result.now in
    rw (← c.terms-term-items.ensures.terms)
    (c.loop-term.invariant ∙ ap only (ap (λ xs. map (λ t. term_row names (with_path paths t)) xs) (take_all c.loop-term.term-index ts c.loop-term-test.false) ∙ term_rows_all names paths ts))
