use Rattle.std.proofs.Common.{inl, refl, ap}
use Rattle.rows.specs.Rows.{RowList}
use Rattle.answers.proofs.linking.tell_recipe.Goals as goal

pub arranged_recipe-requires-clause-identifies : goal.arranged_recipe-requires-clause-identifies
arranged_recipe-requires-clause-identifies c = rw (c.in_default.is, c.graph.ensures.graph) at c.in_ok-nodes.ensures.verdict

pub term_rows-requires-clause-terms : goal.term_rows-requires-clause-terms
term_rows-requires-clause-terms c = rw c.at.ensures c.in_ok-told.ensures.terms

pub returns : goal.returns
returns c =
    inl (
      refl,
      rw (c.in_default.is, c.graph.ensures.graph) at c.in_ok-nodes.ensures.verdict,
      _,
      c.in_ok-told.ensures.recipe,
      rw (← c.at.ensures) (ap (λ (r : RowList). r.closed) c.in_ok-term_rows.ensures),
    )
