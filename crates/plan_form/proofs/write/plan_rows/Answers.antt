use Rattle.plan_form.specs.PlanRows.{numbered}
use Rattle.plan_form.proofs.Numbering.{added_both, added_first}
use Rattle.plan_form.proofs.write.plan_rows.Goals as goal

pub returns : goal.returns
unfolding numbered
returns c =
    let all = c.add_row-2.new.rows in
    rw (← c.plan.view_is)
    (added_first c.new-rows.result all _ c.new-rows.ensures
    (added_both c.new-rows.result c.add_row.new.rows all _ _ (rw (c.as_bytes.ensures.value, c.as_bytes-2.ensures.value, c.format.ensures.text) at c.in_ok-add_row.ensures.rows)
    (added_both c.add_row.new.rows c.add_names.new.rows all _ _ c.in_ok-add_names.ensures.0
    (added_both c.add_names.new.rows c.add_links.new.rows all _ _ (rw c.deref.ensures.value at c.in_ok-add_links.ensures.0)
    (added_both c.add_links.new.rows c.add_nodes.new.rows all _ _ (rw c.deref-2.ensures.value at c.in_ok-add_nodes.ensures.0)
    (added_both c.add_nodes.new.rows c.add_nodes-2.new.rows all _ _ (rw c.deref-3.ensures.value at c.in_ok-add_nodes-2.ensures.0)
    (added_both c.add_nodes-2.new.rows c.add_nodes-3.new.rows all _ _ (rw c.deref-4.ensures.value at c.in_ok-add_nodes-3.ensures.0)
    (added_both c.add_nodes-3.new.rows c.add_pockets.new.rows all _ _ (rw c.deref-5.ensures.value at c.in_ok-add_pockets.ensures.0)
    (added_both c.add_pockets.new.rows c.add_paths.new.rows all _ _ c.in_ok-add_paths.ensures.0
    (added_both c.add_paths.new.rows c.add_recipes.new.rows all _ _ c.in_ok-add_recipes.ensures.0
    (rw c.as_bytes-3.ensures.value at c.in_ok-add_row-2.ensures.rows)))))))))))
