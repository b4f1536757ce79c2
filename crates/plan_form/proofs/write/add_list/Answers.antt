use Rattle.plan_form.proofs.write.add_list.Goals as goal

pub returns : goal.returns
returns c = rw (c.deref.ensures.value, c.in_ok-numbers_joined.ensures) at c.add_numbered.ensures
