use Rattle.drill.proofs.Marking.{marked_none}
use Rattle.drill.proofs.growing.Growing.new.Goals as goal

pub invariant_of-result : goal.invariant_of-result
invariant_of-result c = rw (c.new.ensures.items, c.in_ok-vec.ensures.items_if_clones_equal (λ y h. h)) (marked_none c.args.n c.requires)
