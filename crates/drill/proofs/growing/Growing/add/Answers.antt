use Rattle.drill.proofs.Marking.{marked_more}
use Rattle.drill.proofs.growing.Growing.add.Goals as goal

pub invariant_of-self-2 : goal.invariant_of-self-2
invariant_of-self-2 c = rw (c.in_ok-push.ensures.items, c.place-place.ensures, ← c.self.view_is)
    (marked_more c.self.inside.node_count c.self.inside.so_far.items c.self.inside.marks.items c.args.link c.requires.lower_first (rw (← c.self.view_is) at c.requires.node) (rw (← c.self.view_is) at c.requires.free) c.self.invariant)
