use Rattle.simple_path.proofs.Regions.{region_none}
use Rattle.simple_path.proofs.path_pool.PathPool.new.Goals as goal

pub invariant_of-result : goal.invariant_of-result
invariant_of-result c = rw (c.new.ensures.items, c.new-2.ensures.items) region_none
