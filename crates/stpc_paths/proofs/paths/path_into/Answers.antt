use Rattle.stpc_paths.proofs.Laying.{path_joined}
use Rattle.stpc_paths.proofs.paths.path_into.Goals as goal

pub returns : goal.returns
returns c =
    path_joined c.args.t.now c.args.root c.start_of-start.result.tree c.start_of-start.result.second c.climb.new.out.items c.reverse.new.self.items c.climb-2.new.out.items
    c.start_of-start.ensures.first c.start_of-start.ensures.second (rw c.clear.ensures.items at c.in_ok-climb.ensures) c.reverse.ensures.items (rw c.next_tree.ensures.next at c.in_ok-climb-2.ensures)
