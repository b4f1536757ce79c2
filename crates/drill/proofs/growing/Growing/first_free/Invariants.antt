use Rattle.std.proofs.Common.{◌≡◌, find, drop}
use Rattle.drill.specs.Generated.{is_free}
use Rattle.drill.proofs.growing.Growing.first_free.Given as goal

abbrev pub invariant-loop-pair : goal.invariant-loop-pair
invariant-loop-pair l = find (is_free l.self.links) (drop l.pair-index l.pairs) ≡ find (is_free l.self.links) l.pairs
