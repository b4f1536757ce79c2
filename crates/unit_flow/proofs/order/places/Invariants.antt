use Rattle.std.proofs.Common.{◌≡◌, length, map}
use Rattle.unit_flow.specs.Order.{ArePlaces}
use Rattle.unit_flow.proofs.order.places.Given as goal

-- the paths so far are entered
abbrev pub invariant-loop-i : goal.invariant-loop-i
invariant-loop-i l = (length l.places.items ≡ l.count) × ArePlaces (map (λ p. p.items) l.paths) l.i l.places.items
