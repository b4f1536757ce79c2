use Rattle.std.proofs.Common.{◌≡◌, ◌-◌, ◌&&◌, not, false, length}
use Rattle.tomo_base.specs.Sets.{has, count}
use Rattle.tomo_base.specs.Search.{mark_of}
use Rattle.ear_order.specs.Ears.{IsEar}
use Rattle.ear_order.specs.Turns.{between, IsFreePart}
use Rattle.ear_order.proofs.turns.bettered.Given as goal

-- an ear off u between its ends, and the part of u that it leaves
abbrev pub invariant-loop-part : goal.invariant-loop-part
invariant-loop-part l =
    IsEar l.g (mark_of l.old) l.ear.items × (between l.ear.items l.u ≡ false)
    × IsFreePart l.g (λ v. mark_of l.rest v && not (has l.ear.items v)) l.u l.part.order.items (mark_of l.part.inside.items) × (length l.part.inside.items ≡ l.g.nodes)

-- the part grows
abbrev pub decreases-loop-part : goal.decreases-loop-part
decreases-loop-part l = l.g.nodes - count l.g.nodes (mark_of l.part.inside.items)
