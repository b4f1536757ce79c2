use Rattle.std.proofs.Common.{ℕ, Bool, ◌<◌, ◌||◌, All, take}
use Rattle.tomo_base.specs.Met.{AreMet, is_new}
use Rattle.tomo_base.proofs.pocket.meet.Given as goal

-- the nodes outside the set to which a hop led so far are met too
abbrev pub invariant-loop-hop : goal.invariant-loop-hop
invariant-loop-hop l = (n : ℕ) (q : ℕ → Bool) → All (λ h. h.node < n) l.hops → AreMet n q l.fn.before → AreMet n (λ w. q w || is_new l.p (take l.hop-index l.hops) w) l.met
