use Rattle.std.proofs.Common.{◌≡◌, ◌+◌, length, take}
use Rattle.tomo_base.specs.Pockets.{needs_of}
use Rattle.plan_form.specs.Good.{pocket_sets}
use Rattle.cert_check.proofs.checking.good_report.Given as goal

-- the needs so far are added to the number of forced nodes
abbrev pub invariant-loop-i : goal.invariant-loop-i
invariant-loop-i l = l.bound ≡ length l.p.forced + needs_of l.t.graph (pocket_sets (take l.i l.p.pockets))
