use Rattle.std.proofs.Common.{rules}
use Rattle.tomo_base.proofs.Keys.{place_is}
use Rattle.plan_form.specs.declared.sums.Tally.{Tally}
use Rattle.plan_form.proofs.sums.place_of.Goals as goal

pub returns : goal.returns
returns c =
    let place = place_is (λ (x : Tally). x.path) c.args.tallies.now c.requires c.args.path c.partition_point.result c.partition_point.ensures.partitioned (λ a r f' k. search rules) in
    record { within = c.partition_point.ensures.bound; below = place.0; here = place.1 }
