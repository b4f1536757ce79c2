use Rattle.std.proofs.Common.{rules}
use Rattle.tomo_base.proofs.Keys.{place_is}
use Rattle.tomo_base.specs.declared.graph.Hop.{Hop}
use Rattle.tomo_base.proofs.hop_rows.place_of.Goals as goal

pub returns : goal.returns
returns c =
    let place = place_is (λ (x : Hop). x.node) c.args.hops.now c.requires c.args.node c.partition_point.result c.partition_point.ensures.partitioned (λ a r f' k. search rules) in
    record { within = c.partition_point.ensures.bound; below = place.0; here = place.1 }
