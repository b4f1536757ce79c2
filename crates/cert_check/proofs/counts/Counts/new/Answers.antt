use Rattle.cert_check.proofs.Balances.{nothing_counted}
use Rattle.cert_check.proofs.counts.Counts.new.Goals as goal

pub returns : goal.returns
returns c = nothing_counted c.args.g.now.links c.links-count.result.now _ (c.in_ok-vec.ensures.items_if_clones_equal (λ y h. h)) (c.in_ok-vec-2.ensures.items_if_clones_equal (λ y h. h)) c.new.ensures.items c.links-count.ensures.links
