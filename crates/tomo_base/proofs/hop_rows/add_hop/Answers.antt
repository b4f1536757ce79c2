use Rattle.tomo_base.proofs.Rows.{AreHops-insert}
use Rattle.tomo_base.proofs.hop_rows.add_hop.Goals as goal

pub returns : goal.returns
returns c = record {
  added = λ links v l are joined new is_last.
      let same = c.deref.ensures.value in
      let place = rw same at c.place_of-place.ensures in
      rw c.in_ok-insert.ensures.items (AreHops-insert links v l c.args.hops.now.items c.place_of-place.result c.args.hop.node c.args.hop.link are joined new is_last place.within place.below place.here);
}
