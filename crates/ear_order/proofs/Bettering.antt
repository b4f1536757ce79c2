-- A turn in which a further part is left gives a better candidate.
use Rattle.std.proofs.Common.{◌≡◌, ◌≢◌, ℕ, ◌-◌, ◌<◌, ◌≤◌, Bool, true, false, not, List, length, All, sym, subst, inl, inr, arith}
use Rattle.std.specs.List.{AllWithin}
use Rattle.std.proofs.lemmas.Bool.{both_ways, and_parts, and_from, not-true, not_from_false}
use Rattle.tomo_base.specs.Network.{Network, linked, IsGraph}
use Rattle.tomo_base.specs.Sets.{touches}
use Rattle.tomo_base.specs.Cuts.{IsThreeConnected}
use Rattle.tomo_base.specs.Search.{entry_at}
use Rattle.tomo_base.proofs.Ascending.{All-from_has, place_in}
use Rattle.ear_order.specs.Ears.{IsEar}
use Rattle.ear_order.specs.Turns.{between, border, HasTwo, IsTurn, IsBetter, IsSpot, IsEither, Zone, Touches, IsFreePart}
use Rattle.ear_order.proofs.Spreading.{touch_from, touch_gives, off}
use Rattle.ear_order.proofs.Places.{EarAt, run_not}
use Rattle.ear_order.proofs.Lists.{ear_at}
use Rattle.ear_order.proofs.Rounds.{kept_off, three_touch}
use Rattle.ear_order.proofs.Spots.{either_ear, either_turn}
use Rattle.ear_order.proofs.Offers.{Offer, case_one, case_two, case_three, Spot, two_spots, three_spots, Three}

-- what a part touches: it has the node at a place of its order, and the link is one of the graph
pub touch_read : (g : Network) (K : ℕ → Bool) (order xs : List ℕ) (p f : ℕ) → ((k : ℕ) → k < length order → K (entry_at order k) ≡ true) → xs ≡ order → p < length xs → linked g (entry_at xs p) f ≡ true → Touches g K f
touch_read g K order xs p f only same within link = (entry_at order p, only p (subst (λ ys. p < length ys) same within), subst (λ ys. linked g (entry_at ys p) f ≡ true) same link)

module _ (g : Network) (graph : IsGraph g) (three : IsThreeConnected g) (D : ℕ → Bool) (small : (v : ℕ) → D v ≡ true → v < g.nodes) (two : HasTwo D)
    (e : List ℕ) (ear : IsEar g D e) (K R C : ℕ → Bool) (u : ℕ) (t : IsTurn g D e K R C u) where
  at : EarAt g D (entry_at e) (length e - 1)
  at = ear_at g D e ear

  -- three nodes, old or on the border, touch the part
  touched : Three g graph D R C u (entry_at e) (length e - 1) t.round at K t.rest t.off_part t.off_border t.connected
  touched =
      let w = three_touch g graph D R (between e) C u t.round K t.rest t.off_part t.off_border t.closed three t.some.0 two.0 two.1 t.some.1 (small two.0 two.2) (small two.1 two.3) two.2 two.3 two.4 in
      (w.0, w.1, w.2, (((w.3).0, (w.3).1, (w.3).2), (w.3).3), (((w.4).0, (w.4).1, (w.4).2), (w.4).3), (((w.5).0, (w.5).1, (w.5).2), (w.5).3), w.6, w.7, w.8)

  abbrev IsLawSpot : ℕ → Type 0
  IsLawSpot i = Spot g graph D R C u (entry_at e) (length e - 1) t.round at K t.rest t.off_part t.off_border t.connected i

  -- the spots of the code are the border nodes that touch the part
  spot_to : (i : ℕ) → IsSpot g K e i → IsLawSpot i
  spot_to i s =
      let both = and_parts (not (K (entry_at e i))) (touches g K (entry_at e i)) s.2 in
      let v = touch_gives g K (entry_at e i) both.1 in (
        s.0,
        s.1,
        elim (kept_off g graph D R (between e) C u t.round K t.rest t.off_part t.off_border t.closed v.0 (entry_at e i) v.1 v.2 (not-true (K (entry_at e i)) both.0)) [
          | inl o ↦ absurd (both_ways (D (entry_at e i)) (at.fresh i s.0 s.1) o)
          | inr b ↦ b
        ],
        v,
      )

  spot_from : (i : ℕ) → IsLawSpot i → IsSpot g K e i
  spot_from i s =
      let out : K (entry_at e i) ≡ false = off (K (entry_at e i)) (border g R C (entry_at e i)) (t.off_border (entry_at e i)) s.2 in
      (s.0, s.1, and_from (not (K (entry_at e i))) (touches g K (entry_at e i)) (not_from_false (K (entry_at e i)) out) (touch_from g graph K (s.3).0 (entry_at e i) (s.3).1 (s.3).2))

  -- where the part touches two old nodes
  pub offer_one : (f h : ℕ) → D f ≡ true → D h ≡ true → (h ≡ f → ⊥) → Touches g K f → Touches g K h → Offer g D R C K f
  offer_one f h df dh apart y z = case_one g graph D R C u (entry_at e) (length e - 1) t.round at K t.rest t.off_part t.off_border t.connected f h df dh apart y z

  -- where it touches one, two places of the ear touch it
  pub spots_two : (d : ℕ) → ((w : ℕ) → D w ≡ true → Touches g K w → w ≡ d) → (i : ℕ) × (j : ℕ) × (i < j) × IsSpot g K e i × IsSpot g K e j
  spots_two d single =
      let s = two_spots g graph D R C u (entry_at e) (length e - 1) t.round at K t.rest t.off_part t.off_border t.connected d single touched in
      (s.0, s.1, s.2, spot_from s.0 s.3, spot_from s.1 s.4)

  -- and from its other end the first of them leads to that node
  pub offer_two : (d low : ℕ) (zone : ℕ → Bool) → Zone K (entry_at e) (length e - 1) low (length e - 1) zone → IsSpot g K e low → ((j : ℕ) → IsSpot g K e j → low ≤ j)
      → ((w : ℕ) → D w ≡ true → Touches g K w → w ≡ d) → D d ≡ true → Touches g K d → (d ≡ entry_at e 0 → ⊥) → Offer g D R C zone (entry_at e 0)
  offer_two d low zone z spot first single dd y apart =
      let s = spots_two d single in
      case_two g graph D R C u (entry_at e) (length e - 1) t.round at K t.rest t.off_part t.off_border t.connected low s.1 d zone z (spot_to low spot) (spot_to s.1 s.4) (omega (arith, first s.0 s.3, s.2)) dd apart y

  -- where it touches none, three places do
  pub spots_three : ((w : ℕ) → D w ≡ true → Touches g K w → ⊥) → (i : ℕ) × (m : ℕ) × (j : ℕ) × (i < m) × (m < j) × IsSpot g K e i × IsSpot g K e m × IsSpot g K e j
  spots_three none =
      let s = three_spots g graph D R C u (entry_at e) (length e - 1) t.round at K t.rest t.off_part t.off_border t.connected none touched in
      (s.0, s.1, s.2, s.3, s.4, spot_from s.0 s.5, spot_from s.1 s.6, spot_from s.2 s.7)

  -- and the way round through the part misses one of them
  pub offer_three : (low high : ℕ) (zone : ℕ → Bool) → Zone K (entry_at e) (length e - 1) low high zone → IsSpot g K e low → ((j : ℕ) → IsSpot g K e j → low ≤ j) → IsSpot g K e high → ((j : ℕ) → IsSpot g K e j → j ≤ high)
      → ((w : ℕ) → D w ≡ true → Touches g K w → ⊥) → Offer g D R C zone (entry_at e 0)
  offer_three low high zone z a first b last none =
      let s = spots_three none in
      case_three g graph D R C u (entry_at e) (length e - 1) t.round at K t.rest t.off_part t.off_border t.connected low s.1 high zone z (spot_to low a) (spot_to s.1 s.6) (spot_to high b)
      (omega (arith, first s.0 s.5, s.3)) (omega (arith, last s.2 s.7, s.4))

-- an ear through the zone of an offer is a better candidate
pub is_better : (g : Network) (D R C zone : ℕ → Bool) (f : ℕ) (e : List ℕ) → Offer g D R C zone f → IsEar g D e → AllWithin (λ v. zone v ≡ true) e 1 (length e - 1) → IsBetter g D R C e
is_better g D R C zone f e o ear through = record {
  is_ear = ear;
  keeps = λ v h. run_not (entry_at e) 1 (length e - 1) v (λ i low l same. both_ways (C v) (o.off_part v (subst (λ w. zone w ≡ true) same (through i 0 low l))) h);
  misses = (o.misses.0, o.misses.1, run_not (entry_at e) 1 (length e - 1) o.misses.0 (λ i low l same. both_ways (zone o.misses.0) o.misses.2 (subst (λ w. zone w ≡ true) same (through i 0 low l))));
}

-- the nodes of a part's order are nodes
pub order_below : (g : Network) (free K : ℕ → Bool) (x : ℕ) (order : List ℕ) → IsFreePart g free x order K → ((v : ℕ) → K v ≡ true → v < g.nodes) → All (λ v. v < g.nodes) order
order_below g free K x order p small = All-from_has (λ v. v < g.nodes) order (λ v h. let k = place_in order v h in small v (subst (λ z. K z ≡ true) k.2 (p.only k.0 k.1)))

-- where no node of the order has a neighbour with a mark but one, the part touches no other
pub none_touched : (g : Network) (free K D : ℕ → Bool) (x other : ℕ) (order : List ℕ) → IsFreePart g free x order K
    → ((k w : ℕ) → k < length order → linked g (entry_at order k) w ≡ true → D w ≡ true → w ≡ other) → (w : ℕ) → D w ≡ true → Touches g K w → w ≡ other
none_touched g free K D x other order p none w d y =
    let k = place_in order y.0 (p.listed y.0 y.1) in
    none k.0 w k.1 (subst (λ z. linked g z w ≡ true) (sym k.2) y.2) d

-- the same, for an ear that is turned round where it must be, by what the code reads of it
pub offer_end : (g : Network) (graph : IsGraph g) (three : IsThreeConnected g) (D : ℕ → Bool) (small : (v : ℕ) → D v ≡ true → v < g.nodes) (two : HasTwo D)
    (given : List ℕ) (is_ear : IsEar g D given) (K R C : ℕ → Bool) (u : ℕ) (t : IsTurn g D given K R C u) (e s₁ s₂ : List ℕ) → IsEither e given → s₁ ≡ e → s₂ ≡ e
    → (d low high : ℕ) (zone : ℕ → Bool) → Zone K (entry_at s₂) (length s₂ - 1) low high zone → high ≡ length e - 1 → IsSpot g K s₁ low → ((j : ℕ) → IsSpot g K s₁ j → low ≤ j)
    → ((w : ℕ) → D w ≡ true → Touches g K w → w ≡ d) → D d ≡ true → Touches g K d → d ≢ entry_at e 0 → Offer g D R C zone (entry_at e 0)
offer_end g graph three D small two given is_ear K R C u t e s₁ s₂ either same₁ same₂ d low high zone z at_end spot first single old near apart =
    offer_two g graph three D small two e (either_ear g D e given either is_ear) K R C u (either_turn g D e given K R C u either is_ear.three t) d low zone
    (subst (λ h. Zone K (entry_at e) (length e - 1) low h zone) at_end (subst (λ s. Zone K (entry_at s) (length s - 1) low high zone) same₂ z))
    (subst (λ s. IsSpot g K s low) same₁ spot)
    (λ j at_j. first j (subst (λ s. IsSpot g K s j) (sym same₁) at_j))
    single old near apart

-- and a place that touches the part there is
pub spot_end : (g : Network) (graph : IsGraph g) (three : IsThreeConnected g) (D : ℕ → Bool) (small : (v : ℕ) → D v ≡ true → v < g.nodes) (two : HasTwo D)
    (given : List ℕ) (is_ear : IsEar g D given) (K R C : ℕ → Bool) (u : ℕ) (t : IsTurn g D given K R C u) (e s₁ : List ℕ) → IsEither e given → s₁ ≡ e
    → (d : ℕ) → ((w : ℕ) → D w ≡ true → Touches g K w → w ≡ d) → (i : ℕ) × IsSpot g K s₁ i
spot_end g graph three D small two given is_ear K R C u t e s₁ either same₁ d single =
    let s = spots_two g graph three D small two e (either_ear g D e given either is_ear) K R C u (either_turn g D e given K R C u either is_ear.three t) d single in
    (s.0, subst (λ z. IsSpot g K z s.0) (sym same₁) s.3)
