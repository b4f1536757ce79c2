-- Without a bad part, the arms that a recipe is made of exist for every link.
use Rattle.std.proofs.Common.{ℕ, zero, suc, ◌+◌, ◌<◌, ◌≡◌, ◌≢◌, Bool, true, false, List, [], ◌∷◌, ◌++◌, map, length, take, drop, get_or, IsTrue, refl, sym, ap, subst, ◌∙◌, inl, inr, arith}
use Rattle.std.proofs.lemmas.Bool.{cases_Bool}
use Rattle.std.proofs.lemmas.List.{length-map, get_or-map}
use Rattle.tomo_base.specs.Network.{Network, IsGraph, linked}
use Rattle.tomo_base.specs.Sets.{has}
use Rattle.tomo_base.specs.Walks.{end_of}
use Rattle.tomo_base.specs.BadParts.{NoBadPart}
use Rattle.tomo_base.proofs.Links.{linked_below, linked_comm}
use Rattle.tomo_base.proofs.Ascending.{place_in}
use Rattle.unit_flow.specs.Flows.{IsFlow, first_of, later_of, second_of, last_of}
use Rattle.tomo_base.proofs.Members.{has_none, has_first, has_not}
use Rattle.cross_links.proofs.Ways.{leads_changed, leads_avoid, one_way, whole_at, end_at, way_at, ways_apart}
use Rattle.cross_links.specs.Ways.{freely, beside, onto, IsWay, ThreeWays}
use Rattle.cross_links.specs.Steps.{IsLedOn, IsChoice}
use Rattle.cross_links.proofs.Arms.{two_arms, three_ways, onto_ok, kept_way, four_arms, TwoArms, FourArms}
use Rattle.cross_links.proofs.Found.{around}
use Rattle.cross_links.proofs.Growing.{grows}
use Rattle.cross_links.proofs.Tasks.{size_single, size_none, no_flow, differ, beside_ok, freely_ok, covered, onto_covered}

-- two further places beside one of three
others : (i : ℕ) → i < 3 → (j : ℕ) × (k : ℕ) × (j < 3) × (k < 3) × (i ≢ j) × (i ≢ k) × (j ≢ k)
others zero l = (1, 2, omega arith, omega arith, omega arith, omega arith, omega arith)
others (suc zero) l = (0, 2, omega arith, omega arith, omega arith, omega arith, omega arith)
others (suc (suc i)) l = (0, 1, omega arith, omega arith, omega arith, omega arith, omega arith)

-- a further place beside one of two
other : (i : ℕ) → i < 2 → (j : ℕ) × (j < 2) × (i ≢ j)
other zero l = (1, omega arith, omega arith)
other (suc i) l = (0, omega arith, omega arith)

-- the place of a list of which a number is wanted
pub place_of : (f : List ℕ → ℕ) (ps : List (List ℕ)) (x : ℕ) → has (map f ps) x ≡ true → (i : ℕ) × (i < length ps) × (f (get_or ps i []) ≡ x)
place_of f ps x h =
    let at = place_in (map f ps) x h in
    let l : at.0 < length ps = omega (arith, at.1, length-map ps f) in
    (at.0, l, sym (get_or-map f ps at.0 [] 0 l) ∙ at.2)

-- a way from w beside v makes one from v over w
pub over : (g : Network) (m : ℕ → Bool) (v w : ℕ) (a : List ℕ) → IsTrue (linked g v w) → m v ≡ false → v ≢ w → IsWay (beside g m w v) a → IsWay (freely g m v) (w ∷ a)
over g m v w a l plain v_w way = record {
  leads = (plain, l, has_none w, leads_changed (beside g m w v) (freely g m v) w a refl (λ z h. refl) (λ z h. has_none z) way.leads);
  once = (has_not w a v (λ e. v_w (sym e)) (leads_avoid (beside g m w v) w a v way.leads (has_first v [])), way.once);
}

-- the first way of a flow from w beside v, with v in front
pub first_way : (g : Network) (m : ℕ → Bool) (v w : ℕ) (ps : List (List ℕ)) → IsTrue (linked g v w) → m v ≡ false → v ≢ w → IsFlow (beside g m w v) ps → 0 < length ps →
    IsFlow (freely g m v) ((v ∷ get_or ps 0 []) ∷ []) × (second_of (v ∷ get_or ps 0 []) ≡ w)
first_way g m v w ps l plain v_w flow some =
    let whole = whole_at (beside g m w v) ps flow 0 [] some in (
      subst (λ p. IsFlow (freely g m v) ((v ∷ p) ∷ [])) (sym whole) (one_way (freely g m v) (w ∷ later_of (get_or ps 0 [])) (over g m v w (later_of (get_or ps 0 [])) l plain v_w (way_at (beside g m w v) ps flow 0 [] some))),
      ap first_of whole,
    )

-- of two paths, the second stands first where a node lies on it
some_choice : (b c : List ℕ) (x : ℕ) → (near : List ℕ) × (far : List ℕ) × IsChoice b c x near far
some_choice b c x = elim (cases_Bool (has c x)) [ inl e ↦ (c, b, inr (e, refl, refl)) | inr e ↦ (b, c, inl (e, refl, refl)) ]

-- a way is led on along a path, or ends off it
some_led_on : (way path : List ℕ) → (whole : List ℕ) × IsLedOn way path whole
some_led_on way path = elim (cases_Bool (has path (last_of way))) [
  | inl e ↦
      let at = place_in path (last_of way) e in
      (way ++ drop (at.0 + 1) path, inr (take at.0 path, drop (at.0 + 1) path, around path at.0 0 at.1 ∙ ap (λ y. take at.0 path ++ y ∷ drop (at.0 + 1) path) at.2, refl))
  | inr e ↦ (way, inl (e, refl))
]

-- the four arms of two flows
pub from_two_flows : (g : Network) (m : ℕ → Bool) (v w : ℕ) (a b c : List ℕ) → v ≢ w → ThreeWays (freely g m v) w a b c → (ps : List (List ℕ)) (d : List ℕ) (i j : ℕ) →
    IsFlow (onto g m b c w v) ps → i < length ps → j < length ps → i ≢ j → last_of (get_or ps i d) ≡ end_of w a →
    (near far whole : List ℕ) → IsChoice (v ∷ b) (v ∷ c) (end_of w (later_of (get_or ps j d))) near far → IsLedOn (w ∷ later_of (get_or ps j d)) (later_of near) whole →
    FourArms g m v w (later_of near) (later_of far) (later_of (get_or ps i d)) (later_of whole)
from_two_flows g m v w a b c v_w ways ps d i j flow li lj ne is near far whole choice led =
    let t = onto g m b c w v in
    four_arms g m v w a b c v_w ways (later_of (get_or ps i d)) (later_of (get_or ps j d)) (way_at t ps flow i d li) (way_at t ps flow j d lj)
    (sym (end_at t ps flow i d li) ∙ is) (ways_apart t ps flow i j d d ne li lj) near far whole choice led

module _ (g : Network) (m : ℕ → Bool) (graph : IsGraph g) (none : NoBadPart g m) (v w : ℕ) (l : IsTrue (linked g v w)) (plain : m v ≡ false) where
  -- a node that is no monitor has two arms that avoid a neighbour
  pub second_case : (a : List ℕ) × (b : List ℕ) × TwoArms g m v w a b
  second_case =
      let t = beside g m v w in
      let ok = beside_ok g m graph v w l plain in
      let one = size_single g w (linked_below g.nodes g.links v w graph l).1 in
      let first = grows t m ok none (covered g m (has (w ∷ []))) [] (no_flow t) (omega (arith, one)) in
      let second = grows t m ok none (covered g m (has (w ∷ []))) first.0 first.1.flow (omega (arith, one, first.1.one_more)) in (
        later_of (get_or second.0 0 []),
        later_of (get_or second.0 1 []),
        two_arms t m w second.0 [] second.1.flow (omega (arith, first.1.one_more, second.1.one_more)) (λ z h. h) (has_first w []) (λ e. differ g graph v w l (sym e)),
      )

  -- two arms of each end, from the three ways of the first flow
  from_ways : m w ≡ false → (a b c : List ℕ) → ThreeWays (freely g m v) w a b c → (b' : List ℕ) × (c' : List ℕ) × (p : List ℕ) × (q : List ℕ) × FourArms g m v w b' c' p q
  from_ways plain_w a b c ways =
      let t = onto g m b c w v in
      let v_w = differ g graph v w l in
      let ok = onto_ok g m v w a b c v_w ways graph (linked_below g.nodes g.links v w graph l).1 plain_w in
      let one = size_single g v (linked_below g.nodes g.links v w graph l).0 in
      let more = grows t m ok none (onto_covered g m b c v) ((w ∷ a) ∷ []) (one_way t a (kept_way g m v w a b c v_w ways)) (omega (arith, one)) in
      let at = place_of last_of more.0 (end_of w a) (more.1.ends (end_of w a) (has_first (end_of w a) [])) in
      let far = other at.0 (omega (arith, at.1, more.1.one_more)) in
      from_second plain_w a b c ways more.0 more.1.flow at.0 far.0 at.1 (omega (arith, far.1, more.1.one_more)) far.2 at.2
    where
      from_second : m w ≡ false → (a b c : List ℕ) → ThreeWays (freely g m v) w a b c → (ps : List (List ℕ)) → IsFlow (onto g m b c w v) ps → (i j : ℕ) → i < length ps → j < length ps → i ≢ j →
          last_of (get_or ps i []) ≡ end_of w a → (b' : List ℕ) × (c' : List ℕ) × (p : List ℕ) × (q : List ℕ) × FourArms g m v w b' c' p q
      from_second plain_w a b c ways ps flow i j li lj ne is =
          let way = w ∷ later_of (get_or ps j []) in
          let choice = some_choice (v ∷ b) (v ∷ c) (last_of way) in
          let led = some_led_on way (later_of choice.0) in
          (later_of choice.0, later_of choice.1, later_of (get_or ps i []), later_of led.0, from_two_flows g m v w a b c (differ g graph v w l) ways ps [] i j flow li lj ne is choice.0 choice.1 led.0 choice.2 led.1)

  -- two arms of each end of a link between two nodes that are no monitors
  pub third_case : m w ≡ false → (a : List ℕ) × (b : List ℕ) × (c : List ℕ) × (d : List ℕ) × FourArms g m v w a b c d
  third_case plain_w =
      let t = freely g m v in
      let ok = freely_ok g m graph v (linked_below g.nodes g.links v w graph l).0 plain in
      let back = linked_comm g v w l in
      let one = size_single g v (linked_below g.nodes g.links v w graph l).0 in
      let path = grows (beside g m w v) m (beside_ok g m graph w v back plain_w) none (covered g m (has (v ∷ []))) [] (no_flow (beside g m w v)) (omega (arith, one)) in
      let kept = first_way g m v w path.0 l plain (differ g graph v w l) path.1.flow (omega (arith, path.1.one_more)) in
      let free = size_none g in
      let two = grows t m ok none (covered g m (has [])) ((v ∷ get_or path.0 0 []) ∷ []) kept.0 (omega (arith, free)) in
      let three = grows t m ok none (covered g m (has [])) two.0 two.1.flow (omega (arith, free, two.1.one_more)) in
      let at = place_of second_of three.0 w (three.1.starts w (two.1.starts w (subst (λ x. has (x ∷ []) w ≡ true) (sym kept.1) (has_first w [])))) in
      let rest = others at.0 (omega (arith, at.1, two.1.one_more, three.1.one_more)) in
      from_ways plain_w (later_of (later_of (get_or three.0 at.0 []))) (later_of (get_or three.0 rest.0 [])) (later_of (get_or three.0 rest.1 []))
      (three_ways t w three.0 [] at.0 rest.0 rest.1 three.1.flow plain at.1 (omega (arith, rest.2, two.1.one_more, three.1.one_more)) (omega (arith, rest.3, two.1.one_more, three.1.one_more)) rest.4 rest.5 rest.6 at.2)
