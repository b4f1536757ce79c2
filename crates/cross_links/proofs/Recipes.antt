-- The terms that the paths of the flows make up: they are recipes of the link, and how many nodes their paths have.
use Rattle.std.proofs.Common.{ℕ, zero, suc, ◌+◌, ◌-◌, ◌*◌, ◌%◌, ◌<◌, ◌≤◌, ◌≡◌, ◌≢◌, Bool, true, false, List, [], ◌∷◌, ◌++◌, map, length, take, drop, get_or, ℤ, All, IsTrue, sym, ap, ap₂, subst, ◌∙◌, inl, inr, arith}
use Rattle.std.specs.List.{list_any}
use Rattle.std.proofs.lemmas.Bool.{cases_eq, both_ways}
use Rattle.std.proofs.lemmas.List.Folds.{list_any_at}
use Rattle.tomo_base.specs.Network.{Network, IsGraph, linked}
use Rattle.tomo_base.specs.Table.{JoinsAt}
use Rattle.tomo_base.specs.Sets.{has}
use Rattle.tomo_base.specs.Walks.{end_of}
use Rattle.tomo_base.specs.Identify.{IsMonitorPath}
use Rattle.simple_path.specs.Pools.{nodes_in}
use Rattle.unit_flow.specs.Flows.{Task, IsFlow, later_of, first_of, second_of, last_of}
use Rattle.unit_flow.proofs.Loads.{last_at, take_later}
use Rattle.cross_links.specs.CrossRecipe.{IsCrossRecipe}
use Rattle.cross_links.specs.Joining.{three_terms, four_terms, term_paths}
use Rattle.cross_links.specs.Ways.{freely, beside, onto, ThreeWays, KeepsWay, IsPlainLink}
use Rattle.cross_links.specs.Steps.{IsChoice, IsLedOn}
use Rattle.tomo_base.proofs.Members.{has_first, has_later, has_cases}
use Rattle.tomo_base.proofs.Paths.{has_end}
use Rattle.cross_links.proofs.Ways.{leads_end, whole_at, end_at, way_at, ways_apart}
use Rattle.cross_links.proofs.Arms.{two_arms, three_ways, goes_on, TwoArms, FourArms}
use Rattle.cross_links.proofs.Tasks.{differ}
use Rattle.cross_links.proofs.Cases.{place_of, from_two_flows}
use Rattle.tomo_base.proofs.Places.{only_joins}
use Rattle.cross_links.proofs.Terms.{paths_three, by_three, paths_four, by_four}
use Rattle.cross_links.proofs.Naming.{path_short, nodes_short}

-- monitor paths have few nodes
room_of : (g : Network) (m : ℕ → Bool) (ts : List (ℤ × List ℕ)) → IsGraph g → All (λ t. IsMonitorPath g m t.1) ts → nodes_in (term_paths ts) ≤ length ts * g.nodes
room_of g m ts graph paths = nodes_short g.nodes ts (λ k d l. path_short g m (get_or ts k d).1 graph (paths k d l))

-- terms are a recipe of the link between v and w, and their paths have at most so many nodes
pub record MakesRecipe (g : Network) (m : ℕ → Bool) (v w k : ℕ) (terms : List (ℤ × List ℕ)) : Type 0 where
  pub recipe : (i : ℕ) → JoinsAt g.links i v w → IsCrossRecipe g m i terms
  pub room : nodes_in (term_paths terms) ≤ k * g.nodes

-- ---- a link from v to the monitor w
module _ (g : Network) (m : ℕ → Bool) (graph : IsGraph g) (v w : ℕ) (l : IsTrue (linked g v w)) (plain : m v ≡ false) (monitor : m w ≡ true)
    (ps : List (List ℕ)) (flow : IsFlow (beside g m v w) ps) (two : length ps ≡ 2) where
  -- the two paths are arms of v
  arms : TwoArms g m v w (later_of (get_or ps 0 [])) (later_of (get_or ps 1 []))
  arms = two_arms (beside g m v w) m w ps [] flow two (λ z h. h) (has_first w []) (λ e. differ g graph v w l (sym e))

  -- the terms of the paths are those of the arms
  terms_three : three_terms w (v ∷ later_of (get_or ps 0 [])) (v ∷ later_of (get_or ps 1 [])) ≡ three_terms w (get_or ps 0 []) (get_or ps 1 [])
  terms_three = ap₂ (λ a b. three_terms w a b) (sym (whole_at (beside g m v w) ps flow 0 [] (omega (arith, two)))) (sym (whole_at (beside g m v w) ps flow 1 [] (omega (arith, two))))

  -- they are a recipe
  pub makes_three : MakesRecipe g m v w 3 (three_terms w (get_or ps 0 []) (get_or ps 1 []))
  makes_three = record {
    recipe = λ i at. subst (IsCrossRecipe g m i) terms_three (by_three g m v w l (differ g graph v w l) i (only_joins g i v w graph at) (later_of (get_or ps 0 [])) (later_of (get_or ps 1 [])) plain monitor arms);
    room = room_of g m (three_terms w (get_or ps 0 []) (get_or ps 1 [])) graph
        (subst (All (λ t. IsMonitorPath g m t.1)) terms_three (paths_three g m v w l (differ g graph v w l) (later_of (get_or ps 0 [])) (later_of (get_or ps 1 [])) plain monitor arms));
  }

-- ---- a link between two nodes that are no monitors
-- two paths that share a node other than the source are the same
same_place : (t : Task) (ps : List (List ℕ)) (i k x : ℕ) → IsFlow t ps → i < length ps → k < length ps → has (get_or ps i []) x ≡ true → has (later_of (get_or ps k [])) x ≡ true → t.source ≢ x → i ≡ k
same_place t ps i k x flow li lk h j ne = elim (cases_eq i k) [
  | inl same ↦ same
  | inr other ↦ elim (has_cases t.source (later_of (get_or ps i [])) x (subst (λ p. has p x ≡ true) (whole_at t ps flow i [] li) h)) [
    | inl e ↦ absurd (ne e)
    | inr e ↦ absurd (ways_apart t ps flow i k [] [] other li lk x e j)
  ]
]

-- the other two of three places
pub turns : (i : ℕ) → i < 3 → (i ≢ (i + 1) % 3) × (i ≢ (i + 2) % 3) × ((i + 1) % 3 ≢ (i + 2) % 3) × ((i + 1) % 3 < 3) × ((i + 2) % 3 < 3)
turns zero l = (omega arith, omega arith, omega arith, omega arith, omega arith)
turns (suc zero) l = (omega arith, omega arith, omega arith, omega arith, omega arith)
turns (suc (suc zero)) l = (omega arith, omega arith, omega arith, omega arith, omega arith)
turns (suc (suc (suc i))) l = absurd (omega (arith, l))

-- a link between two nodes that are no monitors
pub record IsPlain (g : Network) (m : ℕ → Bool) (v w : ℕ) : Type 0 where
  pub graph : IsGraph g
  pub linked : IsTrue (linked g v w)
  pub plain_v : m v ≡ false
  pub plain_w : m w ≡ false

-- a link between two nodes that are no monitors, of those that code asks for
pub plain_link : (g : Network) (m : List ℕ) (v w : ℕ) → IsPlainLink g m v w → has m w ≡ false → IsPlain g (has m) v w
plain_link g m v w link other = record { graph = link.graph; linked = link.linked; plain_v = link.plain; plain_w = other }

-- three paths from v, of which one goes over w
pub record FirstFlow (g : Network) (m : ℕ → Bool) (v w : ℕ) (ps : List (List ℕ)) : Type 0 where
  pub flow : IsFlow (freely g m v) ps
  pub three : length ps ≡ 3
  pub over : has (map second_of ps) w ≡ true

-- two paths from w, of which one ends where the way w a ends
pub record SecondFlow (g : Network) (m : ℕ → Bool) (v w : ℕ) (a b c : List ℕ) (qs : List (List ℕ)) : Type 0 where
  pub ways : ThreeWays (freely g m v) w a b c
  pub flow : IsFlow (onto g m b c w v) qs
  pub two : length qs ≡ 2
  pub ends : has (map last_of qs) (end_of w a) ≡ true

module _ (g : Network) (m : ℕ → Bool) (v w : ℕ) (link : IsPlain g m v w) (ps : List (List ℕ)) (first : FirstFlow g m v w ps) where
  -- the path that goes over w
  kept_at : (k : ℕ) × (k < length ps) × (has (later_of (get_or ps k [])) w ≡ true) × (second_of (get_or ps k []) ≡ w)
  kept_at =
      let at = place_of second_of ps w first.over in
      let on : later_of (get_or ps at.0 []) ≡ w ∷ later_of (later_of (get_or ps at.0 [])) =
      goes_on (freely g m v) (later_of (get_or ps at.0 [])) link.plain_v (way_at (freely g m v) ps first.flow at.0 [] at.1) ∙ ap (λ x. x ∷ later_of (later_of (get_or ps at.0 []))) at.2 in
      (at.0, at.1, ap (λ a. has a w) on ∙ has_first w (later_of (later_of (get_or ps at.0 []))), at.2)

  -- so w lies on some path
  pub some_over : list_any (λ p. has p w) ps ≡ true
  some_over =
      let k = kept_at in
      list_any_at (λ p. has p w) ps k.0 [] k.1 (ap (λ p. has p w) (whole_at (freely g m v) ps first.flow k.0 [] k.1) ∙ has_later v (later_of (get_or ps k.0 [])) w k.2)

  module _ (i : ℕ) (li : i < length ps) (on_i : has (get_or ps i []) w ≡ true) where
    -- the path on which w lies goes over it at once
    over_at : second_of (get_or ps i []) ≡ w
    over_at = let k = kept_at in ap (λ z. second_of (get_or ps z [])) (same_place (freely g m v) ps i k.0 w first.flow li k.1 on_i k.2 (differ g link.graph v w link.linked)) ∙ k.3

    -- the path without v
    kept_is : later_of (get_or ps i []) ≡ w ∷ later_of (later_of (get_or ps i []))
    kept_is = goes_on (freely g m v) (later_of (get_or ps i [])) link.plain_v (way_at (freely g m v) ps first.flow i [] li) ∙ ap (λ x. x ∷ later_of (later_of (get_or ps i []))) over_at

    -- it and the other two
    ways_at : ThreeWays (freely g m v) w (later_of (later_of (get_or ps i []))) (later_of (get_or ps ((i + 1) % 3) [])) (later_of (get_or ps ((i + 2) % 3) []))
    ways_at =
        let t = turns i (omega (arith, li, first.three)) in
        three_ways (freely g m v) w ps [] i ((i + 1) % 3) ((i + 2) % 3) first.flow link.plain_v li (omega (arith, t.3, first.three)) (omega (arith, t.4, first.three)) t.0 t.1 t.2 over_at

    -- the path without v may be kept
    pub keeps : KeepsWay g m v (later_of (get_or ps i [])) (later_of (get_or ps ((i + 1) % 3) [])) (later_of (get_or ps ((i + 2) % 3) []))
    keeps = record {
      some = omega (arith, ap length kept_is);
      ways = subst (λ x. ThreeWays (freely g m v) x (later_of (later_of (get_or ps i []))) (later_of (get_or ps ((i + 1) % 3) [])) (later_of (get_or ps ((i + 2) % 3) []))) (sym over_at) ways_at;
      linked = subst (λ x. IsTrue (linked g v x)) (sym over_at) link.linked;
      plain = ap m over_at ∙ link.plain_w;
    }

    -- where it ends
    pub ends_as : last_of (get_or ps i []) ≡ end_of w (later_of (later_of (get_or ps i [])))
    ends_as = ap last_of (whole_at (freely g m v) ps first.flow i [] li ∙ ap (λ r. v ∷ r) kept_is)

module _ (g : Network) (m : ℕ → Bool) (v w : ℕ) (link : IsPlain g m v w) (a b c : List ℕ) (qs : List (List ℕ)) (k : SecondFlow g m v w a b c qs) where
  -- the end is another node than w
  not_w : w ≢ end_of w a
  not_w e = both_ways (m w) link.plain_w (ap m e ∙ leads_end (freely g m v) v (w ∷ a) k.ways.way_a.leads)

  -- the path that ends there
  end_at_place : (k : ℕ) × (k < length qs) × (has (later_of (get_or qs k [])) (end_of w a) ≡ true) × (last_of (get_or qs k []) ≡ end_of w a)
  end_at_place =
      let at = place_of last_of qs (end_of w a) k.ends in
      let on : has (w ∷ later_of (get_or qs at.0 [])) (end_of w a) ≡ true = ap (has (w ∷ later_of (get_or qs at.0 []))) (sym at.2 ∙ end_at (onto g m b c w v) qs k.flow at.0 [] at.1) ∙ has_end w (later_of (get_or qs at.0 [])) in
      (at.0, at.1, elim (has_cases w (later_of (get_or qs at.0 [])) (end_of w a) on) [ inl e ↦ absurd (not_w e) | inr e ↦ e ], at.2)

  -- so the end lies on some path
  pub some_end : list_any (λ q. has q (end_of w a)) qs ≡ true
  some_end =
      let at = end_at_place in
      list_any_at (λ q. has q (end_of w a)) qs at.0 [] at.1 (ap (λ q. has q (end_of w a)) (whole_at (onto g m b c w v) qs k.flow at.0 [] at.1) ∙ has_later w (later_of (get_or qs at.0 [])) (end_of w a) at.2)

  module _ (j : ℕ) (lj : j < length qs) (on_j : has (get_or qs j []) (end_of w a) ≡ true) (near far fourth : List ℕ)
      (choice : IsChoice (v ∷ b) (v ∷ c) (last_of (get_or qs (1 - j) [])) near far) (led : IsLedOn (get_or qs (1 - j) []) (later_of near) fourth) where
    -- there is another path
    other : (1 - j < length qs) × (j ≢ 1 - j)
    other = (omega (arith, lj, k.two), omega (arith, lj, k.two))

    -- the path on which the end lies ends there
    is_end : last_of (get_or qs j []) ≡ end_of w a
    is_end = let at = end_at_place in ap (λ z. last_of (get_or qs z [])) (same_place (onto g m b c w v) qs j at.0 (end_of w a) k.flow lj at.1 on_j at.2 not_w) ∙ at.3

    -- the other path
    whole_other : get_or qs (1 - j) [] ≡ w ∷ later_of (get_or qs (1 - j) [])
    whole_other = whole_at (onto g m b c w v) qs k.flow (1 - j) [] other.0

    -- the four arms
    four : FourArms g m v w (later_of near) (later_of far) (later_of (get_or qs j [])) (later_of fourth)
    four = from_two_flows g m v w a b c (differ g link.graph v w link.linked) k.ways qs [] j (1 - j) k.flow lj other.0 other.1 is_end near far fourth
        (subst (λ x. IsChoice (v ∷ b) (v ∷ c) x near far) (ap last_of whole_other) choice) (subst (λ q. IsLedOn q (later_of near) fourth) whole_other led)

    -- the terms of the paths are those of the arms
    terms_four : four_terms (v ∷ later_of near) (v ∷ later_of far) (w ∷ later_of (get_or qs j [])) (w ∷ later_of fourth) ≡ four_terms near far (get_or qs j []) fourth
    terms_four =
        ap₂ (λ x y. four_terms x y (w ∷ later_of (get_or qs j [])) (w ∷ later_of fourth)) (near_is choice) (far_is choice)
        ∙ ap₂ (λ x y. four_terms near far x y) (sym (whole_at (onto g m b c w v) qs k.flow j [] lj)) (fourth_is led)
      where
        near_is : IsChoice (v ∷ b) (v ∷ c) (last_of (get_or qs (1 - j) [])) near far → v ∷ later_of near ≡ near
        near_is (inl h) = ap (λ x. v ∷ later_of x) h.1 ∙ sym h.1
        near_is (inr h) = ap (λ x. v ∷ later_of x) h.1 ∙ sym h.1

        far_is : IsChoice (v ∷ b) (v ∷ c) (last_of (get_or qs (1 - j) [])) near far → v ∷ later_of far ≡ far
        far_is (inl h) = ap (λ x. v ∷ later_of x) h.2 ∙ sym h.2
        far_is (inr h) = ap (λ x. v ∷ later_of x) h.2 ∙ sym h.2

        fourth_is : IsLedOn (get_or qs (1 - j) []) (later_of near) fourth → w ∷ later_of fourth ≡ fourth
        fourth_is (inl h) = let e : fourth ≡ w ∷ later_of (get_or qs (1 - j) []) = h.1 ∙ whole_other in ap (λ x. w ∷ later_of x) e ∙ sym e
        fourth_is (inr h) = let e : fourth ≡ (w ∷ later_of (get_or qs (1 - j) [])) ++ h.1 = h.3 ∙ ap (λ x. x ++ h.1) whole_other in ap (λ x. w ∷ later_of x) e ∙ sym e

    -- they are a recipe
    makes_four : MakesRecipe g m v w 4 (four_terms near far (get_or qs j []) fourth)
    makes_four = record {
      recipe = λ i at. subst (IsCrossRecipe g m i) terms_four
          (by_four g m v w link.linked (differ g link.graph v w link.linked) i (only_joins g i v w link.graph at) (later_of near) (later_of far) (later_of (get_or qs j [])) (later_of fourth) link.plain_v link.plain_w four);
      room = room_of g m (four_terms near far (get_or qs j []) fourth) link.graph
          (subst (All (λ t. IsMonitorPath g m t.1)) terms_four (paths_four g m v w link.linked (differ g link.graph v w link.linked) (later_of near) (later_of far) (later_of (get_or qs j [])) (later_of fourth) link.plain_v link.plain_w four));
    }

-- ---- as the code reads the paths
-- three ways without their first nodes
pub keeps_read : (g : Network) (m : ℕ → Bool) (v : ℕ) (p q r p' q' r' : List ℕ) → p' ≡ p → q' ≡ q → r' ≡ r → KeepsWay g m v (later_of p) (later_of q) (later_of r) →
    KeepsWay g m v (take (length p' - 1) (drop 1 p')) (take (length q' - 1) (drop 1 q')) (take (length r' - 1) (drop 1 r'))
keeps_read g m v p q r p' q' r' ep eq er k =
    subst (λ x. KeepsWay g m v x (take (length q' - 1) (drop 1 q')) (take (length r' - 1) (drop 1 r'))) (sym (take_later p' ∙ ap later_of ep))
    (subst (λ x. KeepsWay g m v (later_of p) x (take (length r' - 1) (drop 1 r'))) (sym (take_later q' ∙ ap later_of eq))
    (subst (λ x. KeepsWay g m v (later_of p) (later_of q) x) (sym (take_later r' ∙ ap later_of er)) k))

-- the task of the second flow
onto_read : (g : Network) (m : ℕ → Bool) (v w : ℕ) (p q r p' q' r' : List ℕ) → p' ≡ p → q' ≡ q → r' ≡ r → first_of (later_of p) ≡ w →
    onto g m (take (length q' - 1) (drop 1 q')) (take (length r' - 1) (drop 1 r')) (first_of (take (length p' - 1) (drop 1 p'))) v ≡ onto g m (later_of q) (later_of r) w v
onto_read g m v w p q r p' q' r' ep eq er is =
    ap₂ (λ x y. onto g m x y (first_of (take (length p' - 1) (drop 1 p'))) v) (take_later q' ∙ ap later_of eq) (take_later r' ∙ ap later_of er)
    ∙ ap (λ x. onto g m (later_of q) (later_of r) x v) (ap first_of (take_later p' ∙ ap later_of ep) ∙ is)

-- the end of the way that is kept
end_read : (w : ℕ) (p p' : List ℕ) → p' ≡ p → later_of p ≡ w ∷ later_of (later_of p) → last_of (take (length p' - 1) (drop 1 p')) ≡ end_of w (later_of (later_of p))
end_read w p p' e is = ap last_of (take_later p' ∙ (ap later_of e ∙ is))

-- the second flow, after the first
pub second_read : (g : Network) (m : ℕ → Bool) (v w : ℕ) → IsPlain g m v w → (ps : List (List ℕ)) → FirstFlow g m v w ps → (i : ℕ) → i < length ps → has (get_or ps i []) w ≡ true →
    (p q r : List ℕ) → p ≡ get_or ps i [] → q ≡ get_or ps ((i + 1) % 3) [] → r ≡ get_or ps ((i + 2) % 3) [] → (qs : List (List ℕ)) →
    IsFlow (onto g m (take (length q - 1) (drop 1 q)) (take (length r - 1) (drop 1 r)) (first_of (take (length p - 1) (drop 1 p))) v) qs → length qs ≡ 2 → has (map last_of qs) (last_of (take (length p - 1) (drop 1 p))) ≡ true →
    SecondFlow g m v w (later_of (later_of (get_or ps i []))) (later_of (get_or ps ((i + 1) % 3) [])) (later_of (get_or ps ((i + 2) % 3) [])) qs
second_read g m v w link ps first i li on_i p q r ep eq er qs flow two ends = record {
  ways = ways_at g m v w link ps first i li on_i;
  flow = subst (λ t. IsFlow t qs) (onto_read g m v w (get_or ps i []) (get_or ps ((i + 1) % 3) []) (get_or ps ((i + 2) % 3) []) p q r ep eq er (over_at g m v w link ps first i li on_i)) flow;
  two = two;
  ends = subst (λ e. has (map last_of qs) e ≡ true) (end_read w (get_or ps i []) p ep (kept_is g m v w link ps first i li on_i)) ends;
}

-- the node at the end of a path of a flow, as it is read
pub end_node : (t : Task) (ps : List (List ℕ)) (i : ℕ) (p : List ℕ) → IsFlow t ps → i < length ps → p ≡ get_or ps i [] → get_or p (length p - 1) 0 ≡ last_of (get_or ps i [])
end_node t ps i p flow l e = last_at p 0 (let long = ap length (e ∙ whole_at t ps flow i [] l) in omega (arith, long)) ∙ ap last_of e

-- a choice between two paths from v
choice_read : (v x y : ℕ) (b c b' c' near far : List ℕ) → b' ≡ v ∷ b → c' ≡ v ∷ c → x ≡ y → IsChoice b' c' x near far → IsChoice (v ∷ b) (v ∷ c) y near far
choice_read v x y b c b' c' near far eb ec ex h = subst (λ z. IsChoice (v ∷ b) (v ∷ c) z near far) ex (subst (λ z. IsChoice (v ∷ b) z x near far) ec (subst (λ z. IsChoice z c' x near far) eb h))

-- a way that was led on
led_read : (way way' near whole : List ℕ) → way' ≡ way → IsLedOn way' (take (length near - 1) (drop 1 near)) whole → IsLedOn way (later_of near) whole
led_read way way' near whole e h = subst (λ z. IsLedOn z (later_of near) whole) e (subst (λ z. IsLedOn way' z whole) (take_later near) h)

-- the terms of the four paths, as they are read: b and c are two paths from v, third is the path of the second flow that ends at the end of w a, and way is the other
pub makes_read : (g : Network) (m : ℕ → Bool) (v w : ℕ) → IsPlain g m v w → (a b c : List ℕ) (qs : List (List ℕ)) → SecondFlow g m v w a b c qs → (j : ℕ) → j < length qs →
    (x : ℕ) → x ≡ end_of w a → has (get_or qs j []) x ≡ true → (b' c' third way near far fourth : List ℕ) → b' ≡ v ∷ b → c' ≡ v ∷ c → third ≡ get_or qs j [] → way ≡ get_or qs (1 - j) [] →
    IsChoice b' c' (get_or way (length way - 1) 0) near far → IsLedOn way (take (length near - 1) (drop 1 near)) fourth → MakesRecipe g m v w 4 (four_terms near far third fourth)
makes_read g m v w link a b c qs k j lj x end on b' c' third way near far fourth eb ec et ew choice led =
    subst (λ t. MakesRecipe g m v w 4 (four_terms near far t fourth)) (sym et)
    (makes_four g m v w link a b c qs k j lj (subst (λ z. has (get_or qs j []) z ≡ true) end on) near far fourth
    (choice_read v (get_or way (length way - 1) 0) (last_of (get_or qs (1 - j) [])) b c b' c' near far eb ec
    (end_node (onto g m b c w v) qs (1 - j) way k.flow (omega (arith, lj, k.two)) ew) choice)
    (led_read (get_or qs (1 - j) []) way near fourth ew led))
