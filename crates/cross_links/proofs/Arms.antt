-- The arms of a link's ends that flows give: two of an end beside a monitor, and two of each end where neither is a monitor.
use Rattle.std.proofs.Common.{ℕ, ◌≡◌, ◌≢◌, ◌<◌, Bool, true, false, ◌||◌, List, [], ◌∷◌, ◌++◌, length, get_or, refl, sym, ap, subst, ◌∙◌, inl, inr, arith}
use Rattle.std.proofs.lemmas.Bool.{both_ways, false_from_ne_true, or_cases, or_left, or_right, or_from}
use Rattle.tomo_base.specs.Network.{Network, IsGraph}
use Rattle.tomo_base.specs.Sets.{has, Apart}
use Rattle.tomo_base.specs.Walks.{StepsFrom, NoneTwice, end_of}
use Rattle.tomo_base.proofs.Walks.{StepsFrom-append, end_of-append}
use Rattle.unit_flow.specs.Flows.{Task, IsTask, IsFlow, later_of, first_of, second_of}
use Rattle.cross_links.specs.Steps.{IsLedOn, IsChoice}
use Rattle.tomo_base.proofs.Members.{off_rest, has_none, has_first, has_later, has_cases, has_not, append_cases, append_right}
use Rattle.tomo_base.proofs.Paths.{has_end, once_right, once_append, not_first}
use Rattle.cross_links.specs.Ways.{freely, onto, IsWay, ThreeWays, with_lists}
use Rattle.cross_links.proofs.Turned.{IsArm}
use Rattle.cross_links.proofs.Ways.{leads_steps, leads_end, leads_last, leads_changed, way_avoids, arm_of, way_at, ways_apart}

-- two arms of v that share no other node and avoid w
pub record TwoArms (g : Network) (m : ℕ → Bool) (v w : ℕ) (a b : List ℕ) : Type 0 where
  pub arm_a : IsArm g m v a
  pub arm_b : IsArm g m v b
  pub a_b : Apart (has a) (has b)
  pub off_a : has (v ∷ a) w ≡ false
  pub off_b : has (v ∷ b) w ≡ false

-- the arms a and b of v, and c and d of w; the two of one node share no other node, and of the others only d may meet a
pub record FourArms (g : Network) (m : ℕ → Bool) (v w : ℕ) (a b c d : List ℕ) : Type 0 where
  pub arm_a : IsArm g m v a
  pub arm_b : IsArm g m v b
  pub arm_c : IsArm g m w c
  pub arm_d : IsArm g m w d
  pub a_b : Apart (has a) (has b)
  pub c_d : Apart (has c) (has d)
  pub c_a : Apart (has (w ∷ c)) (has (v ∷ a))
  pub c_b : Apart (has (w ∷ c)) (has (v ∷ b))
  pub d_b : Apart (has (w ∷ d)) (has (v ∷ b))

-- a way without a node is one whose nodes do not have it
avoids : (a : List ℕ) (w : ℕ) → ((z : ℕ) → has a z ≡ true → w ≡ z → ⊥) → has a w ≡ false
avoids a w out = false_from_ne_true (has a w) (λ h. out w h refl)

-- two paths of a flow to monitors beside a banned node are two such arms
pub two_arms : (t : Task) (m : ℕ → Bool) (w : ℕ) (ps : List (List ℕ)) (d : List ℕ) → IsFlow t ps → length ps ≡ 2 → ((z : ℕ) → t.targets z ≡ true → m z ≡ true) → t.banned w ≡ true → w ≢ t.source →
    TwoArms t.graph m t.source w (later_of (get_or ps 0 d)) (later_of (get_or ps 1 d))
two_arms t m w ps d flow two inside bans differ =
    let first = way_at t ps flow 0 d (omega (arith, two)) in
    let second = way_at t ps flow 1 d (omega (arith, two)) in record {
      arm_a = arm_of t m (later_of (get_or ps 0 d)) inside first;
      arm_b = arm_of t m (later_of (get_or ps 1 d)) inside second;
      a_b = ways_apart t ps flow 0 1 d d (λ e. absurd (omega (arith, e))) (omega (arith, two)) (omega (arith, two));
      off_a = avoids (t.source ∷ later_of (get_or ps 0 d)) w (λ z. way_avoids t (later_of (get_or ps 0 d)) w z first bans differ);
      off_b = avoids (t.source ∷ later_of (get_or ps 1 d)) w (λ z. way_avoids t (later_of (get_or ps 1 d)) w z second bans differ);
    }

-- a way has a second node, as its source is no target
pub goes_on : (t : Task) (a : List ℕ) → t.targets t.source ≡ false → IsWay t a → a ≡ first_of a ∷ later_of a
goes_on t [] plain way = absurd (both_ways (t.targets t.source) plain way.leads)
goes_on t (x ∷ a) plain way = refl

-- three paths of a flow, of which one goes on with w
pub three_ways : (t : Task) (w : ℕ) (ps : List (List ℕ)) (d : List ℕ) (i j k : ℕ) → IsFlow t ps → t.targets t.source ≡ false → i < length ps → j < length ps → k < length ps → i ≢ j → i ≢ k → j ≢ k → second_of (get_or ps i d) ≡ w →
    ThreeWays t w (later_of (later_of (get_or ps i d))) (later_of (get_or ps j d)) (later_of (get_or ps k d))
three_ways t w ps d i j k flow plain li lj lk ij ik jk is =
    let way = way_at t ps flow i d li in
    let on : later_of (get_or ps i d) ≡ w ∷ later_of (later_of (get_or ps i d)) =
    goes_on t (later_of (get_or ps i d)) plain way ∙ ap (λ x. x ∷ later_of (later_of (get_or ps i d))) is in record {
      way_a = subst (IsWay t) on way;
      way_b = way_at t ps flow j d lj;
      way_c = way_at t ps flow k d lk;
      a_b = subst (λ a. Apart (has a) (has (later_of (get_or ps j d)))) on (ways_apart t ps flow i j d d ij li lj);
      a_c = subst (λ a. Apart (has a) (has (later_of (get_or ps k d)))) on (ways_apart t ps flow i k d d ik li lk);
      b_c = ways_apart t ps flow j k d d jk lj lk;
    }

-- a walk from a node on its way
steps_after : (g : Network) (x : ℕ) (front : List ℕ) (y : ℕ) (rest : List ℕ) → StepsFrom g x (front ++ y ∷ rest) → StepsFrom g y rest
steps_after g x [] y rest steps = steps.1
steps_after g x (z ∷ front) y rest steps = steps_after g z front y rest steps.1

-- the first flow has given three ways from v; the second leads from w, without v, to the monitors and to the ways b and c
module _ (g : Network) (m : ℕ → Bool) (v w : ℕ) (a b c : List ℕ) (v_w : v ≢ w) (ways : ThreeWays (freely g m v) w a b c) where
  -- w is on neither of the two ways
  w_off : (has b w ≡ false) × (has c w ≡ false)
  w_off = (
    false_from_ne_true (has b w) (λ h. ways.a_b w (has_first w a) h),
    false_from_ne_true (has c w) (λ h. ways.a_c w (has_first w a) h),
  )

  -- it is no target
  w_no_target : m w ≡ false → with_lists m b c w ≡ false
  w_no_target plain = or_from (m w || has b w) (has c w) (or_from (m w) (has b w) plain w_off.0) w_off.1

  -- so the second task is one
  pub onto_ok : IsGraph g → w < g.nodes → m w ≡ false → IsTask (onto g m b c w v)
  onto_ok graph below plain = record { graph = graph; below = below; no_target = w_no_target plain; no_banned = has_not v [] w v_w (has_none w) }

  -- the third way goes on from w as a way of the second flow
  pub kept_way : IsWay (onto g m b c w v) a
  kept_way = record {
    leads = leads_changed (freely g m v) (onto g m b c w v) w a refl
        (λ z h. same (m z) (has b z) (has c z) (false_from_ne_true (has b z) (λ k. ways.a_b z h k)) (false_from_ne_true (has c z) (λ k. ways.a_c z h k)))
        (λ z h. has_not v [] z (λ e. not_first v (w ∷ a) z ways.way_a.once (has_later w a z h) e) (has_none z))
        ways.way_a.leads.3;
    once = ways.way_a.once.1;
  }
    where
      same : (x y z : Bool) → y ≡ false → z ≡ false → ((x || y) || z) ≡ x
      same x y z e f = grind (arith, e, f)

  -- what lies on b is a target
  target_b : (z : ℕ) → has b z ≡ true → with_lists m b c z ≡ true
  target_b z h = or_left (m z || has b z) (has c z) (or_right (m z) (has b z) h)

  -- so is what lies on c
  target_c : (z : ℕ) → has c z ≡ true → with_lists m b c z ≡ true
  target_c z h = or_right (m z || has b z) (has c z) h

  -- b is an arm of v
  arm_b : IsArm g m v b
  arm_b = arm_of (freely g m v) m b (λ z h. h) ways.way_b

  -- so is c
  arm_c : IsArm g m v c
  arm_c = arm_of (freely g m v) m c (λ z h. h) ways.way_c

  -- the ways of the second flow: p, which ends where the kept way ends, and q
  module _ (p q : List ℕ) (way_p : IsWay (onto g m b c w v) p) (way_q : IsWay (onto g m b c w v) q) (end_p : end_of w p ≡ end_of w a) (p_q : Apart (has p) (has q)) where
    -- a node of p that is a target is the end of a
    on_p : (z : ℕ) → has (w ∷ p) z ≡ true → with_lists m b c z ≡ true → has (w ∷ a) z ≡ true
    on_p z h is =
        let last : z ≡ end_of w a = leads_last (onto g m b c w v) w p z way_p.leads h is ∙ end_p in
        ap (has (w ∷ a)) last ∙ has_end w a

    -- p shares no node with b
    p_b : Apart (has (w ∷ p)) (has b)
    p_b z h k = ways.a_b z (on_p z h (target_b z k)) k

    -- nor with c
    p_c : Apart (has (w ∷ p)) (has c)
    p_c z h k = ways.a_c z (on_p z h (target_c z k)) k

    -- a way from w that does not meet d does not meet v d
    off : (r d : List ℕ) → IsWay (onto g m b c w v) r → Apart (has (w ∷ r)) (has d) → Apart (has (w ∷ r)) (has (v ∷ d))
    off r d way apart z h k = elim (has_cases v d z k) [ inl e ↦ way_avoids (onto g m b c w v) r v z way (has_first v []) v_w h e | inr e ↦ apart z h e ]

    -- p is an arm of w
    arm_p : IsArm g m w p
    arm_p = record { steps = leads_steps (onto g m b c w v) w p way_p.leads; once = way_p.once; ends = ap m end_p ∙ leads_end (freely g m v) v (w ∷ a) ways.way_a.leads }

    -- a node of q that is a target is its end
    on_q : (z : ℕ) → has (w ∷ q) z ≡ true → with_lists m b c z ≡ true → z ≡ end_of w q
    on_q z h is = leads_last (onto g m b c w v) w q z way_q.leads h is

    -- q ends at a further monitor
    ends_apart : has b (end_of w q) ≡ false → has c (end_of w q) ≡ false → FourArms g m v w b c p q
    ends_apart off_b off_c = record {
      arm_a = arm_b;
      arm_b = arm_c;
      arm_c = arm_p;
      arm_d = record {
        steps = leads_steps (onto g m b c w v) w q way_q.leads;
        once = way_q.once;
        ends = monitor (leads_end (onto g m b c w v) w q way_q.leads);
      };
      a_b = ways.b_c;
      c_d = p_q;
      c_a = off p b way_p p_b;
      c_b = off p c way_p p_c;
      d_b = off q c way_q (λ z h k. both_ways (has c (end_of w q)) off_c (ap (has c) (sym (on_q z h (target_c z k))) ∙ k));
    }
      where
        monitor : with_lists m b c (end_of w q) ≡ true → m (end_of w q) ≡ true
        monitor h = elim (or_cases (m (end_of w q) || has b (end_of w q)) (has c (end_of w q)) h) [
          | inl e ↦ elim (or_cases (m (end_of w q)) (has b (end_of w q)) e) [ inl is ↦ is | inr k ↦ absurd (both_ways (has b (end_of w q)) off_b k) ]
          | inr e ↦ absurd (both_ways (has c (end_of w q)) off_c e)
        ]

    -- q ends on one of the two, which leads it on
    ends_on : (near far : List ℕ) → IsArm g m v near → IsArm g m v far → Apart (has near) (has far) →
        ((z : ℕ) → has near z ≡ true → with_lists m b c z ≡ true) → ((z : ℕ) → has far z ≡ true → with_lists m b c z ≡ true) →
        Apart (has (w ∷ p)) (has near) → Apart (has (w ∷ p)) (has far) → (front rest : List ℕ) → near ≡ front ++ end_of w q ∷ rest → FourArms g m v w near far p (q ++ rest)
    ends_on near far arm arm' near_far target_near target_far p_near p_far front rest is =
        let y = end_of w q in
        let on_near : (z : ℕ) → has (y ∷ rest) z ≡ true → has near z ≡ true = λ z h. ap (λ l. has l z) is ∙ append_right front (y ∷ rest) z h in
        let y_near : has near y ≡ true = on_near y (has_first y rest) in
        let once : NoneTwice (y ∷ rest) = once_right front (y ∷ rest) (subst NoneTwice is arm.once.1) in
        let rest_near : (z : ℕ) → has rest z ≡ true → has near z ≡ true = λ z h. on_near z (has_later y rest z h) in
        let last_is : end_of v near ≡ end_of y rest = ap (end_of v) is ∙ end_of-append v front (y ∷ rest) in record {
          arm_a = arm;
          arm_b = arm';
          arm_c = arm_p;
          arm_d = record {
            steps = StepsFrom-append g w q rest (leads_steps (onto g m b c w v) w q way_q.leads) (steps_after g v front y rest (subst (StepsFrom g v) is arm.steps));
            once = once_append (w ∷ q) rest way_q.once once.1 (λ z h k. both_ways (has rest y) once.0 (ap (has rest) (sym (on_q z h (target_near z (rest_near z k)))) ∙ k));
            ends = ap m (end_of-append w q rest ∙ sym last_is) ∙ arm.ends;
          };
          a_b = near_far;
          c_d = λ z h k. elim (append_cases q rest z k) [ inl e ↦ p_q z h e | inr e ↦ p_near z (has_later w p z h) (rest_near z e) ];
          c_a = off p near way_p p_near;
          c_b = off p far way_p p_far;
          d_b = λ z h k. elim (append_cases (w ∷ q) rest z h) [
            | inl e ↦ off q far way_q (λ u hu ku. near_far u (ap (has near) (on_q u hu (target_far u ku)) ∙ y_near) ku) z e k
            | inr e ↦ elim (has_cases v far z k) [ inl same ↦ not_first v near z arm.once (rest_near z e) same | inr in_far ↦ near_far z (rest_near z e) in_far ]
          ];
        }

    -- the four arms, by where q ends
    pub four_arms : (near far whole : List ℕ) → IsChoice (v ∷ b) (v ∷ c) (end_of w q) near far → IsLedOn (w ∷ q) (later_of near) whole →
        FourArms g m v w (later_of near) (later_of far) p (later_of whole)
    four_arms near far whole choice led = elim choice [
      | inl first ↦ rw (first.1, first.2) (elim (rw first.1 at led) [
        | inl out ↦ rw out.1 (ends_apart out.0 (off_rest v c (end_of w q) first.0))
        | inr on ↦ rw on.3 (ends_on b c arm_b arm_c ways.b_c target_b target_c p_b p_c on.0 on.1 on.2)
      ])
      | inr second ↦ rw (second.1, second.2) (elim (rw second.1 at led) [
        | inl out ↦ absurd (both_ways (has c (end_of w q)) out.0 (on_c second.0))
        | inr on ↦ rw on.3 (ends_on c b arm_c arm_b (λ z h k. ways.b_c z k h) target_c target_b p_c p_b on.0 on.1 on.2)
      ])
    ]
      where
        on_c : has (v ∷ c) (end_of w q) ≡ true → has c (end_of w q) ≡ true
        on_c h = elim (has_cases v c (end_of w q) h) [ inl e ↦ absurd (way_avoids (onto g m b c w v) q v (end_of w q) way_q (has_first v []) v_w (has_end w q) e) | inr k ↦ k ]
