-- The paths of a flow one by one: each leads from the source to a target, and no two share another node.
use Rattle.std.proofs.Common.{ℕ, zero, suc, ◌<◌, ◌≡◌, ◌≢◌, Bool, true, false, List, [], ◌∷◌, length, get_or, IsTrue, refl, sym, ap, subst, ◌∙◌, inl, inr, arith}
use Rattle.std.proofs.lemmas.Bool.{cases_order, both_ways, false_from_ne_true}
use Rattle.std.proofs.lemmas.List.{append-nil}
use Rattle.std.proofs.lemmas.List.Elements.{All-nil, All-cons}
use Rattle.tomo_base.specs.Network.{linked}
use Rattle.tomo_base.specs.Sets.{has, Apart}
use Rattle.tomo_base.specs.Walks.{StepsFrom, NoneTwice, end_of}
use Rattle.unit_flow.specs.Flows.{Task, LeadsFrom, IsRoute, later_of, all_later, last_of, IsFlow}
use Rattle.tomo_base.proofs.Members.{has_first, has_later, has_cases, append_left, append_right}
use Rattle.tomo_base.proofs.Paths.{once_left, once_right, once_apart}
use Rattle.cross_links.specs.Ways.{IsWay}
use Rattle.cross_links.proofs.Turned.{IsArm}

-- ---- on the way
-- each node is linked to the next
pub leads_steps : (t : Task) (x : ℕ) (a : List ℕ) → LeadsFrom t x a → StepsFrom t.graph x a
leads_steps t x [] l = tt
leads_steps t x (y ∷ a) l = (l.1, leads_steps t y a l.3)

-- the last is a target
pub leads_end : (t : Task) (x : ℕ) (a : List ℕ) → LeadsFrom t x a → t.targets (end_of x a) ≡ true
leads_end t x [] l = l
leads_end t x (y ∷ a) l = leads_end t y a l.3

-- none after the first is banned
leads_free : (t : Task) (x : ℕ) (a : List ℕ) (z : ℕ) → LeadsFrom t x a → has a z ≡ true → t.banned z ≡ false
unfolding has
leads_free t x [] z l h = absurd (both_ways false refl h)
leads_free t x (y ∷ a) z l h = elim (has_cases y a z h) [ inl e ↦ ap t.banned (sym e) ∙ l.2 | inr e ↦ leads_free t y a z l.3 e ]

-- so one that is banned is not there
pub leads_avoid : (t : Task) (x : ℕ) (a : List ℕ) (z : ℕ) → LeadsFrom t x a → t.banned z ≡ true → has a z ≡ false
leads_avoid t x a z l bans = false_from_ne_true (has a z) (λ h. both_ways (t.banned z) (leads_free t x a z l h) bans)

-- a target is the last
pub leads_last : (t : Task) (x : ℕ) (a : List ℕ) (z : ℕ) → LeadsFrom t x a → has (x ∷ a) z ≡ true → t.targets z ≡ true → z ≡ end_of x a
unfolding has
leads_last t x [] z l h is = elim (has_cases x [] z h) [ inl e ↦ sym e | inr e ↦ absurd (both_ways false refl e) ]
leads_last t x (y ∷ a) z l h is = elim (has_cases x (y ∷ a) z h) [
  | inl e ↦ absurd (both_ways (t.targets z) (ap t.targets (sym e) ∙ l.0) is)
  | inr e ↦ leads_last t y a z l.3 e is
]

-- other targets and other banned nodes, which make no difference on the way
pub leads_changed : (t t' : Task) (x : ℕ) (a : List ℕ) → t.graph ≡ t'.graph → ((z : ℕ) → has (x ∷ a) z ≡ true → t'.targets z ≡ t.targets z) → ((z : ℕ) → has a z ≡ true → t'.banned z ≡ false) →
    LeadsFrom t x a → LeadsFrom t' x a
leads_changed t t' x [] same target free l = target x (has_first x []) ∙ l
leads_changed t t' x (y ∷ a) same target free l = (
  target x (has_first x (y ∷ a)) ∙ l.0,
  subst (λ g. IsTrue (linked g x y)) same l.1,
  free y (has_first y a),
  leads_changed t t' y a same (λ z h. target z (has_later x (y ∷ a) z h)) (λ z h. free z (has_later y a z h)) l.3,
)

-- a way to monitors is an arm
pub arm_of : (t : Task) (m : ℕ → Bool) (a : List ℕ) → ((z : ℕ) → t.targets z ≡ true → m z ≡ true) → IsWay t a → IsArm t.graph m t.source a
arm_of t m a inside way = record {
  steps = leads_steps t t.source a way.leads;
  once = way.once;
  ends = inside (end_of t.source a) (leads_end t t.source a way.leads);
}

-- a banned node is not on the way
pub way_avoids : (t : Task) (a : List ℕ) (v z : ℕ) → IsWay t a → t.banned v ≡ true → v ≢ t.source → has (t.source ∷ a) z ≡ true → v ≡ z → ⊥
way_avoids t a v z way bans differ h e = elim (has_cases t.source a z h) [
  | inl same ↦ differ (e ∙ sym same)
  | inr later ↦ both_ways (t.banned v) (ap t.banned e ∙ leads_free t t.source a z way.leads later) bans
]

-- ---- the paths of a flow
-- one way alone
pub one_way : (t : Task) (a : List ℕ) → IsWay t a → IsFlow t ((t.source ∷ a) ∷ [])
one_way t a way = record {
  routes = All-cons (IsRoute t) (t.source ∷ a) [] (refl, way.leads) (All-nil (IsRoute t));
  apart = subst (λ z. NoneTwice (t.source ∷ z)) (sym (append-nil a)) way.once;
}

-- a path is the source, and what follows
whole : (t : Task) (p : List ℕ) → IsRoute t p → (p ≡ t.source ∷ later_of p) × LeadsFrom t t.source (later_of p)
whole t [] r = absurd r
whole t (x ∷ a) r = (ap (λ z. z ∷ a) r.0, subst (λ z. LeadsFrom t z a) r.0 r.1)

-- what follows on one path is on all paths together
later_in : (ps : List (List ℕ)) (i : ℕ) (d : List ℕ) (z : ℕ) → i < length ps → has (later_of (get_or ps i d)) z ≡ true → has (all_later ps) z ≡ true
later_in [] i d z l h = absurd (omega (arith, l))
later_in (p ∷ ps) zero d z l h = append_left (later_of p) (all_later ps) z h
later_in (p ∷ ps) (suc i) d z l h = append_right (later_of p) (all_later ps) z (later_in ps i d z (omega (arith, l)) h)

-- no node twice
later_once : (ps : List (List ℕ)) (i : ℕ) (d : List ℕ) → i < length ps → NoneTwice (all_later ps) → NoneTwice (later_of (get_or ps i d))
later_once [] i d l once = absurd (omega (arith, l))
later_once (p ∷ ps) zero d l once = once_left (later_of p) (all_later ps) once
later_once (p ∷ ps) (suc i) d l once = later_once ps i d (omega (arith, l)) (once_right (later_of p) (all_later ps) once)

-- nor on two paths
later_apart : (ps : List (List ℕ)) (i j : ℕ) (d e : List ℕ) → i < j → j < length ps → NoneTwice (all_later ps) → Apart (has (later_of (get_or ps i d))) (has (later_of (get_or ps j e)))
later_apart [] i j d e lt l once z h k = absurd (omega (arith, l))
later_apart (p ∷ ps) i zero d e lt l once z h k = absurd (omega (arith, lt))
later_apart (p ∷ ps) zero (suc j) d e lt l once z h k = once_apart (later_of p) (all_later ps) once z h (later_in ps j e z (omega (arith, l)) k)
later_apart (p ∷ ps) (suc i) (suc j) d e lt l once z h k = later_apart ps i j d e (omega (arith, lt)) (omega (arith, l)) (once_right (later_of p) (all_later ps) once) z h k

module _ (t : Task) (ps : List (List ℕ)) (flow : IsFlow t ps) where
  -- the path at a place
  pub whole_at : (i : ℕ) (d : List ℕ) → i < length ps → get_or ps i d ≡ t.source ∷ later_of (get_or ps i d)
  whole_at i d l = (whole t (get_or ps i d) (flow.routes i d l)).0

  -- its end
  pub end_at : (i : ℕ) (d : List ℕ) → i < length ps → last_of (get_or ps i d) ≡ end_of t.source (later_of (get_or ps i d))
  end_at i d l = ap last_of (whole_at i d l)

  -- its way
  pub way_at : (i : ℕ) (d : List ℕ) → i < length ps → IsWay t (later_of (get_or ps i d))
  way_at i d l = record {
    leads = (whole t (get_or ps i d) (flow.routes i d l)).1;
    once = (false_from_ne_true (has (later_of (get_or ps i d)) t.source) (λ h. both_ways (has (all_later ps) t.source) flow.apart.0 (later_in ps i d t.source l h)), later_once ps i d l flow.apart.1);
  }

  -- two ways
  pub ways_apart : (i j : ℕ) (d e : List ℕ) → i ≢ j → i < length ps → j < length ps → Apart (has (later_of (get_or ps i d))) (has (later_of (get_or ps j e)))
  ways_apart i j d e ne li lj z h k = elim (cases_order i j) [
    | inl same ↦ ne same
    | inr other ↦ elim other [ inl lt ↦ later_apart ps i j d e lt lj flow.apart.1 z h k | inr gt ↦ later_apart ps j i e d gt li flow.apart.1 z k h ]
  ]
