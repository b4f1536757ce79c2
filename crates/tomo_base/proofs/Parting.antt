-- Sets without one or two of their nodes; closed sets, and what no closed set parts.
use Rattle.std.proofs.Common.{◌≡◌, ◌≢◌, ℕ, Bool, true, false, not, ◌&&◌, ◌==◌, IsTrue, ap, sym, subst, inl, inr}
use Rattle.std.proofs.lemmas.Bool.{cases_Bool, both_ways, and_parts, and_from, not-true, eq-eqb, ne_eqb}
use Rattle.tomo_base.specs.Network.{Network, linked}
use Rattle.tomo_base.specs.Sets.{without, minus, Within}
use Rattle.tomo_base.specs.Parting.{without_two, IsClosedIn, AreJoinedIn, IsJoinedIn, IsJoinedWithoutOne}
use Rattle.tomo_base.proofs.Links.{linked_comm}

-- ---- sets with one or two nodes fewer

-- a node other than c stays
pub without-from : (V : ℕ → Bool) (c v : ℕ) → IsTrue (V v) → (v ≢ c) → IsTrue (without V c v)
without-from V c v m p = and_from (V v) (not (v == c)) m (ap not (ne_eqb v c p))

-- a node that stays is another than c
pub without-parts : (V : ℕ → Bool) (c v : ℕ) → IsTrue (without V c v) → (IsTrue (V v)) × (v ≢ c)
without-parts V c v h = let p = and_parts (V v) (not (v == c)) h in
    (p.0, (λ e. both_ways (v == c) (not-true (v == c) p.1) (eq-eqb v c e)))

-- a smaller set without the same two
pub without_two-mono : (V W : ℕ → Bool) (c d : ℕ) → Within V W → (v : ℕ) → IsTrue (without_two V c d v) → IsTrue (without_two W c d v)
without_two-mono V W c d s v h =
    let p = and_parts (V v && not (v == c)) (not (v == d)) h in
    let q = and_parts (V v) (not (v == c)) p.0 in
    and_from (W v && not (v == c)) (not (v == d)) (and_from (W v) (not (v == c)) (s v q.0) q.1) p.1

-- what is left of V is in V
pub without_two-in : (V : ℕ → Bool) (c d : ℕ) (v : ℕ) → IsTrue (without_two V c d v) → IsTrue (V v)
without_two-in V c d v h = (and_parts (V v) (not (v == c)) (and_parts (V v && not (v == c)) (not (v == d)) h).0).0

-- the same removal in another set
pub without_two-to : (V W : ℕ → Bool) (c d : ℕ) (v : ℕ) → IsTrue (without_two W c d v) → IsTrue (V v) → IsTrue (without_two V c d v)
without_two-to V W c d v h m =
    let p = and_parts (W v && not (v == c)) (not (v == d)) h in
    let q = and_parts (W v) (not (v == c)) p.0 in
    and_from (V v && not (v == c)) (not (v == d)) (and_from (V v) (not (v == c)) m q.1) p.1

-- a node other than c and d stays
pub without_two-from : (V : ℕ → Bool) (c d v : ℕ) → IsTrue (V v) → (v ≢ c) → (v ≢ d) → IsTrue (without_two V c d v)
without_two-from V c d v m p q =
    and_from (V v && not (v == c)) (not (v == d)) (and_from (V v) (not (v == c)) m (ap not (ne_eqb v c p))) (ap not (ne_eqb v d q))

-- a node that stays is another than c and d
pub without_two-ne : (V : ℕ → Bool) (c d v : ℕ) → IsTrue (without_two V c d v) → (v ≢ c) × (v ≢ d)
without_two-ne V c d v h =
    let p = and_parts (V v && not (v == c)) (not (v == d)) h in
    let q = and_parts (V v) (not (v == c)) p.0 in
    ((λ e. both_ways (v == c) (not-true (v == c) q.1) (eq-eqb v c e)), (λ e. both_ways (v == d) (not-true (v == d) p.1) (eq-eqb v d e)))

-- a node that stays is in V, and is another than c and d
pub without_two_gives : (V : ℕ → Bool) (c d v : ℕ) → IsTrue (without_two V c d v) → IsTrue (V v) × (v ≢ c) × (v ≢ d)
without_two_gives V c d v h = let ne = without_two-ne V c d v h in (without_two-in V c d v h, ne.0, ne.1)

-- in W and not in X
pub minus-in : (W X : ℕ → Bool) (v : ℕ) → IsTrue (W v) → X v ≡ false → IsTrue (minus W X v)
minus-in W X v w x = and_from (W v) (not (X v)) w (ap not x)

-- of W and not of X
pub minus-out : (W X : ℕ → Bool) (v : ℕ) → IsTrue (minus W X v) → (IsTrue (W v)) × (X v ≡ false)
minus-out W X v h = let p = and_parts (W v) (not (X v)) h in (p.0, not-true (X v) p.1)

-- in either order
pub flip : {a b : ℕ} → (a ≢ b) → (b ≢ a)
flip n k = n (sym k)

-- ---- closed sets

-- joined nodes one after the other
pub joined-trans : (N : Network) (W : ℕ → Bool) (a b c : ℕ) → AreJoinedIn N W a b → AreJoinedIn N W b c → AreJoinedIn N W a c
joined-trans N W a b c p q X h x = q X h (p X h x)

-- joined in a set, and so in a larger one
pub joined-more : (N : Network) (W V : ℕ → Bool) → Within W V → (a b : ℕ) → AreJoinedIn N W a b → AreJoinedIn N V a b
joined-more N W V s a b p X h x = p X (λ u v m l w. h u v m l (s v w)) x

-- the rest of a closed set is closed
pub closed-rest : (N : Network) (W X : ℕ → Bool) → IsClosedIn N W X → IsClosedIn N W (minus W X)
closed-rest N W X h u v m l w =
    let p = minus-out W X u m in
    elim (cases_Bool (X v)) [
      | inl x ↦ absurd (both_ways (X u) p.1 (h v u x (linked_comm N u v l) p.0))
      | inr x ↦ minus-in W X v w x
    ]

-- joined in either order
pub joined-sym : (N : Network) (W : ℕ → Bool) (a b : ℕ) → IsTrue (W a) → IsTrue (W b) → AreJoinedIn N W a b → AreJoinedIn N W b a
joined-sym N W a b wa wb p X h x =
    elim (cases_Bool (X a)) [
      | inl y ↦ y
      | inr y ↦ absurd (both_ways (X b) ((minus-out W X b (p (minus W X) (closed-rest N W X h) (minus-in W X a wa y))).1) x)
    ]

-- the ends of a link are joined
pub joined-step : (N : Network) (W : ℕ → Bool) (a b : ℕ) → linked N a b ≡ true → IsTrue (W b) → AreJoinedIn N W a b
joined-step N W a b l w X h x = h a b x l w

-- a set whose nodes are all joined to one is connected
pub joined-at : (N : Network) (W : ℕ → Bool) (r : ℕ) → IsTrue (W r) → ((v : ℕ) → IsTrue (W v) → AreJoinedIn N W r v) → IsJoinedIn N W
joined-at N W r ir h a b ia ib = joined-trans N W a r b (joined-sym N W r a ir ia (h a ia)) (h b ib)

-- sets with the same nodes are connected alike
pub joined-same : (N : Network) (W V : ℕ → Bool) → Within W V → Within V W → IsJoinedIn N W → IsJoinedIn N V
joined-same N W V wv vw f a b ia ib = joined-more N W V wv a b (f a b (vw a ia) (vw b ib))

-- one node removed is the same node removed twice
pub without-twice : (W : ℕ → Bool) (c : ℕ) → Within (without W c) (without_two W c c)
without-twice W c v i = let p = without-parts W c v i in without_two-from W c c v p.0 p.1 p.1

-- one node removed, from the same node removed twice
pub without-once : (W : ℕ → Bool) (c : ℕ) → Within (without_two W c c) (without W c)
without-once W c v i = without-from W c v (without_two-in W c c v i) (without_two-ne W c c v i).0

-- what is removed is not there: nothing changes
pub without-none : (W : ℕ → Bool) (c : ℕ) → W c ≡ false → Within W (without W c)
without-none W c n v i = without-from W c v i (λ e. both_ways (W c) n (subst (λ z. IsTrue (W z)) e i))

-- a connected set that no one of its nodes cuts is connected without any number
pub joined-each : (N : Network) (S : ℕ → Bool) → IsJoinedIn N S → ((w : ℕ) → IsTrue (S w) → IsJoinedIn N (without S w)) → IsJoinedWithoutOne N S
joined-each N S firm each c = elim (cases_Bool (S c)) [
  | inl m ↦ each c m
  | inr n ↦ joined-same N S (without S c) (without-none S c n) (λ v i. (without-parts S c v i).0) firm
]
