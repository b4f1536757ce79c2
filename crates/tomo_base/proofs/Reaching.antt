-- The nodes to which walks in a set lead from a node are a closed set; so what no closed set parts is joined by a walk, and the other way round.
use Rattle.std.proofs.Common.{◌≡◌, ℕ, zero, suc, ◌+◌, ◌<◌, nat_lt, Bool, true, false, not, ◌&&◌, ◌==◌, ◌⊎◌, [], IsTrue, refl, sym, ap, subst, inl, inr, arith, lt-ltb, le-ltb}
use Rattle.std.proofs.lemmas.Bool.{cases_Bool, both_ways, and_parts, and_from, and_right, not-true, eqb-true, eq-eqb, or_cases, or_left, or_right, cases_eq, cases_lt}
use Rattle.tomo_base.specs.Network.{Network, linked, IsGraph}
use Rattle.tomo_base.specs.Sets.{count, minus, meet, Within}
use Rattle.tomo_base.specs.Walks.{Reaches, IsConnectedIn}
use Rattle.tomo_base.proofs.Counts.{find, count-less}
use Rattle.tomo_base.proofs.Links.{linked_below}
use Rattle.tomo_base.proofs.Walks.{Reaches-step, stays_in}
use Rattle.tomo_base.specs.Parting.{with_one, IsClosedIn, AreJoinedIn, IsJoinedIn}
use Rattle.tomo_base.proofs.Parting.{joined-trans, joined-step, minus-in, minus-out, joined-at}

module _ (N : Network) (W : ℕ → Bool) (n : ℕ) (bound : (v : ℕ) → IsTrue (W v) → v < n) (a : ℕ) (wa : IsTrue (W a))
    (P : ℕ → Type 0) (pa : P a) (step : (u v : ℕ) → P u → linked N u v ≡ true → IsTrue (W v) → P v) where
  -- a closed set with a, of which each member has the property that every step keeps
  abbrev Reached : Type 0
  Reached = (R : ℕ → Bool) × Within R W × IsTrue (R a) × IsClosedIn N W R × ((v : ℕ) → IsTrue (R v) → P v)

  -- a link that leaves R, or none
  leaves : (k : ℕ) (R : ℕ → Bool) → ((u v : ℕ) × IsTrue (R u) × (linked N u v ≡ true) × IsTrue (W v) × (R v ≡ false))
      ⊎ ((v : ℕ) → v < k → IsTrue (W v) → R v ≡ false → (u : ℕ) → u < n → IsTrue (R u) → linked N u v ≡ false)
  leaves zero R = inr (λ v l. absurd (omega (arith, l)))
  leaves (suc k) R = elim (leaves k R) [
    | inl r ↦ inl r
    | inr f ↦ elim (find n (λ u. (R u && linked N u k) && (W k && not (R k)))) [
      | inl r ↦
          let p = and_parts (R r.0 && linked N r.0 k) (W k && not (R k)) r.2 in
          let q = and_parts (R r.0) (linked N r.0 k) p.0 in
          let t = and_parts (W k) (not (R k)) p.1 in
          inl (r.0, k, q.0, q.1, t.0, not-true (R k) t.1)
      | inr g ↦ inr (λ v l iw nr u lu ru. elim (cases_eq v k) [
        | inl e ↦ elim (cases_Bool (linked N u v)) [
          | inl ll ↦ absurd (both_ways ((R u && linked N u k) && (W k && not (R k))) (g u lu)
              (and_from (R u && linked N u k) (W k && not (R k)) (and_from (R u) (linked N u k) ru (subst (λ z. linked N u z ≡ true) e ll))
              (and_from (W k) (not (R k)) (subst (λ z. IsTrue (W z)) e iw) (ap not (subst (λ z. R z ≡ false) e nr)))))
          | inr nl ↦ nl
        ]
        | inr d ↦ f v (omega (arith, l, d)) iw nr u lu ru
      ])
    ]
  ]

  -- one more node at a time
  go : (f : ℕ) (R : ℕ → Bool) → count n (minus W R) < f → Within R W → IsTrue (R a) → ((v : ℕ) → IsTrue (R v) → P v) → Reached
  go zero R few sub ra pr = absurd (omega arith)
  go (suc f) R few sub ra pr = elim (leaves n R) [
    | inl r ↦
        let v = r.1 in
        let more : ℕ → Bool = with_one R v in
        let fewer : count n (minus W more) < count n (minus W R) = count-less n (minus W more) (minus W R) v (bound v r.4)
        (and_right (W v) (not (more v)) (ap not (or_right (R v) (v == v) (eq-eqb v v refl)))) (minus-in W R v r.4 r.5)
        (λ w l m. let o = minus-out W more w m in
        minus-in W R w o.0 (elim (cases_Bool (R w)) [ inl x ↦ absurd (both_ways (more w) o.1 (or_left (R w) (w == v) x)) | inr none ↦ none ])) in
        go f more (omega (arith, few, fewer))
        (λ w m. elim (or_cases (R w) (w == v) m) [ inl x ↦ sub w x | inr e ↦ subst (λ z. IsTrue (W z)) (sym (eqb-true w v e)) r.4 ])
        (or_left (R a) (a == v) ra)
        (λ w m. elim (or_cases (R w) (w == v) m) [ inl x ↦ pr w x | inr e ↦ subst P (sym (eqb-true w v e)) (step r.0 v (pr r.0 r.2) r.3 r.4) ])
    | inr none ↦ (
      R,
      sub,
      ra,
      (λ u v m l iv. elim (cases_Bool (R v)) [
        | inl x ↦ x
        | inr out ↦ absurd (both_ways (linked N u v) (none v (bound v iv) iv out u (bound u (sub u m)) m) l)
      ]),
      pr,
    )
  ]

  -- the nodes reached from a
  pub reach : Reached
  reach = go (count n (minus W (λ v. v == a)) + 1) (λ v. v == a) (omega arith)
      (λ v m. subst (λ z. IsTrue (W z)) (sym (eqb-true v a m)) wa) (eq-eqb a a refl) (λ v m. subst P (sym (eqb-true v a m)) pa)

-- joined, or a closed set tells them apart
pub joined-or : (N : Network) (W : ℕ → Bool) (n : ℕ) → ((v : ℕ) → IsTrue (W v) → v < n) → (a b : ℕ) → IsTrue (W a)
    → AreJoinedIn N W a b ⊎ ((X : ℕ → Bool) × Within X W × IsClosedIn N W X × IsTrue (X a) × (X b ≡ false))
joined-or N W n bound a b wa =
    let r = reach N W n bound a wa (λ v. AreJoinedIn N W a v) (λ X h x. x) (λ u v t l w. joined-trans N W a u v t (joined-step N W u v l w)) in
    elim (cases_Bool (r.0 b)) [ inl m ↦ inl (r.4 b m) | inr out ↦ inr (r.0, r.1, r.3, r.2, out) ]

-- a set with a node a: connected, or a closed set holds a and not all
pub cut-or-joined : (N : Network) (W : ℕ → Bool) (n : ℕ) → ((v : ℕ) → IsTrue (W v) → v < n) → (a : ℕ) → IsTrue (W a)
    → IsJoinedIn N W ⊎ ((K : ℕ → Bool) × Within K W × IsClosedIn N W K × IsTrue (K a) × ((b : ℕ) × IsTrue (W b) × (K b ≡ false)))
cut-or-joined N W n bound a wa =
    let r = reach N W n bound a wa (λ v. AreJoinedIn N W a v) (λ X h x. x) (λ u v t l w. joined-trans N W a u v t (joined-step N W u v l w)) in
    elim (find n (minus W r.0)) [
      | inl b ↦ let m = minus-out W r.0 b.0 b.2 in inr (r.0, r.1, r.3, r.2, (b.0, m.0, m.1))
      | inr none ↦ inl (joined-at N W a wa (λ v iv. elim (cases_Bool (r.0 v)) [
        | inl m ↦ r.4 v m
        | inr out ↦ absurd (both_ways (minus W r.0 v) (none v (bound v iv)) (minus-in W r.0 v iv out))
      ]))
    ]

-- ---- walks

-- a walk does not leave a closed set, so it joins its ends
pub Reaches-joined : (g : Network) (W : ℕ → Bool) (a b : ℕ) → Reaches g W a b → AreJoinedIn g W a b
Reaches-joined g W a b walk X closed here = stays_in g W X a b closed here walk

-- the nodes of the graph
abbrev pub is_node : Network → ℕ → Bool
is_node g v = nat_lt v g.nodes

-- the nodes of a set
abbrev pub nodes_in : Network → (ℕ → Bool) → ℕ → Bool
nodes_in g W = meet (is_node g) W

-- a node is one
pub is_node-from : (g : Network) (v : ℕ) → v < g.nodes → IsTrue (is_node g v)
is_node-from g v l = lt-ltb v g.nodes l

-- and what is one is below n
pub is_node_below : (g : Network) (v : ℕ) → IsTrue (is_node g v) → v < g.nodes
is_node_below g v m = elim (cases_lt v g.nodes) [ inl l ↦ l | inr ge ↦ absurd (both_ways (is_node g v) (le-ltb v g.nodes ge) m) ]

-- nodes of q to which walks in it lead from a, and from which no link leads to another node of q
pub record IsReachOf (g : Network) (q : ℕ → Bool) (a : ℕ) (r : ℕ → Bool) : Type 0 where
  pub start : IsTrue (r a)
  pub inside : (v : ℕ) → IsTrue (r v) → (v < g.nodes) × IsTrue (q v)
  pub walks : (v : ℕ) → IsTrue (r v) → Reaches g q a v
  pub closed : IsClosedIn g q r

-- all nodes that walks in q reach from a, where the links of the graph join nodes
pub reached : (g : Network) → ((u v : ℕ) → IsTrue (linked g u v) → (u < g.nodes) × (v < g.nodes)) → (q : ℕ → Bool) (a : ℕ) → a < g.nodes → IsTrue (q a) → (r : ℕ → Bool) × IsReachOf g q a r
reached g below q a node here =
    let both : (v : ℕ) → v < g.nodes → IsTrue (q v) → IsTrue (nodes_in g q v) = λ v l t. and_from (is_node g v) (q v) (is_node-from g v l) t in
    let parts : (v : ℕ) → IsTrue (nodes_in g q v) → (v < g.nodes) × IsTrue (q v) = λ v t. let p = and_parts (is_node g v) (q v) t in (is_node_below g v p.0, p.1) in
    let r = reach g (nodes_in g q) g.nodes (λ v t. (parts v t).0) a (both a node here) (Reaches g q a) ([], tt, tt, refl) (λ u v walk link t. Reaches-step g q a u v walk link (parts v t).1) in (
      r.0,
      record {
        start = r.2;
        inside = λ v t. parts v (r.1 v t);
        walks = r.4;
        closed = λ u v t link k. r.3 u v t link (both v (below u v link).1 k);
      },
    )

-- joined nodes are joined by a walk
pub joined-Reaches : (g : Network) (W : ℕ → Bool) → IsGraph g → (a b : ℕ) → a < g.nodes → IsTrue (W a) → AreJoinedIn g W a b → Reaches g W a b
joined-Reaches g W graph a b l wa joined = let r = reached g (λ u v link. linked_below g.nodes g.links u v graph link) W a l wa in r.1.walks b (joined r.0 r.1.closed r.1.start)

-- a set of nodes that is connected by walks is connected by closed sets
pub connected-joined : (g : Network) (W : ℕ → Bool) → ((v : ℕ) → IsTrue (W v) → v < g.nodes) → IsConnectedIn g W → IsJoinedIn g W
connected-joined g W bound connected a b ia ib = Reaches-joined g W a b (connected a b (bound a ia) (bound b ib) ia ib)

-- and the other way round
pub joined-connected : (g : Network) (W : ℕ → Bool) → IsGraph g → IsJoinedIn g W → IsConnectedIn g W
joined-connected g W graph firm a b la lb ia ib = joined-Reaches g W graph a b la ia (firm a b ia ib)
