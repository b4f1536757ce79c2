-- What the nodes met tell of a set, and the outside neighbours met at the first nodes of a list.
use Rattle.std.proofs.Common.{◌≡◌, ◌≢◌, ℕ, ◌<◌, ◌≤◌, ◌+◌, Bool, true, false, ◌&&◌, not, ◌||◌, ◌==◌, List, [], take, length, get_or, All, refl, ap, sym, ◌∙◌, inl, inr, arith}
use Rattle.std.specs.List.{list_any}
use Rattle.std.proofs.lemmas.Bool.{cases_Bool, both_ways, false_from_ne_true, eq-eqb, ne_eqb, eqb-true, or_left, or_right}
use Rattle.std.proofs.lemmas.List.Folds.{list_any_more, Any-from_list_any, list_any_at}
use Rattle.tomo_base.specs.declared.graph.Hop.{Hop}
use Rattle.tomo_base.specs.declared.met.Met.{Met}
use Rattle.tomo_base.specs.declared.met.Met.TheVariants.{None, One, Two, More}
use Rattle.tomo_base.specs.Met.{AreMet, is_new}
use Rattle.tomo_base.specs.Network.{Network, linked, IsGraph}
use Rattle.tomo_base.specs.Sets.{has, count, one_if, touches, outside}
use Rattle.tomo_base.specs.Table.{AreHops}
use Rattle.tomo_base.proofs.Ascending.{has-at, place_in}
use Rattle.tomo_base.proofs.Counts.{count-same, count-mono, count-add, count-one, count-three}
use Rattle.tomo_base.proofs.Links.{linked_comm}
use Rattle.tomo_base.proofs.Members.{one_of_two}
use Rattle.tomo_base.proofs.Touching.{touches-hops, touches-single, touches-from, touches_gives}

-- the same is told of a set with the same numbers
pub tells-same : (n : ℕ) (q r : ℕ → Bool) (m : Met) → ((w : ℕ) → q w ≡ r w) → AreMet n q m → AreMet n r m
tells-same n q r None same is = λ w. sym (same w) ∙ is w
tells-same n q r (One a) same is = (is.0, λ w. sym (same w) ∙ is.1 w)
tells-same n q r (Two a b) same is = (is.0, is.1, is.2, λ w. sym (same w) ∙ is.3 w)
tells-same n q r More same is = omega (arith, is, count-same n q r (λ w l. same w))

-- a number of the set adds nothing
again : (q : ℕ → Bool) (v : ℕ) → q v ≡ true → (w : ℕ) → q w ≡ ((v == w) || q w)
again q v there w = elim (cases_Bool (v == w)) [
  | inl e ↦ rw e (ap q (sym (eqb-true v w e)) ∙ there)
  | inr e ↦ rw e refl
]

-- and leaves what is told
pub tells-again : (n : ℕ) (q : ℕ → Bool) (v : ℕ) (m : Met) → q v ≡ true → AreMet n q m → AreMet n (λ w. (v == w) || q w) m
tells-again n q v m there is = tells-same n q (λ w. (v == w) || q w) m (again q v there) is

-- a third number
pub tells_third : (n : ℕ) (q : ℕ → Bool) (v a b : ℕ) → v < n → a ≢ v → b ≢ v → AreMet n q (Two a b) → 3 ≤ count n (λ w. (v == w) || q w)
tells_third n q v a b l va vb is = count-three n (λ w. (v == w) || q w) v a b l is.0 is.1 (λ e. va (sym e)) (λ e. vb (sym e)) is.2
    (or_left (v == v) (q v) (eq-eqb v v refl))
    (or_right (v == a) (q a) (is.3 a ∙ or_left (a == a) (b == a) (eq-eqb a a refl)))
    (or_right (v == b) (q b) (is.3 b ∙ or_right (a == b) (b == b) (eq-eqb b b refl)))

-- a number more where there are three
pub tells_more : (n : ℕ) (q : ℕ → Bool) (v : ℕ) → 3 ≤ count n q → 3 ≤ count n (λ w. (v == w) || q w)
tells_more n q v is = omega (arith, is, count-mono n q (λ w. (v == w) || q w) (λ w l h. or_right (v == w) (q w) h))

-- a set that has just one number
pub tells_one : (n : ℕ) (q : ℕ → Bool) (a : ℕ) → AreMet n q (One a) → count n q ≡ 1
tells_one n q a is = count-one n q a is.0 (is.1 a ∙ eq-eqb a a refl) (λ v l h. sym (eqb-true a v (sym (is.1 v) ∙ h)))

-- a set that has just two
pub tells_two : (n : ℕ) (q : ℕ → Bool) (a b : ℕ) → AreMet n q (Two a b) → count n q ≡ 2
tells_two n q a b is =
    let parts : count n q ≡ count n (λ v. a == v) + count n (λ v. b == v) = count-add n q (λ v. a == v) (λ v. b == v)
    (λ v l. ap one_if (is.3 v) ∙ one_of_two (a == v) (b == v) (λ e. ne_eqb b v (λ f. is.2 (eqb-true a v e ∙ sym f)))) in
    let first : count n (λ v. a == v) ≡ 1 = tells_one n (λ v. a == v) a (is.0, λ w. refl) in
    let second : count n (λ v. b == v) ≡ 1 = tells_one n (λ v. b == v) b (is.1, λ w. refl) in
    omega (arith, parts, first, second)

-- no hop
pub new_none : (q : ℕ → Bool) (p : List ℕ) (w : ℕ) → q w ≡ (q w || is_new p [] w)
new_none q p w = grind arith

-- one hop more
pub new_more : (q : ℕ → Bool) (p : List ℕ) (hops : List Hop) (i : ℕ) (d : Hop) (w : ℕ) → i < length hops → has p (get_or hops i d).node ≡ false →
    (((get_or hops i d).node == w) || (q w || is_new p (take i hops) w)) ≡ (q w || is_new p (take (i + 1) hops) w)
new_more q p hops i d w l out = rw (list_any_more (λ (h : Hop). h.node == w) hops i d l) (elim (cases_Bool ((get_or hops i d).node == w)) [
  | inl e ↦
      let off : has p w ≡ false = ap (has p) (sym (eqb-true (get_or hops i d).node w e)) ∙ out in
      rw (e, off) (found (q w) (list_any (λ (h : Hop). h.node == w) (take i hops)))
  | inr e ↦ rw e (passed (q w) (not (has p w)) (list_any (λ (h : Hop). h.node == w) (take i hops)))
])
  where
    found : (a b : Bool) → true ≡ (a || (b || true))
    found a b = grind arith

    passed : (a b x : Bool) → (a || (b && x)) ≡ (a || (b && (x || false)))
    passed a b x = grind arith

-- one hop more, into the set
pub new_past : (q : ℕ → Bool) (p : List ℕ) (hops : List Hop) (i : ℕ) (d : Hop) (w : ℕ) → i < length hops → has p (get_or hops i d).node ≡ true →
    (q w || is_new p (take i hops) w) ≡ (q w || is_new p (take (i + 1) hops) w)
new_past q p hops i d w l into = rw (list_any_more (λ (h : Hop). h.node == w) hops i d l) (elim (cases_Bool ((get_or hops i d).node == w)) [
  | inl e ↦
      let there : has p w ≡ true = ap (has p) (sym (eqb-true (get_or hops i d).node w e)) ∙ into in
      rw (e, there) refl
  | inr e ↦ rw e (passed (q w) (not (has p w)) (list_any (λ (h : Hop). h.node == w) (take i hops)))
])
  where
    passed : (a b x : Bool) → (a || (b && x)) ≡ (a || (b && (x || false)))
    passed a b x = grind arith

-- w is outside p, and a link joins it to a node of the list
abbrev pub next_to : Network → List ℕ → List ℕ → ℕ → Bool
next_to g p vs w = not (has p w) && list_any (λ v. linked g v w) vs

-- one node of the list more, with its hops
pub next_more : (g : Network) (p vs : List ℕ) (i d v : ℕ) (hops : List Hop) (w : ℕ) → IsGraph g → AreHops g.links v hops → i < length vs → get_or vs i d ≡ v →
    (next_to g p (take i vs) w || is_new p hops w) ≡ next_to g p (take (i + 1) vs) w
next_more g p vs i d v hops w graph are l at =
    let ends : list_any (λ (h : Hop). h.node == w) hops ≡ linked g v w = touches-hops g (λ u. u == w) v hops graph are ∙ touches-single g v w graph in
    rw (list_any_more (λ u. linked g u w) vs i d l, at, ends) (apart (not (has p w)) (list_any (λ u. linked g u w) (take i vs)) (linked g v w))
  where
    apart : (a x y : Bool) → ((a && x) || (a && y)) ≡ (a && (x || y))
    apart a x y = grind arith

-- with all nodes of p these are its outside neighbours
pub next_all : (g : Network) (p : List ℕ) (w : ℕ) → All (λ v. v < g.nodes) p → next_to g p p w ≡ outside g (has p) w
next_all g p w below = ap (λ b. not (has p w) && b) (elim (cases_Bool (list_any (λ v. linked g v w) p)) [
  | inl e ↦
      let found = Any-from_list_any (λ v. linked g v w) p e in
      let node : found.1 < g.nodes = rw (sym found.3) (below found.0 found.1 found.2) in
      let there : has p found.1 ≡ true = rw (sym found.3) (has-at p found.0 found.1 found.2) in
      e ∙ sym (touches-from g (has p) w found.1 node there (linked_comm g found.1 w found.4))
  | inr e ↦ e ∙ sym (false_from_ne_true (touches g (has p) w) (λ h.
      let near = touches_gives g (has p) w h in
      let place = place_in p near.0 near.2 in
      let link : linked g (get_or p place.0 0) w ≡ true = rw place.2 (linked_comm g w near.0 near.3) in
      both_ways (list_any (λ v. linked g v w) p) e (list_any_at (λ v. linked g v w) p place.0 0 place.1 link)))
])
