-- The links of the extended graph: those of the graph, and those that join a monitor and a further node.
use Rattle.std.proofs.Common.{◌≡◌, ℕ, ◌+◌, ◌*◌, ◌<◌, ◌≤◌, ◌⊎◌, true, false, ◌||◌, ◌==◌, List, [], ◌∷◌, ◌++◌, length, take, get_or, All, IsTrue, refl, sym, ap, ap₂, append_assoc, subst, ◌∙◌, inl, inr, arith}
use Rattle.std.specs.List.Sorted.{IsStrictlyIncreasing}
use Rattle.std.proofs.lemmas.Bool.{both_ways, or_cases, or_left, or_right, or_from, eqb-true, eq-eqb, false_from_ne_true}
use Rattle.std.proofs.lemmas.Bool.Decides.{nat_tests}
use Rattle.std.proofs.lemmas.List.Elements.{All-tail}
use Rattle.std.proofs.lemmas.List.{take_more, take_all}
use Rattle.tomo_base.specs.declared.graph.Link.{Link}
use Rattle.tomo_base.specs.Network.{Network, joins, any_joins, linked, AreLinks, IsGraph}
use Rattle.tomo_base.specs.Sets.{has}
use Rattle.tomo_base.specs.Cuts.{hub_links, extended}
use Rattle.tomo_base.proofs.Links.{linked_below, joins_gives}
use Rattle.tomo_base.proofs.Members.{first_once, increasing-tail}
use Rattle.tomo_base.proofs.Ascending.{All-has}

-- one of two lists of links joins two nodes
pub any_joins-append : (ls ks : List Link) (a b : ℕ) → any_joins (ls ++ ks) a b ≡ (any_joins ls a b || any_joins ks a b)
unfolding any_joins
any_joins-append [] ks a b = refl
any_joins-append (l ∷ ls) ks a b = let rest = any_joins-append ls ks a b in grind (arith, rest)

-- a further node
abbrev pub IsFurther : ℕ → ℕ → Type 0
IsFurther n v = (v ≡ n) ⊎ (v ≡ n + 1)

-- a monitor and a further node
abbrev pub AreHubEnds : ℕ → List ℕ → ℕ → ℕ → Type 0
AreHubEnds n m u v = IsTrue (has m u) × IsFurther n v

-- what the new links join
pub hub_gives : (n : ℕ) (m : List ℕ) (u v : ℕ) → any_joins (hub_links n m) u v ≡ true → AreHubEnds n m u v ⊎ AreHubEnds n m v u
unfolding any_joins has
hub_gives n [] u v h = absurd (both_ways false refl h)
hub_gives n (x ∷ m) u v h = elim (or_cases (joins (record { a = x; b = n }) u v) (joins (record { a = x; b = n + 1 }) u v || any_joins (hub_links n m) u v) h) [
  | inl e ↦ ends n (inl refl) (joins_gives (record { a = x; b = n }) u v e)
  | inr k ↦ elim (or_cases (joins (record { a = x; b = n + 1 }) u v) (any_joins (hub_links n m) u v) k) [
    | inl e ↦ ends (n + 1) (inr refl) (joins_gives (record { a = x; b = n + 1 }) u v e)
    | inr e ↦ elim (hub_gives n m u v e) [
      | inl o ↦ inl (or_right (x == u) (has m u) o.0, o.1)
      | inr o ↦ inr (or_right (x == v) (has m v) o.0, o.1)
    ]
  ]
]
  where
    ends : (f : ℕ) → IsFurther n f → ((x ≡ u) × (f ≡ v)) ⊎ ((x ≡ v) × (f ≡ u)) → AreHubEnds n (x ∷ m) u v ⊎ AreHubEnds n (x ∷ m) v u
    ends f far (inl e) = inl (or_left (x == u) (has m u) (eq-eqb x u e.0), subst (IsFurther n) e.1 far)
    ends f far (inr e) = inr (or_left (x == v) (has m v) (eq-eqb x v e.0), subst (IsFurther n) e.1 far)

-- a link joins its ends
joined : (y a : ℕ) → joins (record { a = a; b = y }) a y ≡ true
unfolding joins
joined y a = grind (arith, nat_tests)

-- a monitor is joined to both further nodes
pub hub_from : (n : ℕ) (m : List ℕ) (v f : ℕ) → IsTrue (has m v) → IsFurther n f → any_joins (hub_links n m) v f ≡ true
unfolding any_joins has
hub_from n [] v f h far = absurd (both_ways false refl h)
hub_from n (x ∷ m) v f h far = elim (or_cases (x == v) (has m v) h) [
  | inl e ↦ here (eqb-true x v e) far
  | inr e ↦ or_right (joins (record { a = x; b = n }) v f) _ (or_right (joins (record { a = x; b = n + 1 }) v f) (any_joins (hub_links n m) v f) (hub_from n m v f e far))
]
  where
    here : x ≡ v → IsFurther n f → (joins (record { a = x; b = n }) v f || (joins (record { a = x; b = n + 1 }) v f || any_joins (hub_links n m) v f)) ≡ true
    here e (inl s) = or_left (joins (record { a = x; b = n }) v f) _ (rw (e, s) (joined n v))
    here e (inr s) = or_right (joins (record { a = x; b = n }) v f) _ (or_left (joins (record { a = x; b = n + 1 }) v f) _ (rw (e, s) (joined (n + 1) v)))

-- ---- in the extended graph

-- a link of the graph is one of the extended graph
pub old_linked : (g : Network) (m : List ℕ) (u v : ℕ) → IsTrue (linked g u v) → IsTrue (linked (extended g m) u v)
old_linked g m u v h = any_joins-append g.links (hub_links g.nodes m) u v ∙ or_left (any_joins g.links u v) (any_joins (hub_links g.nodes m) u v) h

-- a monitor is linked to both further nodes
pub hub_linked : (g : Network) (m : List ℕ) (v f : ℕ) → IsTrue (has m v) → IsFurther g.nodes f → IsTrue (linked (extended g m) v f)
hub_linked g m v f h far = any_joins-append g.links (hub_links g.nodes m) v f ∙ or_right (any_joins g.links v f) (any_joins (hub_links g.nodes m) v f) (hub_from g.nodes m v f h far)

-- and there are no other links
pub linked_cases : (g : Network) (m : List ℕ) (u v : ℕ) → IsTrue (linked (extended g m) u v) → IsTrue (linked g u v) ⊎ (AreHubEnds g.nodes m u v ⊎ AreHubEnds g.nodes m v u)
linked_cases g m u v h = elim (or_cases (any_joins g.links u v) (any_joins (hub_links g.nodes m) u v) (sym (any_joins-append g.links (hub_links g.nodes m) u v) ∙ h)) [
  | inl old ↦ inl old
  | inr new ↦ inr (hub_gives g.nodes m u v new)
]

-- they join nodes of it
pub extended_below : (g : Network) (m : List ℕ) → IsGraph g → All (λ v. v < g.nodes) m → (u v : ℕ) → IsTrue (linked (extended g m) u v) → (u < g.nodes + 2) × (v < g.nodes + 2)
extended_below g m graph below u v h =
    let hub : (x y : ℕ) → AreHubEnds g.nodes m x y → (x < g.nodes + 2) × (y < g.nodes + 2) = λ x y k.
    let low : x < g.nodes = All-has (λ z. z < g.nodes) m below x k.0 in
    (omega (arith, low), elim k.1 [ inl s ↦ omega (arith, s) | inr s ↦ omega (arith, s) ]) in
    elim (linked_cases g m u v h) [
      | inl old ↦ let ends = linked_below g.nodes g.links u v graph old in (omega (arith, ends.0), omega (arith, ends.1))
      | inr new ↦ elim new [ inl k ↦ hub u v k | inr k ↦ let r = hub v u k in (r.1, r.0) ]
    ]

-- ---- it is a graph

-- a link to the one does not join the other
other_hub : (n x : ℕ) → x < n → joins (record { a = x; b = n + 1 }) x n ≡ false
unfolding joins
other_hub n x low = grind (arith, nat_tests)

-- the new links are those of a graph
hub_links-are : (n : ℕ) (m : List ℕ) → IsStrictlyIncreasing m → All (λ v. v < n) m → AreLinks (n + 2) (hub_links n m)
unfolding any_joins
hub_links-are n [] up below = tt
hub_links-are n (x ∷ m) up below =
    let low : x < n = below 0 x (omega arith) in
    let fresh : (f : ℕ) → IsFurther n f → any_joins (hub_links n m) x f ≡ false = λ f far. false_from_ne_true (any_joins (hub_links n m) x f) (λ h. elim (hub_gives n m x f h) [
      | inl k ↦ both_ways (has m x) (first_once x m up) k.0
      | inr k ↦ elim k.1 [ inl s ↦ omega (arith, s, low) | inr s ↦ omega (arith, s, low) ]
    ]) in (
      omega (arith, low),
      omega arith,
      or_from (joins (record { a = x; b = n + 1 }) x n) (any_joins (hub_links n m) x n) (other_hub n x low) (fresh n (inl refl)),
      (omega (arith, low), omega arith, fresh (n + 1) (inr refl), hub_links-are n m (increasing-tail x m up) (All-tail (λ v. v < n) x m below)),
    )

-- two lists of links that join no nodes in common
AreLinks-append : (n k : ℕ) (ls ks : List Link) → AreLinks n ls → n ≤ k → AreLinks k ks → ((a b : ℕ) → a < n → b < n → any_joins ks a b ≡ false) → AreLinks k (ls ++ ks)
AreLinks-append n k [] ks are le more apart = more
AreLinks-append n k (l ∷ ls) ks are le more apart = (
  are.0,
  omega (arith, are.1, le),
  any_joins-append ls ks l.a l.b ∙ or_from (any_joins ls l.a l.b) (any_joins ks l.a l.b) are.2 (apart l.a l.b (omega (arith, are.0, are.1)) are.1),
  AreLinks-append n k ls ks are.3 le more apart,
)

-- all links together are those of a graph
pub extended_links : (g : Network) (m : List ℕ) → IsGraph g → IsStrictlyIncreasing m → All (λ v. v < g.nodes) m → AreLinks (g.nodes + 2) (g.links ++ hub_links g.nodes m)
extended_links g m graph up below = AreLinks-append g.nodes (g.nodes + 2) g.links (hub_links g.nodes m) graph (omega arith) (hub_links-are g.nodes m up below)
    (λ a b la lb. false_from_ne_true (any_joins (hub_links g.nodes m) a b) (λ h. elim (hub_gives g.nodes m a b h) [
      | inl k ↦ elim k.1 [ inl s ↦ omega (arith, s, lb) | inr s ↦ omega (arith, s, lb) ]
      | inr k ↦ elim k.1 [ inl s ↦ omega (arith, s, la) | inr s ↦ omega (arith, s, la) ]
    ]))

-- two new links for each monitor
pub length-hub_links : (n : ℕ) (m : List ℕ) → length (hub_links n m) ≡ 2 * length m
length-hub_links n [] = refl
length-hub_links n (x ∷ m) = omega (arith, length-hub_links n m)

-- one monitor more
pub hub_links-push : (n : ℕ) (m : List ℕ) (v : ℕ) → hub_links n (m ++ v ∷ []) ≡ (hub_links n m ++ record { a = v; b = n } ∷ []) ++ record { a = v; b = n + 1 } ∷ []
hub_links-push n [] v = refl
hub_links-push n (x ∷ m) v = ap (λ (ls : List Link). record { a = x; b = n } ∷ record { a = x; b = n + 1 } ∷ ls) (hub_links-push n m v)

-- so in a loop over the monitors
pub hub_more : (g : Network) (links : List Link) (m : List ℕ) (i n v : ℕ) → i < length m → v ≡ get_or m i 0 → n ≡ g.nodes → links ≡ g.links ++ hub_links g.nodes (take i m)
    → (links ++ record { a = v; b = n } ∷ []) ++ record { a = v; b = n + 1 } ∷ [] ≡ g.links ++ hub_links g.nodes (take (i + 1) m)
hub_more g links m i n v l here nodes before =
    let first : Link = record { a = v; b = n } in
    let second : Link = record { a = v; b = n + 1 } in
    let hub = hub_links n (take i m) in
    ap (λ ls. (ls ++ first ∷ []) ++ second ∷ []) (before ∙ ap (λ k. g.links ++ hub_links k (take i m)) (sym nodes))
    ∙ (ap (λ ls. ls ++ second ∷ []) (append_assoc g.links hub (first ∷ []))
    ∙ (append_assoc g.links (hub ++ first ∷ []) (second ∷ [])
    ∙ ap (λ ls. g.links ++ ls) (sym (hub_links-push n (take i m) v) ∙ ap₂ hub_links nodes (ap (λ x. take i m ++ x ∷ []) here ∙ sym (take_more m i 0 l)))))

-- and at its end
pub all_added : (g : Network) (m : List ℕ) (given links : List Link) (xs : List ℕ) (i : ℕ) → given ≡ links → links ≡ g.links ++ hub_links g.nodes (take i xs) → length xs ≤ i → xs ≡ m → given ≡ g.links ++ hub_links g.nodes m
all_added g m given links xs i same are all is = same ∙ (are ∙ ap (λ ys. g.links ++ hub_links g.nodes ys) (take_all i xs all ∙ is))
