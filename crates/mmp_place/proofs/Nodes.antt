-- Nodes of a graph: the ends of its links, the nodes that walks tie, and a cover of a set of at most two.
use Rattle.std.proofs.Common.{◌≡◌, ◌≢◌, ℕ, zero, suc, ◌<◌, ◌≤◌, Bool, true, IsTrue, refl, sym, ◌∙◌, arith, inl, inr, ◌⊎◌, List, [], ◌∷◌, lt-ltb}
use Rattle.std.proofs.lemmas.Bool.{both_ways, or_cases, false≢true}
use Rattle.tomo_base.specs.declared.graph.Link.{Link}
use Rattle.tomo_base.specs.Network.{Network, IsGraph, AreLinks, linked, any_joins, joins}
use Rattle.tomo_base.specs.Sets.{count, size, IsInside}
use Rattle.tomo_base.specs.Walks.{Reaches, everything, IsConnected}
use Rattle.tomo_base.proofs.Counts.{count_two, count-same, find}
use Rattle.tomo_base.proofs.Links.{linked_below, joins_gives}
use Rattle.tomo_base.specs.Parting.{AreJoinedIn, IsJoinedIn}
use Rattle.tomo_base.proofs.Reaching.{is_node, is_node_below, is_node-from, Reaches-joined}
use Rattle.tomo_base.proofs.Walks.{Reaches-inside}
use Rattle.mmp_place.specs.Rule.{every_node}

-- the ends of a link are nodes
pub ends_are : (g : Network) → IsGraph g → (u v : ℕ) → IsTrue (linked g u v) → IsTrue (is_node g u) × IsTrue (is_node g v)
ends_are g graph u v l = let b = linked_below g.nodes g.links u v graph l in (is_node-from g u b.0, is_node-from g v b.1)

-- no link joins a node to itself
pub differ : (g : Network) → IsGraph g → (u v : ℕ) → IsTrue (linked g u v) → u ≢ v
unfolding any_joins
differ g graph u v l same = none g.links graph l
  where
    ends : (k : Link) → k.a < k.b → ((k.a ≡ u) × (k.b ≡ v)) ⊎ ((k.a ≡ v) × (k.b ≡ u)) → ⊥
    ends k lt (inl e) = omega (arith, lt, e.0, e.1, same)
    ends k lt (inr e) = omega (arith, lt, e.0, e.1, same)

    none : (ls : List Link) → AreLinks g.nodes ls → any_joins ls u v ≡ true → ⊥
    none [] are h = absurd (false≢true h)
    none (k ∷ ks) are h = elim (or_cases (joins k u v) (any_joins ks u v) h) [ inl e ↦ ends k are.0 (joins_gives k u v e) | inr e ↦ none ks are.3 e ]

-- a walk ties its ends, whatever the test says of numbers that are no nodes
pub joined-from : (g : Network) (q w : ℕ → Bool) → IsGraph g → IsInside g q w → (a b : ℕ) → Reaches g q a b → AreJoinedIn g w a b
joined-from g q w graph sub a b walk = Reaches-joined g w a b (Reaches-inside g q w a b graph sub walk)

-- the members of a set of at most two are among two numbers, each of them a member or n
pub two_cover : (n : ℕ) (w : ℕ → Bool) → count n w ≤ 2
    → (a b : ℕ) × ((v : ℕ) → v < n → IsTrue (w v) → (v ≡ a) ⊎ (v ≡ b)) × (IsTrue (w a) ⊎ (a ≡ n)) × (IsTrue (w b) ⊎ (b ≡ n))
two_cover n w few =
    let r = count_two n w few in
    elim r.3 [
      | inl two ↦ (r.0, r.1, r.2, inl two.1, inl two.2)
      | inr same ↦ elim (find n w) [
        | inl m ↦
            let at : (v : ℕ) → v < n → IsTrue (w v) → v ≡ r.0 = λ v l h. elim (r.2 v l h) [ inl e ↦ e | inr e ↦ e ∙ sym same ] in
            (m.0, m.0, λ v l h. inl (at v l h ∙ sym (at m.0 m.1 m.2)), inl m.2, inl m.2)
        | inr none ↦ (n, n, λ v l h. absurd (both_ways (w v) (none v l) h), inr refl, inr refl)
      ]
    ]

-- in a connected graph no closed set parts two nodes
pub all_joined : (g : Network) → IsGraph g → IsConnected g → IsJoinedIn g (is_node g)
all_joined g graph connected a b ma mb = joined-from g everything (is_node g) graph (λ v l h. is_node-from g v l) a b (connected a b (is_node_below g a ma) (is_node_below g b mb) refl refl)

-- every node is counted
pub size_every_node : (g : Network) → size g (every_node g) ≡ g.nodes
unfolding count
size_every_node g = count-same g.nodes (every_node g) everything (λ v l. lt-ltb v g.nodes l) ∙ all g.nodes
  where
    all : (n : ℕ) → count n everything ≡ n
    all zero = refl
    all (suc k) = omega (arith, all k)
