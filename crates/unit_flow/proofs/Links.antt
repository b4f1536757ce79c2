-- The links of the graph of a task join two different nodes of it.
use Rattle.std.proofs.Common.{ℕ, ◌<◌, ◌≡◌, true, false, eqb, List, [], ◌∷◌, arith, inl, inr, ◌⊎◌}
use Rattle.std.proofs.lemmas.Bool.{false≢true, or_cases, ne_eqb}
use Rattle.tomo_base.specs.declared.graph.Link.{Link}
use Rattle.tomo_base.specs.Network.{Network, linked, any_joins, AreLinks, IsGraph}
use Rattle.tomo_base.proofs.Links.{joins_gives, linked_below}
use Rattle.unit_flow.specs.Flows.{Task, IsTask}

-- a link joins two different nodes
linked_differ : (n : ℕ) (ls : List Link) (a b : ℕ) → AreLinks n ls → any_joins ls a b ≡ true → eqb a b ≡ false
unfolding any_joins
linked_differ n [] a b w h = absurd (false≢true h)
linked_differ n (l ∷ ls) a b w h = elim (or_cases _ _ h) [ inl e ↦ ends (joins_gives l a b e) | inr e ↦ linked_differ n ls a b w.3 e ]
  where
    ends : ((l.a ≡ a) × (l.b ≡ b)) ⊎ ((l.a ≡ b) × (l.b ≡ a)) → eqb a b ≡ false
    ends (inl e) = ne_eqb a b (λ q. absurd (omega (arith, w.0, e.0, e.1, q)))
    ends (inr e) = ne_eqb a b (λ q. absurd (omega (arith, w.0, e.0, e.1, q)))

-- so in a graph
pub links_differ : (g : Network) → IsGraph g → (x y : ℕ) → linked g x y ≡ true → eqb x y ≡ false
links_differ g graph x y h = linked_differ g.nodes g.links x y graph h

module _ (t : Task) (ok : IsTask t) where
  -- links join nodes
  pub jb : (x y : ℕ) → linked t.graph x y ≡ true → (x < t.graph.nodes) × (y < t.graph.nodes)
  jb x y h = linked_below t.graph.nodes t.graph.links x y ok.graph h

  -- two different ones
  pub jne : (x y : ℕ) → linked t.graph x y ≡ true → eqb x y ≡ false
  jne = links_differ t.graph ok.graph
