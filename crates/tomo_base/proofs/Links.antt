-- Which nodes a link joins, in a link and in a list of links.
use Rattle.std.proofs.Common.{◌≡◌, ℕ, ◌<◌, ◌⊎◌, true, ◌||◌, List, [], ◌∷◌, IsTrue, refl, ap₂, zero, suc, slice_get, Some, ◌∙◌, inl, inr, arith}
use Rattle.std.proofs.lemmas.Bool.{or_cases, false≢true}
use Rattle.std.proofs.lemmas.Bool.Decides.{nat_tests}
use Rattle.tomo_base.specs.declared.graph.Link.{Link}
use Rattle.tomo_base.specs.Network.{Network, joins, any_joins, linked, AreLinks}

-- the ends of a link may be exchanged
pub joins_comm : (l : Link) (a b : ℕ) → joins l a b ≡ joins l b a
unfolding joins
joins_comm l a b = grind arith

-- so in a list of links
pub any_joins_comm : (ls : List Link) (a b : ℕ) → any_joins ls a b ≡ any_joins ls b a
unfolding any_joins
any_joins_comm [] a b = refl
any_joins_comm (l ∷ ls) a b = ap₂ ◌||◌ (joins_comm l a b) (any_joins_comm ls a b)

-- so in a graph
pub linked_comm : (g : Network) (a b : ℕ) → IsTrue (linked g a b) → IsTrue (linked g b a)
linked_comm g a b h = any_joins_comm g.links b a ∙ h

-- what a link joins are its ends
pub joins_gives : (l : Link) (a b : ℕ) → joins l a b ≡ true → ((l.a ≡ a) × (l.b ≡ b)) ⊎ ((l.a ≡ b) × (l.b ≡ a))
unfolding joins
joins_gives l a b h = grind (arith, nat_tests)

-- the ends of a link are nodes
pub linked_below : (n : ℕ) (ls : List Link) (a b : ℕ) → AreLinks n ls → any_joins ls a b ≡ true → (a < n) × (b < n)
unfolding any_joins
linked_below n [] a b w h = absurd (false≢true h)
linked_below n (l ∷ ls) a b w h = elim (or_cases _ _ h) [ inl e ↦ ends (joins_gives l a b e) | inr e ↦ linked_below n ls a b w.3 e ]
  where
    ends : ((l.a ≡ a) × (l.b ≡ b)) ⊎ ((l.a ≡ b) × (l.b ≡ a)) → (a < n) × (b < n)
    ends (inl e) = omega (arith, w.0, w.1, e.0, e.1)
    ends (inr e) = omega (arith, w.0, w.1, e.0, e.1)

-- each link joins a lower to a higher node
pub link_at : (n : ℕ) (ls : List Link) (i : ℕ) (l : Link) → AreLinks n ls → slice_get ls i ≡ Some l → (l.a < l.b) × (l.b < n)
link_at n [] i l are at = cc
link_at n (m ∷ ls) zero l are at = rw (← some at) (are.0, are.1)
  where
    some : {x y : Link} → Some x ≡ Some y → x ≡ y
    some e = cc
link_at n (m ∷ ls) (suc i) l are at = link_at n ls i l are.3 at
