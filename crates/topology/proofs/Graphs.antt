-- A list of links, lower end first and each once, is a graph, and stays one when a link is added.
use Rattle.std.proofs.Common.{◌≡◌, ◌≢◌, ℕ, ◌<◌, ◌≤◌, true, false, List, [], ◌∷◌, refl, ap₂, inl, inr, arith}
use Rattle.std.specs.List.{list_any}
use Rattle.std.proofs.lemmas.Bool.{cases_Bool, or_parts, or_from, le-ltb, lt-ltb}
use Rattle.std.proofs.lemmas.Bool.Decides.{nat_tests}
use Rattle.indexmap.specs.IndexSet.{insert_key}
use Rattle.tomo_base.specs.declared.graph.Link.{Link}
use Rattle.tomo_base.specs.Network.{joins, any_joins, AreLinks}
use Rattle.tomo_base.specs.Table.{in_order}
use Rattle.tomo_base.proofs.Entering.{in_order_ends}
use Rattle.tomo_base.proofs.Rows.{AreLinks-push}
use Rattle.topology.specs.Topology.{link_between, same_link}
use Rattle.topology.proofs.Distinct.{IsEquality, insert_new, insert_known}

-- two links are the same link where they have the same ends
pub same_link-Decides : IsEquality same_link
same_link-Decides l m = (λ h. ends l m (grind (arith, nat_tests)), λ e. rw e (itself m))
  where
    ends : (l m : Link) → (l.a ≡ m.a) × (l.b ≡ m.b) → l ≡ m
    ends l m e = ap₂ (λ (x y : ℕ). link_between (x, y)) e.0 e.1

    itself : (m : Link) → same_link m m ≡ true
    itself m = grind (arith, nat_tests)

-- a link that is new joins no two nodes that a link of the graph joins
pub joins_none : (n : ℕ) (ls : List Link) (l : Link) → AreLinks n ls → l.a < l.b → list_any (same_link l) ls ≡ false → any_joins ls l.a l.b ≡ false
unfolding any_joins joins
joins_none n [] l are lt new = refl
joins_none n (m ∷ ls) l are lt new =
    let parts = or_parts (same_link l m) (list_any (same_link l) ls) new in
    or_from _ _ (apart m l are.0 lt parts.0) (joins_none n ls l are.3 lt parts.1)
  where
    apart : (m l : Link) → m.a < m.b → l.a < l.b → same_link l m ≡ false → joins m l.a l.b ≡ false
    apart m l up lt other = grind (arith, nat_tests)

-- a graph stays one when a link between two different nodes is added
pub links_added : (n : ℕ) (ls : List Link) (l : Link) → AreLinks n ls → l.a < l.b → l.b < n → AreLinks n (insert_key same_link ls l)
links_added n ls l are lt within = elim (cases_Bool (list_any (same_link l) ls)) [
  | inl known ↦ rw (insert_known same_link ls l known) are
  | inr new ↦ rw (insert_new same_link ls l new) (AreLinks-push n ls l are lt within (joins_none n ls l are lt new))
]

-- the link between two different nodes, lower first
pub between_ordered : (n a b : ℕ) → a ≢ b → a < n → b < n → ((in_order (link_between (a, b))).a < (in_order (link_between (a, b))).b) × ((in_order (link_between (a, b))).b < n)
between_ordered n a b ne la lb = elim (in_order_ends (link_between (a, b))) [
  | inl e ↦ (omega (arith, e.0, e.1, e.2, ne), omega (arith, e.1))
  | inr e ↦ (omega (arith, e.0, e.1, e.2), omega (arith, e.1))
]

-- two ends are put in order by exchanging them where the second is lower
pub in_order_turned : (a b : ℕ) → b < a → link_between (b, a) ≡ in_order (link_between (a, b))
in_order_turned a b lt = rw (lt-ltb b a lt) refl

pub in_order_kept : (a b : ℕ) → a ≤ b → link_between (a, b) ≡ in_order (link_between (a, b))
in_order_kept a b le = rw (le-ltb b a le) refl
