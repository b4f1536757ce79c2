-- A test that is closed along links holds in all of a connected set, if it holds somewhere.
use Rattle.std.proofs.Common.{◌≡◌, ℕ, ◌<◌, Bool, true, false, refl, sym, ◌∙◌}
use Rattle.std.proofs.lemmas.Bool.{both_ways, and_parts, and_from}
use Rattle.tomo_base.specs.Network.{Network, linked, IsGraph}
use Rattle.tomo_base.specs.Sets.{touches, meet}
use Rattle.tomo_base.specs.Walks.{IsConnectedIn}
use Rattle.tomo_base.proofs.Links.{linked_comm, linked_below}
use Rattle.tomo_base.proofs.Touching.{touches-from, touches_gives}
use Rattle.tomo_base.proofs.Walks.{stays_in, connected_inside}

-- where links of a connected set lead from q into q, q spreads through it
pub spreads : (g : Network) (x q : ℕ → Bool) → IsConnectedIn g x → ((v w : ℕ) → x v ≡ true → q v ≡ true → linked g v w ≡ true → x w ≡ true → q w ≡ true) → (a b : ℕ) → a < g.nodes → b < g.nodes → x a ≡ true → x b ≡ true → q a ≡ true → q b ≡ true
spreads g x q connected closed a b la lb xa xb qa =
    (and_parts (x b) (q b) (stays_in g x (meet x q) a b (λ v w t l k. let p = and_parts (x v) (q v) t in and_from (x w) (q w) k (closed v w p.0 p.1 l k))
    (and_from (x a) (q a) xa qa) (connected a b la lb xa xb))).1

-- sets with the same nodes are connected alike
pub connected_same : (g : Network) → IsGraph g → (p q : ℕ → Bool) → ((v : ℕ) → v < g.nodes → p v ≡ q v) → IsConnectedIn g p → IsConnectedIn g q
connected_same g graph p q same = connected_inside g p q graph (λ v l t. sym (same v l) ∙ t) (λ v l t. same v l ∙ t)

-- a node that is linked to a node of the set touches it
pub touch_from : (g : Network) → IsGraph g → (x : ℕ → Bool) (v w : ℕ) → x v ≡ true → linked g v w ≡ true → touches g x w ≡ true
touch_from g graph x v w xv l = touches-from g x w v (linked_below g.nodes g.links v w graph l).0 xv (linked_comm g v w l)

-- a node that touches the set is linked to a node of it
pub touch_gives : (g : Network) (x : ℕ → Bool) (w : ℕ) → touches g x w ≡ true → (v : ℕ) × (x v ≡ true) × (linked g v w ≡ true)
touch_gives g x w h = let r = touches_gives g x w h in (r.0, r.2, linked_comm g w r.0 r.3)

-- of two sets of which one is false where the other is true, no node is in both
pub off : (p q : Bool) → (p ≡ true → q ≡ false) → q ≡ true → p ≡ false
off true q h e = absurd (both_ways q (h refl) e)
off false q h e = refl
