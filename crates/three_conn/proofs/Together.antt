-- A single node that parts a set; and two nodes of which one was taken from the set before.
use Rattle.std.proofs.Common.{◌≡◌, ℕ, ◌<◌, Bool, false, Vec, IsTrue, sym, ◌∙◌, inl, inr, arith, subst}
use Rattle.std.specs.Global.{Global}
use Rattle.std.proofs.lemmas.Bool.{cases_eq}
use Rattle.tomo_base.specs.Network.{Network, IsGraph}
use Rattle.tomo_base.specs.Sets.{has, without}
use Rattle.tomo_base.specs.Walks.{IsConnectedIn}
use Rattle.tomo_base.specs.Parting.{without_two}
use Rattle.tomo_base.proofs.Walks.{Reaches-within, connected_inside}
use Rattle.tomo_base.proofs.Parting.{without-from, without-parts, without_two-from, without_two_gives, joined-at}
use Rattle.tomo_base.proofs.Reaching.{joined-connected}
use Rattle.gate_search.specs.Advancing.{IsGrown}
use Rattle.gate_search.proofs.Cutting.{Cut}
use Rattle.three_conn.specs.Parting.{IsParted, IsParting}
use Rattle.three_conn.specs.Held.{IsWholeBeside, IsWholeButAt, IsWholeWith}

-- what a node cuts off it parts from the rest
pub cut_parts : (g : Network) (w : ℕ → Bool) (side : Vec ℕ Global) (d : ℕ) → ((v : ℕ) → IsTrue (w v) → v < g.nodes) → Cut g w d (has side.items) → IsParting g w (record { side = side; first = d; second = d })
cut_parts g w side d below cut =
    let low : (v : ℕ) → IsTrue (without w d v) → v < g.nodes = λ v t. below v (without-parts w d v t).0 in
    let most = below d cut.at in
    let to : (v : ℕ) → IsTrue (without w d v) → IsTrue (without_two w d d v) = λ v t. let p = without-parts w d v t in without_two-from w d d v p.0 p.1 p.1 in
    record {
      parted = record {
        inside = λ v m. to v (cut.inner v m);
        shut = λ u v m link t. let p = without_two_gives w d d v t in cut.shut u v m link (without-from w d v p.0 p.1);
        some = (cut.here, low cut.here (cut.inner cut.here cut.here_in), cut.here_in);
        rest = (cut.there, low cut.there cut.there_in, to cut.there cut.there_in, cut.there_off);
      };
      first_most = omega (arith, most);
      second_most = omega (arith, most);
    }

-- where all nodes of a set are held, no single node but the root parts it
pub grown_whole : (g : Network) (w free : ℕ → Bool) (root : ℕ) → IsGraph g → IsGrown g w root w free → ((v : ℕ) → IsTrue (w v) → free v ≡ false) → IsWholeButAt g w root
grown_whole g w free root graph h held c other =
    let here : IsTrue (without w c root) = without-from w c root h.root_in (λ e. other (sym e)) in
    connected_inside g (without w c) (without_two w c c) graph
    (λ v l t. let p = without-parts w c v t in without_two-from w c c v p.0 p.1 p.1)
    (λ v l t. let p = without_two_gives w c c v t in without-from w c v p.0 p.1)
    (joined-connected g (without w c) graph (joined-at g (without w c) root here (λ v t. let p = without-parts w c v t in h.joined c v other p.1 p.0 (held v p.0))))

module _ (w rest : ℕ → Bool) (c : ℕ) (are : (v : ℕ) → rest v ≡ without_two w c c v) (d : ℕ) where
  -- a set without one node and then another is the set without the two
  to_both : (v : ℕ) → IsTrue (without_two rest d d v) → IsTrue (without_two w c d v)
  to_both v t =
      let p = without_two_gives rest d d v t in
      let q = without_two_gives w c c v (sym (are v) ∙ p.0) in
      without_two-from w c d v q.0 q.1 p.1

  -- and the other way round
  from_both : (v : ℕ) → IsTrue (without_two w c d v) → IsTrue (without_two rest d d v)
  from_both v t =
      let p = without_two_gives w c d v t in
      without_two-from rest d d v (are v ∙ without_two-from w c c v p.0 p.1 p.1) p.2 p.2

  -- what is connected without the second is connected without both
  pub connected_both : (g : Network) → IsGraph g → IsConnectedIn g (without_two rest d d) → IsConnectedIn g (without_two w c d)
  connected_both g graph connected = connected_inside g (without_two rest d d) (without_two w c d) graph (λ v l t. to_both v t) (λ v l t. from_both v t) connected

  -- what the second parts without the first the two part
  pub parted_both : (g : Network) (side : ℕ → Bool) → IsParted g rest side d d → IsParted g w side c d
  parted_both g side p = record {
    inside = λ v m. to_both v (p.inside v m);
    shut = λ u v m link t. p.shut u v m link (from_both v t);
    some = p.some;
    rest = (p.rest.0, p.rest.1, to_both p.rest.0 p.rest.2, p.rest.3);
  }

-- the same nodes stay without the two in the other order
turned : (w : ℕ → Bool) (c d v : ℕ) → IsTrue (without_two w c d v) → IsTrue (without_two w d c v)
turned w c d v t = let at = without_two_gives w c d v t in without_two-from w d c v at.0 at.2 at.1

-- and they are connected
connected_turned : (g : Network) (w : ℕ → Bool) (c d : ℕ) → IsConnectedIn g (without_two w c d) → IsConnectedIn g (without_two w d c)
connected_turned g w c d pair a b la lb ta tb = Reaches-within g (without_two w c d) (without_two w d c) a b (turned w c d) (pair a b la lb (turned w d c a ta) (turned w d c b tb))

-- no two nodes part a set that none part beside the root, and none with it
pub one_root : (g : Network) (w : ℕ → Bool) (r : ℕ) → IsGraph g → IsWholeBeside g w r → IsWholeWith g w r → (c d : ℕ) → IsConnectedIn g (without_two w c d)
one_root g w r graph beside with c d = elim (cases_eq c r) [
  | inl cr ↦ subst (λ z. IsConnectedIn g (without_two w z d)) (sym cr) (with d)
  | inr nc ↦ elim (cases_eq d r) [
    | inr nd ↦ beside c d nc nd
    | inl dr ↦ subst (λ z. IsConnectedIn g (without_two w c z)) (sym dr) (connected_turned g w r c (with c))
  ]
]
