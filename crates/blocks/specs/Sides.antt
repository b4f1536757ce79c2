-- A set of nodes that one of its nodes cuts into two sides.
use Rattle.std.specs.Prelude.{ℕ, ◌≡◌, ◌≢◌, ◌⊎◌, false, List, IsTrue}
use Rattle.tomo_base.specs.Network.{Network, linked}
use Rattle.tomo_base.specs.Sets.{has}
use Rattle.tomo_base.specs.SetLists.{IsSetBelow}

-- the node w of the set cuts it into two sides: w alone stands in both, each has a node more, and no other node of the one is linked to one of the other
pub record AreSides (g : Network) (nodes : List ℕ) (w : ℕ) (near far : List ℕ) : Type 0 where
  pub cut_in : IsTrue (has nodes w)
  pub near_set : IsSetBelow g.nodes near
  pub far_set : IsSetBelow g.nodes far
  pub near_in : (v : ℕ) → IsTrue (has near v) → IsTrue (has nodes v)
  pub far_in : (v : ℕ) → IsTrue (has far v) → IsTrue (has nodes v)
  pub cover : (v : ℕ) → IsTrue (has nodes v) → IsTrue (has near v) ⊎ IsTrue (has far v)
  pub near_cut : IsTrue (has near w)
  pub far_cut : IsTrue (has far w)
  pub shared : (v : ℕ) → IsTrue (has near v) → IsTrue (has far v) → v ≡ w
  pub parted : (u v : ℕ) → IsTrue (has near u) → u ≢ w → IsTrue (has far v) → v ≢ w → linked g u v ≡ false
  pub near_more : (v : ℕ) × IsTrue (has near v) × (v ≢ w)
  pub far_more : (v : ℕ) × IsTrue (has far v) × (v ≢ w)
