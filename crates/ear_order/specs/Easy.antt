-- Ears after which the order goes on, as is seen near them: each node that is left keeps a neighbour of lower rank.
use Rattle.std.specs.Prelude.{ℕ, ◌≡◌, ◌≢◌, ◌-◌, ◌<◌, ◌≤◌, suc, Bool, true, false, List, [], ◌∷◌, ◌++◌, length}
use Rattle.tomo_base.specs.Network.{Network, linked}
use Rattle.tomo_base.specs.Search.{mark_of, entry_at}
use Rattle.ear_order.specs.Ears.{Ears, IsEar, with_ear, in_ears, LeavesConnected}

-- each node that is left, other than u, has a neighbour of lower rank that is left
abbrev pub IsFounded : Network → (ℕ → Bool) → (ℕ → ℕ) → ℕ → Type 0
IsFounded g old rank u = (v : ℕ) → v < g.nodes → old v ≡ false → v ≢ u
    → (y : ℕ) × (linked g v y ≡ true) × (old y ≡ false) × (rank y < rank v)

-- a neighbour of x that is left has a rank below this one, and is not w
abbrev pub HasLower : Network → (ℕ → Bool) → (ℕ → ℕ) → ℕ → ℕ → ℕ → Type 0
HasLower g gone rank x below w = (y : ℕ) × (linked g x y ≡ true) × (gone y ≡ false) × (rank y < below) × (y ≢ w)

-- each neighbour of v that is left and has a higher rank has a neighbour of lower rank beside v
abbrev pub IsSpared : Network → (ℕ → Bool) → (ℕ → ℕ) → ℕ → Type 0
IsSpared g gone rank v = (x : ℕ) → linked g v x ≡ true → gone x ≡ false → rank v < rank x → HasLower g gone rank x (rank x) v

-- v is linked to what is left beside it, and is spared
abbrev pub CanGo : Network → (ℕ → Bool) → (ℕ → ℕ) → ℕ → Type 0
CanGo g gone rank v = HasLower g gone rank v g.nodes v × IsSpared g gone rank v

-- each node of the way but its first can go
abbrev pub AllCanGo : Network → (ℕ → Bool) → (ℕ → ℕ) → List ℕ → Type 0
AllCanGo g gone rank way = (k : ℕ) → 1 ≤ k → k < length way → CanGo g gone rank (entry_at way k)

-- an ear without its last node: from an old node over nodes that are left, none of them u; gone are the old nodes and those of the way
pub record IsOpenEar (g : Network) (old gone : ℕ → Bool) (u : ℕ) (way : List ℕ) : Type 0 where
  pub some : 2 ≤ length way
  pub begins : old (entry_at way 0) ≡ true
  pub steps : (k : ℕ) → suc k < length way → linked g (entry_at way k) (entry_at way (suc k)) ≡ true
  pub fresh : (k : ℕ) → 1 ≤ k → k < length way → (old (entry_at way k) ≡ false) × (entry_at way k ≢ u)
  pub different : (i j : ℕ) → i < j → j < length way → entry_at way i ≢ entry_at way j
  pub gone_are : (v : ℕ) → gone v ≡ with_ear old way v

-- the way can go on to w
pub record GoesOnTo (g : Network) (gone : ℕ → Bool) (u end w : ℕ) : Type 0 where
  pub link : linked g end w ≡ true
  pub is_left : gone w ≡ false
  pub other : w ≢ u

-- the way can end at the old node l
pub record EndsAt (g : Network) (old : ℕ → Bool) (way : List ℕ) (l : ℕ) : Type 0 where
  pub link : linked g (entry_at way (length way - 1)) l ≡ true
  pub is_old : old l ≡ true
  pub other : l ≢ entry_at way 0

-- an ear after which the order goes on, and each node that is left still has a neighbour of lower rank
pub record IsEasy (g : Network) (old : ℕ → Bool) (rank : ℕ → ℕ) (u : ℕ) (ear : List ℕ) : Type 0 where
  pub is_ear : IsEar g old ear
  pub goes_on : LeavesConnected g u old ear
  pub founded : IsFounded g (with_ear old ear) rank u

-- the marks of the nodes that stand in ears
abbrev pub AreMarks : Ears → List Bool → Type 0
AreMarks o marks = (length marks ≡ o.graph.nodes) × ((v : ℕ) → mark_of marks v ≡ in_ears o.list v)

-- the order with one ear more
abbrev pub with_one_ear : Ears → List ℕ → Ears
with_one_ear o e = record o { list = o.list ++ e ∷ [] }

-- the order with other ears, no fewer than before
abbrev pub IsLonger : Ears → Ears → Type 0
IsLonger before after = (after ≡ record before { list = after.list }) × (length before.list ≤ length after.list)
