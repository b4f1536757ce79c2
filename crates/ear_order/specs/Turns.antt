-- The search for an ear, turn by turn: a candidate, the part of the third node that it leaves, and a better candidate.
use Rattle.std.specs.Prelude.{ℕ, ◌≡◌, ◌≢◌, ◌-◌, ◌<◌, ◌≤◌, ◌⊎◌, Bool, true, false, not, ◌&&◌, ◌==◌, leb, List, length, reverse, Option, IfSome, IfNone}
use Rattle.tomo_base.specs.Network.{Network, linked}
use Rattle.tomo_base.specs.Sets.{has, any_below, touches, outside, complement}
use Rattle.tomo_base.specs.Walks.{IsConnectedIn}
use Rattle.tomo_base.specs.Cuts.{IsThreeConnected}
use Rattle.tomo_base.specs.Search.{mark_of, entry_at}
use Rattle.ear_order.specs.Ears.{IsEar, IsLast, LeavesConnected}

-- v is at one of the places from .. to - 1
unfoldable pub run : (ℕ → ℕ) → ℕ → ℕ → ℕ → Bool
run p from to v = any_below to (λ i. leb from i && (p i == v))

-- v is at a place after the first and before the last
abbrev pub inner : (ℕ → ℕ) → ℕ → ℕ → Bool
inner p last = run p 1 last

-- v is between the ends of the ear
abbrev pub between : List ℕ → ℕ → Bool
between ear = inner (entry_at ear) (length ear - 1)

-- what one turn knows: R is what the old nodes D leave, mid the inner nodes of the candidate, C the part of u in R without them
pub record Round (g : Network) (D R mid C : ℕ → Bool) (u : ℕ) : Type 0 where
  pub rest_small : (v : ℕ) → R v ≡ true → v < g.nodes
  pub rest_off : (v : ℕ) → R v ≡ true → D v ≡ false
  pub rest_all : (v : ℕ) → v < g.nodes → D v ≡ false → R v ≡ true
  pub connected : IsConnectedIn g R
  pub mid_rest : (v : ℕ) → mid v ≡ true → R v ≡ true
  pub part_rest : (v : ℕ) → C v ≡ true → R v ≡ true
  pub part_off : (v : ℕ) → C v ≡ true → mid v ≡ false
  pub part_has : C u ≡ true
  pub part_closed : (v w : ℕ) → C v ≡ true → linked g v w ≡ true → R w ≡ true → mid w ≡ false → C w ≡ true
  pub part_connected : IsConnectedIn g C

-- the nodes left over that the part touches
abbrev pub border : Network → (ℕ → Bool) → (ℕ → Bool) → ℕ → Bool
border g R C v = R v && (not (C v) && touches g C v)

-- the part of x among the free nodes: connected, and no link leads out of it to another free node; its nodes stand in some order
pub record IsFreePart (g : Network) (free : ℕ → Bool) (x : ℕ) (order : List ℕ) (inside : ℕ → Bool) : Type 0 where
  pub holds : inside x ≡ true
  pub within : (v : ℕ) → inside v ≡ true → free v ≡ true
  pub closed : (v w : ℕ) → inside v ≡ true → linked g v w ≡ true → free w ≡ true → inside w ≡ true
  pub connected : IsConnectedIn g inside
  pub first : entry_at order 0 ≡ x
  pub listed : (v : ℕ) → inside v ≡ true → has order v ≡ true
  pub only : (k : ℕ) → k < length order → inside (entry_at order k) ≡ true
  pub different : (i j : ℕ) → i < j → j < length order → entry_at order i ≢ entry_at order j

-- two different nodes are in the set
abbrev pub HasTwo : (ℕ → Bool) → Type 0
HasTwo old = (d : ℕ) × (e : ℕ) × (old d ≡ true) × (old e ≡ true) × (d ≢ e)

-- what is known before each ear: the nodes that are left hold u and are connected
pub record IsLeft (g : Network) (old : List Bool) (u : ℕ) : Type 0 where
  pub size : length old ≡ g.nodes
  pub three : IsThreeConnected g
  pub two : HasTwo (mark_of old)
  pub connected : IsConnectedIn g (complement (mark_of old))
  pub node : u < g.nodes
  pub third : mark_of old u ≡ false

-- the marks of the nodes that are left
pub record AreLeft (old rest : List Bool) : Type 0 where
  pub size : length rest ≡ length old
  pub marks : (v : ℕ) → v < length old → mark_of rest v ≡ not (mark_of old v)

-- K is a further part of what is left, off the part C of u and its border
pub record IsTurn (g : Network) (old : ℕ → Bool) (ear : List ℕ) (K R C : ℕ → Bool) (u : ℕ) : Type 0 where
  pub round : Round g old R (between ear) C u
  pub rest : (v : ℕ) → K v ≡ true → R v ≡ true
  pub off_part : (v : ℕ) → K v ≡ true → C v ≡ false
  pub off_border : (v : ℕ) → K v ≡ true → border g R C v ≡ false
  pub closed : (v w : ℕ) → K v ≡ true → linked g v w ≡ true → R w ≡ true → C w ≡ false → border g R C w ≡ false → K w ≡ true
  pub some : (x : ℕ) × (K x ≡ true)
  pub connected : IsConnectedIn g K

-- a further part of what is left, in some turn
abbrev pub InSomeTurn : Network → (ℕ → Bool) → List ℕ → (ℕ → Bool) → Type 0
InSomeTurn g old ear K = (R : ℕ → Bool) × (C : ℕ → Bool) × (u : ℕ) × IsTurn g old ear K R C u

-- a three-connected graph, a mark for each of its nodes, of the old ones and of those of a part, and two old nodes or more
pub record IsSetting (g : Network) (old part : List Bool) : Type 0 where
  pub three : IsThreeConnected g
  pub marks : length part ≡ g.nodes
  pub size : length old ≡ g.nodes
  pub two : HasTwo (mark_of old)

-- a place of the ear, between its ends, whose node is an outside neighbour of K
abbrev pub IsSpot : Network → (ℕ → Bool) → List ℕ → ℕ → Type 0
IsSpot g K ear i = (1 ≤ i) × (i < length ear - 1) × (outside g K (entry_at ear i) ≡ true)

-- the first place of this kind, or none where there is none
abbrev pub IsFirstPlace : (ℕ → Type 0) → Option ℕ → Type 0
IsFirstPlace P place = IfSome place (λ i. P i × ((j : ℕ) → P j → i ≤ j)) × IfNone place ((j : ℕ) → P j → ⊥)

-- the last place of this kind, or none where there is none
abbrev pub IsLastPlace : (ℕ → Type 0) → Option ℕ → Type 0
IsLastPlace P place = IfSome place (λ i. P i × ((j : ℕ) → P j → j ≤ i)) × IfNone place ((j : ℕ) → P j → ⊥)

-- the list, or the list turned round
abbrev pub IsEither : List ℕ → List ℕ → Type 0
IsEither e old = (e ≡ old) ⊎ (e ≡ reverse old)

-- the zone is K with the places up to lo, and those from hi on
pub record Zone (K : ℕ → Bool) (p : ℕ → ℕ) (last lo hi : ℕ) (zone : ℕ → Bool) : Type 0 where
  pub part : (v : ℕ) → K v ≡ true → zone v ≡ true
  pub front : (i : ℕ) → 1 ≤ i → i ≤ lo → zone (p i) ≡ true
  pub back : (i : ℕ) → hi ≤ i → i < last → zone (p i) ≡ true
  pub only : (v : ℕ) → zone v ≡ true → (K v ≡ true) ⊎ ((i : ℕ) × (1 ≤ i) × (i < last) × ((i ≤ lo) ⊎ (hi ≤ i)) × (p i ≡ v))

-- a link joins w to a node of K
abbrev pub Touches : Network → (ℕ → Bool) → ℕ → Type 0
Touches g K w = (v : ℕ) × (K v ≡ true) × (linked g v w ≡ true)

-- another ear that leaves the part of u alone, and misses a node of its border
pub record IsBetter (g : Network) (old R C : ℕ → Bool) (ear : List ℕ) : Type 0 where
  pub is_ear : IsEar g old ear
  pub keeps : (v : ℕ) → C v ≡ true → between ear v ≡ false
  pub misses : (a : ℕ) × (border g R C a ≡ true) × (between ear a ≡ false)

-- the marks are those of before, without v and its neighbours
pub record IsClear (g : Network) (v : ℕ) (before after : ℕ → Bool) : Type 0 where
  pub kept : (w : ℕ) → after w ≡ true → (before w ≡ true) × (w ≢ v) × (linked g v w ≡ false)
  pub rest : (w : ℕ) → before w ≡ true → w ≢ v → linked g v w ≡ false → after w ≡ true

-- the marks are those of before, without the nodes of the part and their neighbours
pub record IsBeyond (g : Network) (before part after : ℕ → Bool) : Type 0 where
  pub kept : (w : ℕ) → after w ≡ true → (before w ≡ true) × ((v : ℕ) → part v ≡ true → (w ≢ v) × (linked g v w ≡ false))
  pub rest : (w : ℕ) → before w ≡ true → ((v : ℕ) → part v ≡ true → (w ≢ v) × (linked g v w ≡ false)) → after w ≡ true

-- after the ear the order goes on, or it is the last
abbrev pub ContinuesWith : Network → ℕ → (ℕ → Bool) → List ℕ → Type 0
ContinuesWith g u old ear = LeavesConnected g u old ear ⊎ IsLast g u old ear
