-- Ears of a graph, and orders of ears in which what is left stays connected (Cheriyan and Maheshwari, 1988).
use Rattle.std.specs.Prelude.{ℕ, ◌≡◌, ◌-◌, ◌<◌, ◌≤◌, ◌⊎◌, Bool, false, ◌||◌, List, [], ◌∷◌, ◌++◌, length, IsTrue}
use Rattle.std.specs.List.{AllWithin}
use Rattle.tomo_base.specs.Limits.{graph_node_limit}
use Rattle.tomo_base.specs.Network.{Network, linked, IsGraph}
use Rattle.tomo_base.specs.Sets.{has, union, complement, touches}
use Rattle.tomo_base.specs.Walks.{IsWalk, EndsIn, NoneTwice, IsConnectedIn}
use Rattle.tomo_base.specs.Cuts.{IsThreeConnected}
use Rattle.tomo_base.specs.Search.{entry_at}

-- an ear for a set of nodes: a path of at least three nodes with both ends in the set, and none of the nodes between them
pub record IsEar (g : Network) (old : ℕ → Bool) (ear : List ℕ) : Type 0 where
  pub three : 3 ≤ length ear
  pub different : NoneTwice ear
  pub linked : IsWalk g ear
  pub ends : EndsIn old ear
  pub fresh : AllWithin (λ v. old v ≡ false) ear 1 (length ear - 1)

-- the set with the nodes of an ear
abbrev pub with_ear : (ℕ → Bool) → List ℕ → ℕ → Bool
with_ear old ear = union old (has ear)

-- the nodes that are in no ear so far hold u and are connected, and each node between the ends of the ear has a neighbour among them
pub record LeavesConnected (g : Network) (u : ℕ) (old : ℕ → Bool) (ear : List ℕ) : Type 0 where
  pub third : with_ear old ear u ≡ false
  pub connected : IsConnectedIn g (complement (with_ear old ear))
  pub touched : AllWithin (λ v. IsTrue (touches g (complement (with_ear old ear)) v)) ear 1 (length ear - 1)

-- each node is in an ear, and the ear has u alone between its ends
pub record IsLast (g : Network) (u : ℕ) (old : ℕ → Bool) (ear : List ℕ) : Type 0 where
  pub all : (v : ℕ) → v < g.nodes → IsTrue (with_ear old ear v)
  pub three : length ear ≡ 3
  pub between : entry_at ear 1 ≡ u

-- each is an ear for the set and the ears before it, and after it the order goes on; or it is the last of all
unfoldable pub AreEarsAfter : Network → ℕ → (ℕ → Bool) → List (List ℕ) → Type 0
AreEarsAfter g u old [] = Unit {0}
AreEarsAfter g u old (e ∷ es) = IsEar g old e × ((LeavesConnected g u old e × AreEarsAfter g u (with_ear old e) es) ⊎ ((es ≡ []) × IsLast g u old e))

-- the two ends of the first ear
abbrev pub ends_of : ℕ → ℕ → ℕ → Bool
ends_of r t = has (r ∷ t ∷ [])

-- the first ear leads from r to t, the order goes on after it, and the other ears follow
pub record BeginsWith (g : Network) (r t u : ℕ) (e : List ℕ) (es : List (List ℕ)) : Type 0 where
  pub begins : entry_at e 0 ≡ r
  pub ends : entry_at e (length e - 1) ≡ t
  pub ear : IsEar g (ends_of r t) e
  pub goes_on : LeavesConnected g u (ends_of r t) e
  pub later : AreEarsAfter g u (with_ear (ends_of r t) e) es

-- an ear order so far, for the link between r and t and the third node u
abbrev pub IsEarOrder : Network → ℕ → ℕ → ℕ → List (List ℕ) → Type 0
IsEarOrder g r t u [] = ⊥
IsEarOrder g r t u (e ∷ es) = BeginsWith g r t u e es

-- the nodes that stand in some ear
unfoldable pub in_ears : List (List ℕ) → ℕ → Bool
in_ears [] v = false
in_ears (e ∷ es) v = has e v || in_ears es v

-- each node stands in some ear
abbrev pub IsWhole : Network → List (List ℕ) → Type 0
IsWhole g ears = (v : ℕ) → v < g.nodes → IsTrue (in_ears ears v)

-- r and t are linked, and u is a third node
pub record AreEnds (g : Network) (r t u : ℕ) : Type 0 where
  pub link : IsTrue (linked g r t)
  pub node : u < g.nodes
  pub not_first : (u ≡ r) → ⊥
  pub not_last : (u ≡ t) → ⊥

-- a graph, the two ends of the first ear, the node between the ends of the last one, and the ears
pub record Ears : Type 0 where
  pub graph : Network
  pub r : ℕ
  pub t : ℕ
  pub u : ℕ
  pub list : List (List ℕ)

-- the graph stays connected without any two nodes, and the ears are an ear order of it so far
pub record IsOrder (o : Ears) : Type 0 where
  pub graph : IsGraph o.graph
  pub few : o.graph.nodes ≤ graph_node_limit
  pub three : IsThreeConnected o.graph
  pub ends : AreEnds o.graph o.r o.t o.u
  pub order : IsEarOrder o.graph o.r o.t o.u o.list

-- an order with its first ear
abbrev pub IsBegun : Network → ℕ → ℕ → ℕ → Ears → Type 0
IsBegun g r t u o = (e : List ℕ) × (o ≡ record { graph = g; r = r; t = t; u = u; list = e ∷ [] })

-- one ear more
abbrev pub AddsEar : Ears → Ears → Type 0
AddsEar before after = (e : List ℕ) × (after ≡ record before { list = before.list ++ e ∷ [] })

-- an ear order of all nodes
pub record IsWholeOrder (g : Network) (r t u : ℕ) (o : Ears) : Type 0 where
  pub graph : o.graph ≡ g
  pub r_is : o.r ≡ r
  pub t_is : o.t ≡ t
  pub u_is : o.u ≡ u
  pub order : IsOrder o
  pub whole : IsWhole g o.list
