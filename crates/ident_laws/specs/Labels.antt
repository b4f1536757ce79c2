-- Labels that gather homes to home pockets: each home in turn gets a new label, with all that has the label of a node of it.
use Rattle.std.specs.Prelude.{ℕ, ◌≡◌, ◌<◌, ◌≤◌, ◌⊎◌, Bool, false, ◌||◌, ◌==◌, IsTrue}
use Rattle.tomo_base.specs.Network.{Network}
use Rattle.tomo_base.specs.Pockets.{HoldsHomesItMeets, IsHomePocket}

-- the label is above 0, and some node of the set has it
abbrev pub IsMet : ℕ → (ℕ → ℕ) → (ℕ → Bool) → ℕ → Type 0
IsMet n label s l = (1 ≤ l) × (u : ℕ) × (u < n) × IsTrue (s u) × (label u ≡ l)

-- the new labels: c for the nodes of the set, and for those with a label that it meets
abbrev pub AreJoined : ℕ → (ℕ → ℕ) → (ℕ → Bool) → ℕ → (ℕ → ℕ) → Type 0
AreJoined n label s c next = (v : ℕ) → v < n → ((IsTrue (s v) ⊎ IsMet n label s (label v)) × (next v ≡ c)) ⊎ ((s v ≡ false) × (IsMet n label s (label v) → ⊥) × (next v ≡ label v))

-- each member of k has the label of all its home, from 1 to b; such a label is some member's, and who has it lies in every set that holds another with it and the homes that it meets
pub record AreLabels (g : Network) (home : ℕ → ℕ → Bool) (k : ℕ → Bool) (b : ℕ) (label : ℕ → ℕ) : Type 0 where
  pub at_most : (v : ℕ) → v < g.nodes → label v ≤ b
  pub placed : (x : ℕ) → x < g.nodes → IsTrue (k x) → (1 ≤ label x) × ((v : ℕ) → v < g.nodes → IsTrue (home x v) → label v ≡ label x)
  pub owned : (v : ℕ) → v < g.nodes → 1 ≤ label v → (x : ℕ) × (x < g.nodes) × IsTrue (k x) × (label x ≡ label v)
  pub together : (u v : ℕ) → u < g.nodes → v < g.nodes → 1 ≤ label u → label u ≡ label v → (p : ℕ → Bool) → HoldsHomesItMeets g home k p → IsTrue (p u) → IsTrue (p v)

-- they begin with 0 for each node
abbrev pub LabelsBegin : Type 0
LabelsBegin = (g : Network) (home : ℕ → ℕ → Bool) (k : ℕ → Bool) (label : ℕ → ℕ) → ((v : ℕ) → v < g.nodes → label v ≡ 0) → ((x : ℕ) → x < g.nodes → IsTrue (k x) → ⊥) →
    AreLabels g home k 0 label

-- one member more: its home gets a new label
abbrev pub LabelsGrow : Type 0
LabelsGrow = (g : Network) (home grown : ℕ → ℕ → Bool) (k more : ℕ → Bool) (b c x : ℕ) (label next : ℕ → ℕ) → AreLabels g home k b label → b < c → x < g.nodes →
    ((y : ℕ) → y < g.nodes → more y ≡ (k y || (x == y))) → ((y v : ℕ) → y < g.nodes → v < g.nodes → IsTrue (k y) → grown y v ≡ home y v) → IsTrue (grown x x) →
    AreJoined g.nodes label (grown x) c next → AreLabels g grown more c next

-- at the end the nodes with one label are a home pocket
abbrev pub LabelsEnd : Type 0
LabelsEnd = (g : Network) (home : ℕ → ℕ → Bool) (k : ℕ → Bool) (b v : ℕ) (label : ℕ → ℕ) (p : ℕ → Bool) → AreLabels g home k b label → v < g.nodes → 1 ≤ label v →
    ((u : ℕ) → u < g.nodes → p u ≡ (label u == label v)) → IsHomePocket g home k p

-- labels that grow by one home at a time: their beginning, their growth, and their end with one label for each home pocket
pub record HomePocketsByLabels : Type 0 where
  pub begin : LabelsBegin
  pub grow : LabelsGrow
  pub end : LabelsEnd
