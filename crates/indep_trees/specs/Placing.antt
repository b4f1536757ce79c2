-- Nodes put into one order ear by ear: between the two neighbours on their ear, and below a neighbour on a later ear.
use Rattle.std.specs.Prelude.{ℕ, suc, ◌≡◌, ◌⊎◌, ◌+◌, ◌-◌, ◌<◌, ◌≤◌, Bool, true, false, List, [], ◌∷◌, ◌++◌, take, drop, length}
use Rattle.tomo_base.specs.Network.{Network, linked}
use Rattle.tomo_base.specs.Search.{entry_at}
use Rattle.ear_order.specs.Turns.{between}

-- the first i nodes behind the first of the ear have what is given to each, and nodes that are not between its ends keep what they had
abbrev pub AreGiven : List ℕ → (ℕ → ℕ) → List ℕ → ℕ → List ℕ → Type 0
AreGiven ear gift old i now = (length now ≡ length old) × ((k : ℕ) → k < i → entry_at now (entry_at ear (suc k)) ≡ gift k) × ((v : ℕ) → between ear v ≡ false → entry_at now v ≡ entry_at old v)

-- s stands in l in this order
abbrev pub Sub : List ℕ → List ℕ → Type 0
Sub [] l = Unit {0}
Sub (a ∷ s) [] = ⊥
Sub (a ∷ s) (c ∷ l) = Sub (a ∷ s) l ⊎ ((a ≡ c) × Sub s l)

-- v is in the list
abbrev pub In : ℕ → List ℕ → Type 0
In v l = Sub (v ∷ []) l

-- no node is there twice
abbrev pub Distinct : List ℕ → Type 0
Distinct [] = Unit {0}
Distinct (a ∷ l) = (In a l → ⊥) × Distinct l

-- v stands between its two neighbours low and high, on ears that are not later, and a neighbour of v is on a later ear or on none so far
pub record Placed (g : Network) (D : ℕ → Bool) (order : List ℕ) (low high ear : ℕ → ℕ) (v : ℕ) : Type 0 where
  pub low_link : linked g v (low v) ≡ true
  pub high_link : linked g v (high v) ≡ true
  pub low_before : Sub (low v ∷ v ∷ []) order
  pub high_after : Sub (v ∷ high v ∷ []) order
  pub low_ear : ear (low v) ≤ ear v
  pub high_ear : ear (high v) ≤ ear v
  pub later : (w : ℕ) × (linked g v w ≡ true) × ((D w ≡ false) ⊎ ((D w ≡ true) × (ear v < ear w)))

-- the nodes D of the ears so far in order, with the neighbours and the ear of each; k ears were numbered from 0 on
pub record Numbered (g : Network) (r t u : ℕ) (D : ℕ → Bool) (order : List ℕ) (low high ear : ℕ → ℕ) (k : ℕ) : Type 0 where
  pub distinct : Distinct order
  pub has : (v : ℕ) → D v ≡ true → In v order
  pub only : (v : ℕ) → In v order → D v ≡ true
  pub ear_below : (v : ℕ) → D v ≡ true → ear v < k
  pub placed : (v : ℕ) → D v ≡ true → (v ≡ r → ⊥) → (v ≡ t → ⊥) → (v ≡ u → ⊥) → Placed g D order low high ear v

-- x stands before y in the list
abbrev pub StandsBefore : List ℕ → ℕ → ℕ → Type 0
StandsBefore order x y = (i : ℕ) × (j : ℕ) × (i < j) × (j < length order) × (entry_at order i ≡ x) × (entry_at order j ≡ y)

-- the order with the nodes between the ends of the ear put in after its first node
abbrev pub IsWidened : List ℕ → List ℕ → List ℕ → Type 0
IsWidened order ear wide = (i : ℕ) × (i < length order) × (entry_at order i ≡ entry_at ear 0) × (wide ≡ (take (i + 1) order ++ take (length ear - 2) (drop 1 ear)) ++ drop (i + 1) order)
