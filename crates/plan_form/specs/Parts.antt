-- The parts of a plan, and which of them can be spelled.
use Rattle.std.specs.Prelude.{ℕ, ◌^◌, ◌<◌, ◌≤◌, List, length, ℤ, pos, negsuc, All, IsTrue}
use Rattle.tomo_base.specs.declared.graph.Link.{Link}
use Rattle.topology.specs.Names.{is_name}
use Rattle.simple_path.specs.declared.recipe.Term.{Term}

-- a pocket as it stands in a plan: its need, and its nodes
pub record PlanPocket : Type 0 where
  pub need : ℕ
  pub nodes : List ℕ

-- a plan, each part as the list that stands in the file
pub record PlanParts : Type 0 where
  pub names : List (List ℕ)
  pub links : List Link
  pub forced : List ℕ
  pub barred : List ℕ
  pub monitors : List ℕ
  pub pockets : List PlanPocket
  pub paths : List (List ℕ)
  pub recipes : List (List Term)

-- a number of 32 bits
abbrev pub IsSmall : ℕ → Type 0
IsSmall n = n < 2 ^ 32

-- one or more nodes
abbrev pub IsNodeList : List ℕ → Type 0
IsNodeList nodes = (0 < length nodes) × All IsSmall nodes

-- from -4 to 4, and not 0
abbrev pub IsCoefficient : ℤ → Type 0
IsCoefficient (pos n) = (0 < n) × (n ≤ 4)
IsCoefficient (negsuc n) = n < 4

-- such a coefficient, and a path number of 32 bits
abbrev pub IsTerm : Term → Type 0
IsTerm t = IsCoefficient t.coef × IsSmall t.path

-- 1 to 16 terms
abbrev pub IsTermList : List Term → Type 0
IsTermList terms = (0 < length terms) × (length terms ≤ 16) × All IsTerm terms

-- a name, as a topology's
abbrev pub IsName : List ℕ → Type 0
IsName name = IsTrue (is_name name)

-- a link between two numbers of 32 bits
abbrev pub IsSmallLink : Link → Type 0
IsSmallLink l = IsSmall l.a × IsSmall l.b

-- a pocket with a need of 32 bits, and one or more nodes
abbrev pub IsSmallPocket : PlanPocket → Type 0
IsSmallPocket k = IsSmall k.need × IsNodeList k.nodes

-- fewer than n items, each of which can be spelled
pub record IsListOf {A : Type 0} (Fits : A → Type 0) (n : ℕ) (xs : List A) : Type 0 where
  pub each : All Fits xs
  pub few : length xs < n

-- well formed: each part can be spelled
pub record IsWellFormed (p : PlanParts) : Type 0 where
  pub names : IsListOf IsName (2 ^ 32) p.names
  pub links : IsListOf IsSmallLink (2 ^ 32) p.links
  pub forced : All IsSmall p.forced
  pub barred : All IsSmall p.barred
  pub monitors : All IsSmall p.monitors
  pub pockets : IsListOf IsSmallPocket (2 ^ 32) p.pockets
  pub paths : IsListOf IsNodeList (2 ^ 31) p.paths
  pub recipes : IsListOf IsTermList (2 ^ 32) p.recipes
