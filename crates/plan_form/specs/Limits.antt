-- How large a plan may be, and how long its text then is at most.
use Rattle.std.specs.Prelude.{ℕ, ◌<◌, ◌≤◌, List, length, All}
use Rattle.tomo_base.specs.Limits.{link_limit, node_limit}
use Rattle.tomo_base.specs.declared.graph.Link.{Link}
use Rattle.simple_path.specs.declared.recipe.Term.{Term}
use Rattle.plan_form.specs.Parts.{PlanPocket, PlanParts, IsCoefficient}

-- at most so many nodes as a topology may have, each below that number
abbrev pub AreFewNodes : List ℕ → Type 0
AreFewNodes nodes = (length nodes ≤ node_limit) × All (λ v. v < node_limit) nodes

-- both ends are below the most nodes of a topology
abbrev pub IsLowLink : Link → Type 0
IsLowLink l = (l.a < node_limit) × (l.b < node_limit)

-- a need below that number, and few nodes
abbrev pub IsLowPocket : PlanPocket → Type 0
IsLowPocket k = (k.need < node_limit) × AreFewNodes k.nodes

-- the most paths of a plan: one for each link of a topology
abbrev pub path_limit : ℕ
path_limit = link_limit

-- at most 16 terms, with coefficients from -4 to 4 and path numbers below the limit
abbrev pub AreFewTerms : List Term → Type 0
AreFewTerms terms = (length terms ≤ 16) × All (λ t. IsCoefficient t.coef × (t.path < path_limit)) terms

-- no part of the plan is larger than that of a largest topology
pub record IsWithinLimits (p : PlanParts) : Type 0 where
  pub few_names : length p.names ≤ node_limit
  pub names : All (λ name. length name ≤ 64) p.names
  pub few_links : length p.links ≤ link_limit
  pub links : All IsLowLink p.links
  pub forced : AreFewNodes p.forced
  pub barred : AreFewNodes p.barred
  pub monitors : AreFewNodes p.monitors
  pub few_pockets : length p.pockets ≤ node_limit
  pub pockets : All IsLowPocket p.pockets
  pub few_paths : length p.paths ≤ path_limit
  pub paths : All AreFewNodes p.paths
  pub few_recipes : length p.recipes ≤ link_limit
  pub recipes : All AreFewTerms p.recipes

-- the most bytes of the text of such a plan
abbrev pub text_limit : ℕ
text_limit = 134217728
