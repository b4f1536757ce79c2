-- How a pool keeps its paths: the nodes of all paths in one region, and where each path stands there.
use Rattle.std.specs.Prelude.{ℕ, ◌≡◌, ◌^◌, ◌<◌, ◌≤◌, List, [], ◌∷◌, map, length}
use Rattle.std.specs.List.{slice_range}
use Rattle.simple_path.specs.declared.span.Span.{Span}

-- the nodes at these places
abbrev pub path_in : List ℕ → Span → List ℕ
path_in nodes s = slice_range nodes s.start s.end

-- all paths
abbrev pub paths_in : List ℕ → List Span → List (List ℕ)
paths_in nodes spans = map (path_in nodes) spans

-- each path begins where the one before it ends, the first at this place
abbrev pub AreInRow : ℕ → List Span → Type 0
AreInRow place [] = Unit {0}
AreInRow place (s ∷ spans) = (s.start ≡ place) × (place ≤ s.end) × AreInRow s.end spans

-- where the last of them ends
unfoldable pub end_from : ℕ → List Span → ℕ
end_from place [] = place
end_from place (s ∷ spans) = end_from s.end spans

-- the paths fill the region
pub record IsRegion (nodes : List ℕ) (spans : List Span) : Type 0 where
  pub in_row : AreInRow 0 spans
  pub whole : end_from 0 spans ≡ length nodes
  pub few_paths : length spans < 2 ^ 31
  pub few_nodes : length nodes < 2 ^ 31
