-- The recipe of a link, by the numbers of the paths of its two ends.
use Rattle.std.specs.Prelude.{ℕ, Bool, true, false, not, if◌then◌else◌, List, [], ◌∷◌, ◌++◌, ℤ, pos, negsuc, Option, Some, None}
use Rattle.simple_path.specs.declared.recipe.Term.{Term}
use Rattle.cross_links.specs.Joining.{term}
use Rattle.stpc_paths.specs.Roots.{after}

-- 1 or -1
abbrev pub sign : Bool → ℤ
sign true = pos 1
sign false = negsuc 0

-- the terms of a node in tree i: none for a monitor; else its path for this tree and the next, less that for the other two, and that for the third tree and this one; or the opposite
abbrev pub node_terms : (ℕ → Bool) → (ℕ → ℕ → ℕ) → Bool → ℕ → ℕ → List Term
node_terms m name plus i v = if m v then [] else (term (sign plus) (name i v) ∷ term (sign (not plus)) (name (after i) v) ∷ term (sign plus) (name (after (after i)) v) ∷ [])

-- the terms of the link e: of its two ends in the tree of their link, one less the other; or, outside the trees, twice its own path less the terms of its two ends
abbrev pub link_terms : (ℕ → Bool) → (ℕ → ℕ → ℕ) → ℕ → ℕ → ℕ → Option ℕ → List Term
link_terms m name e v w (Some i) = node_terms m name true i v ++ node_terms m name false i w
link_terms m name e v w None = term (pos 2) e ∷ (node_terms m name false 0 v ++ node_terms m name false 1 w)
