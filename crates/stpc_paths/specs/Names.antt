-- The number of a node's path for a tree and the next one: that of the link which has the path.
use Rattle.std.specs.Prelude.{ℕ, ◌≡◌, Bool, false, List}
use Rattle.tomo_base.specs.declared.graph.Link.{Link}
use Rattle.plan_form.specs.Tied.{place_between}
use Rattle.stpc_paths.specs.Roots.{NameEachOther}

-- the path of v for tree i and the next has the number of the link to its parent; or, where the two name each other, the number that the parent's path has
pub data IsPathName (links : List Link) (m : ℕ → Bool) (parent : ℕ → ℕ → ℕ) : ℕ → ℕ → ℕ → Type 0 where
  own : {i v : ℕ} → m v ≡ false → (NameEachOther m parent i v → ⊥) → IsPathName links m parent i v (place_between links v (parent i v))
  shared : {i v q : ℕ} → m v ≡ false → NameEachOther m parent i v → IsPathName links m parent i (parent i v) q → IsPathName links m parent i v q
