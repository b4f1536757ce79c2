-- The number of a node's path: there is one, and it is that of a link.
use Rattle.std.proofs.Common.{◌≡◌, ℕ, ◌<◌, ◌⊎◌, Bool, true, false, List, [], ◌∷◌, length, IsTrue, Option, Some, None, refl, sym, ap, subst, ◌∙◌, inl, inr}
use Rattle.std.proofs.lemmas.Bool.{both_ways, eqb-true}
use Rattle.tomo_base.specs.declared.graph.Link.{Link}
use Rattle.tomo_base.specs.Network.{Network, joins, linked, IsGraph}
use Rattle.tomo_base.specs.Table.{JoinsAt}
use Rattle.tomo_base.proofs.Links.{joins_gives}
use Rattle.simple_path.proofs.Along.{place_below}
use Rattle.tomo_base.proofs.Places.{only_joins}
use Rattle.indep_trees.specs.Trees.{Climbs}
use Rattle.plan_form.specs.Tied.{place_between}
use Rattle.plan_form.proofs.Tied.{place_joins}
use Rattle.stpc_paths.specs.declared.roots.Root.{Root}
use Rattle.stpc_paths.specs.Roots.{NameEachOther, Owns, IsOwned, IsRoot}
use Rattle.stpc_paths.specs.Names.{own, shared, IsPathName}
use Rattle.stpc_paths.proofs.Forests.{Forest, mutual_or_not, one_tree, one_end}

-- two pairs that one link joins are the same, or turned
pub same_ends : (l : Link) (a b v w : ℕ) → joins l a b ≡ true → joins l v w ≡ true → ((a ≡ v) × (b ≡ w)) ⊎ ((a ≡ w) × (b ≡ v))
same_ends l a b v w h k = elim (joins_gives l a b h) [
  | inl x ↦ elim (joins_gives l v w k) [ inl y ↦ inl (sym x.0 ∙ y.0, sym x.1 ∙ y.1) | inr y ↦ inr (sym x.0 ∙ y.0, sym x.1 ∙ y.1) ]
  | inr x ↦ elim (joins_gives l v w k) [ inl y ↦ inr (sym x.1 ∙ y.1, sym x.0 ∙ y.0) | inr y ↦ inl (sym x.1 ∙ y.1, sym x.0 ∙ y.0) ]
]

module _ (g : Network) (m : ℕ → Bool) (number : ℕ → ℕ) (parent : ℕ → ℕ → ℕ) (f : Forest g m number parent) where
  -- there is no second number
  pub name_one : (i v q r : ℕ) → IsPathName g.links m parent i v q → IsPathName g.links m parent i v r → q ≡ r
  name_one i v q r (own n a) (own n' a') = refl
  name_one i v q r (own n a) (shared n' b c) = absurd (a b)
  name_one i v q r (shared n b c) (own n' a') = absurd (a' b)
  name_one i v q r (shared n b c) (shared n' b' c') = name_one i (parent i v) q r c c'

  -- there is a number, since the path in the tree ends
  pub name_exists : (i v : ℕ) (p : List ℕ) → Climbs m (parent i) v p → m v ≡ false → (q : ℕ) × IsPathName g.links m parent i v q
  name_exists i v [] c free = absurd (both_ways (m v) free c)
  name_exists i v (w ∷ p) c free = elim (mutual_or_not g m number parent f i v) [
    | inl both ↦
        let rest = name_exists i w p c.2 (subst (λ x. m x ≡ false) (sym c.1) both.0) in
        (rest.0, shared free both (subst (λ x. IsPathName g.links m parent i x rest.0) c.1 rest.1))
    | inr alone ↦ (place_between g.links v (parent i v), own free alone)
  ]

  -- a node and a parent that name each other have one number
  pub name_joint : (i v q r : ℕ) → m v ≡ false → NameEachOther m parent i v → IsPathName g.links m parent i v q → IsPathName g.links m parent i (parent i v) r → q ≡ r
  name_joint i v q r free both a b = name_one i v q r a (shared free both b)

  -- it is the number of a link
  pub name_below : (i v q : ℕ) → i < 3 → IsPathName g.links m parent i v q → q < length g.links
  name_below i v q l (own free alone) = place_below g.links (place_between g.links v (parent i v)) v (parent i v) (place_joins g.links v (parent i v) (f.joined i v l free))
  name_below i v q l (shared free both c) = name_below i (parent i v) q l c

  -- where a node owns the link to its parent, the link's root is the node with that tree
  pub root_owned : (i v w : ℕ) (l : Link) (r : Root) → i < 3 → Owns m parent i v w → joins l v w ≡ true → IsRoot m parent number l r → (r.node ≡ v) × (r.other ≡ w) × (r.tree ≡ Some i)
  root_owned i v w l r lt owns at root = by_tree r.node r.other r.tree root.owned (same_ends l r.node r.other v w root.ends at)
    where
      by_tree : (a b : ℕ) (t : Option ℕ) → IsOwned m parent number a b t → ((a ≡ v) × (b ≡ w)) ⊎ ((a ≡ w) × (b ≡ v)) → (a ≡ v) × (b ≡ w) × (t ≡ Some i)
      by_tree a b (Some j) o (inl e) = (e.0, e.1, ap Some (one_tree g m number parent f j i v w o.0 lt (rw (e.0, e.1) at o.1) owns))
      by_tree a b (Some j) o (inr e) = absurd (one_end g m number parent f i j v w lt o.0 owns (rw (e.0, e.1) at o.1))
      by_tree a b None o (inl e) = absurd ((o.0 i lt).0 (rw (e.0, e.1) owns))
      by_tree a b None o (inr e) = absurd ((o.0 i lt).1 (rw (e.0, e.1) owns))
