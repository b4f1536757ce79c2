-- Paths and recipes by trees: each recipe is one for its link, and along each path the recipes add up to twice the path.
use Rattle.std.proofs.Common.{◌≡◌, ℕ, ◌+◌, ◌*◌, ◌<◌, ◌==◌, Bool, true, false, List, [], ◌∷◌, length, get_or, slice_get, IsTrue, Option, Some, None, if◌then◌else◌, refl, sym, ap, subst, ◌∙◌, inl, inr, arith, All}
use Rattle.std.proofs.lemmas.Bool.{cases_Bool}
use Rattle.std.proofs.lemmas.Option.{slice_get-get_or}
use Rattle.std.proofs.lemmas.List.{get_or_default}
use Rattle.tomo_base.specs.declared.graph.Link.{Link}
use Rattle.tomo_base.specs.Network.{Network, joins, linked, IsGraph}
use Rattle.tomo_base.specs.Table.{JoinsAt}
use Rattle.tomo_base.specs.Sets.{one_if}
use Rattle.tomo_base.specs.Identify.{sum_from, sum_over, IsMonitorPath}
use Rattle.tomo_base.specs.Recipes.{gain_of, loss_of, uses_of, IsRecipe}
use Rattle.tomo_base.proofs.Links.{joins_comm}
use Rattle.tomo_base.proofs.Rows.{any_joins-from}
use Rattle.simple_path.specs.declared.recipe.Term.{Term}
use Rattle.simple_path.specs.Terms.{weighted_by, path_terms}
use Rattle.simple_path.proofs.Along.{place_below}
use Rattle.tomo_base.proofs.Places.{only_joins}
use Rattle.indep_trees.specs.Trees.{Climbs}
use Rattle.plan_form.proofs.Built.{weighted_terms}
use Rattle.plan_form.specs.Tied.{place_between, recipe_between}
use Rattle.plan_form.proofs.Tied.{place_joins, recipe_comm, weighted_along, Balances, place_is}
use Rattle.stpc_paths.specs.declared.roots.Root.{Root}
use Rattle.stpc_paths.specs.Roots.{after, Owns, IsOwned, IsRoot}
use Rattle.stpc_paths.specs.Names.{own, shared, IsPathName}
use Rattle.stpc_paths.specs.Terms.{link_terms}
use Rattle.stpc_paths.proofs.Forests.{Forest, after_below, thrice, trunk_ends, mutual_or_not, owner_up}
use Rattle.stpc_paths.proofs.Naming.{name_one, name_joint, root_owned}
use Rattle.stpc_paths.proofs.Joined.{path_by, path_monitor, sum_inside, sum_outside, sum_step}
use Rattle.stpc_paths.proofs.Weighing.{gain_at, loss_at, ends_weigh, free_weigh, inside_weigh, outside_weigh}

-- each link has a root, the path with this root, and the terms by the numbers of its ends' paths
pub record Laid (g : Network) (m : ℕ → Bool) (number : ℕ → ℕ) (parent : ℕ → ℕ → ℕ) (f : Forest g m number parent) (roots : ℕ → Root) (name : ℕ → ℕ → ℕ) (paths : List (List ℕ)) (recipes : List (List Term)) : Type 0 where
  pub graph : IsGraph g
  pub root : (e : ℕ) (l : Link) → slice_get g.links e ≡ Some l → IsRoot m parent number l (roots e)
  pub named : (i v : ℕ) → i < 3 → m v ≡ false → IsPathName g.links m parent i v (name i v)
  pub one_path : length paths ≡ length g.links
  pub path : (e : ℕ) → e < length g.links → get_or paths e [] ≡ path_by g m number parent f (roots e).node (roots e).other (roots e).tree
  pub recipe : (e : ℕ) → e < length g.links → get_or recipes e [] ≡ link_terms m name e (roots e).node (roots e).other (roots e).tree

module _ (g : Network) (m : ℕ → Bool) (number : ℕ → ℕ) (parent : ℕ → ℕ → ℕ) (f : Forest g m number parent) (roots : ℕ → Root) (name : ℕ → ℕ → ℕ) (paths : List (List ℕ)) (recipes : List (List Term)) (h : Laid g m number parent f roots name paths recipes) where
  -- the link with a number joins its root's nodes
  root_at : (e : ℕ) → e < length g.links → JoinsAt g.links e (roots e).node (roots e).other × IsOwned m parent number (roots e).node (roots e).other (roots e).tree
  root_at e l =
      let d : Link = record { a = 0; b = 0 } in
      let at : slice_get g.links e ≡ Some (get_or g.links e d) = slice_get-get_or g.links e d l in
      let r = h.root e (get_or g.links e d) at in
      ((get_or g.links e d, at, r.ends), r.owned)

  -- a node that owns the link to its parent has the link's path for that tree and the next
  name_is : (e i v w : ℕ) → i < 3 → Owns m parent i v w → JoinsAt g.links e v w → name i v ≡ e
  name_is e i v w l owns at =
      name_one g m number parent f i v (name i v) (place_between g.links v (parent i v)) (h.named i v l owns.free) (own owns.free owns.alone)
      ∙ (ap (place_between g.links v) owns.parent_is ∙ place_is g v w e h.graph at (any_joins-from g.links e v w at))

  -- every path is a monitor path
  pub laid_monitor : All (IsMonitorPath g m) paths
  laid_monitor e d l =
      let lt : e < length g.links = omega (arith, l, h.one_path) in
      let r = root_at e lt in
      let same : get_or paths e d ≡ get_or paths e [] = get_or_default paths e d [] l in
      rw (same, h.path e lt) (path_monitor g m number parent f (roots e).node (roots e).other (roots e).tree r.1 (any_joins-from g.links e (roots e).node (roots e).other r.0))

  -- ---- weights along paths

  module _ (weight : ℕ → ℕ) where
    -- what the recipe between two nodes gains and loses
    abbrev gained : ℕ → ℕ → ℕ
    gained x y = weighted_by gain_of weight (recipe_between g.links recipes x y)

    abbrev lost : ℕ → ℕ → ℕ
    lost x y = weighted_by loss_of weight (recipe_between g.links recipes x y)

    gained_comm : (x y : ℕ) → gained x y ≡ gained y x
    gained_comm x y = ap (weighted_by gain_of weight) (recipe_comm g.links recipes x y)

    lost_comm : (x y : ℕ) → lost x y ≡ lost y x
    lost_comm x y = ap (weighted_by loss_of weight) (recipe_comm g.links recipes x y)

    -- of the recipe of an owned link
    own_weigh : (i v w : ℕ) → i < 3 → Owns m parent i v w → (gained v w ≡ gain_at m name weight i v + loss_at m name weight i w) × (lost v w ≡ loss_at m name weight i v + gain_at m name weight i w)
    own_weigh i v w l owns =
        let joined : IsTrue (linked g v w) = subst (λ x. IsTrue (linked g v x)) owns.parent_is (f.joined i v l owns.free) in
        let e : ℕ = place_between g.links v w in
        let at : JoinsAt g.links e v w = place_joins g.links v w joined in
        let lt : e < length g.links = place_below g.links e v w at in
        let r = root_owned g m number parent f i v w at.0 (roots e) l owns at.2 (h.root e at.0 at.1) in
        let terms : get_or recipes e [] ≡ link_terms m name e v w (Some i) = h.recipe e lt ∙ rw (r.0, r.1, r.2) refl in
        let weigh = inside_weigh m name weight e i v w in
        (ap (weighted_by gain_of weight) terms ∙ weigh.0, ap (weighted_by loss_of weight) terms ∙ weigh.1)

    -- of a link to a parent: what the node's terms weigh, less what the parent's do
    falls : (i v : ℕ) → i < 3 → m v ≡ false → gained v (parent i v) + loss_at m name weight i v + gain_at m name weight i (parent i v) ≡ lost v (parent i v) + gain_at m name weight i v + loss_at m name weight i (parent i v)
    falls i v l free = elim (mutual_or_not g m number parent f i v) [
      | inr alone ↦ (let k = own_weigh i v (parent i v) l (record { free = free; parent_is = refl; alone = alone }) in omega (arith, k.0, k.1))
      | inl both ↦
          let w : ℕ = parent i v in
          let j : ℕ = after i in
          let k = own_weigh j w v (after_below i l) (owner_up g m number parent f i v l free both) in
          let same : weight (name i v) ≡ weight (name i w) = ap weight (name_joint g m number parent f i v (name i v) (name i w) free both (h.named i v l free) (h.named i w l both.0)) in
          let a = free_weigh m name weight i v free in
          let b = free_weigh m name weight i w both.0 in
          let c = free_weigh m name weight j v free in
          let d = free_weigh m name weight j w both.0 in
          let third_v : weight (name (after (after j)) v) ≡ weight (name i v) = ap (λ t. weight (name t v)) (thrice i l) in
          let third_w : weight (name (after (after j)) w) ≡ weight (name i w) = ap (λ t. weight (name t w)) (thrice i l) in
          omega (arith, k.0, k.1, gained_comm v w, lost_comm v w, same, a.0, a.1, b.0, b.1, c.0, c.1, d.0, d.1, third_v, third_w)
    ]

    -- along a tree path: what the node's terms weigh
    climbs : (i v : ℕ) (p : List ℕ) → i < 3 → Climbs m (parent i) v p → sum_from gained v p + loss_at m name weight i v ≡ sum_from lost v p + gain_at m name weight i v
    unfolding sum_from
    climbs i v [] l c = (let none = ends_weigh m name weight i v c in omega (arith, none.0, none.1))
    climbs i v (w ∷ p) l c =
        let rest = climbs i w p l c.2 in
        let fall = falls i v l c.0 in
        rw c.1 (omega (arith, rw c.1 at rest, fall))

    -- along the path of a link: twice the path
    tied_at : (e v w : ℕ) (t : Option ℕ) → JoinsAt g.links e v w → IsOwned m parent number v w t → get_or recipes e [] ≡ link_terms m name e v w t
        → sum_over gained (path_by g m number parent f v w t) ≡ sum_over lost (path_by g m number parent f v w t) + 2 * weight e
    tied_at e v w (Some i) at o terms =
        let i' = after i in
        let l' = after_below i o.0 in
        let a = free_weigh m name weight i v o.1.free in
        let b = free_weigh m name weight i' v o.1.free in
        let third : weight (name (after (after i')) v) ≡ weight (name i v) = ap (λ t. weight (name t v)) (thrice i o.0) in
        let is : weight (name i v) ≡ weight e = ap weight (name_is e i v w o.0 o.1 at) in
        omega (
          arith,
          sum_inside g m number parent f gained gained_comm i v w o.0 o.1.free,
          sum_inside g m number parent f lost lost_comm i v w o.0 o.1.free,
          climbs i v (f.trunk i v) o.0 (f.climbs i v o.0),
          climbs i' v (f.trunk i' v) l' (f.climbs i' v l'),
          a.0,
          a.1,
          b.0,
          b.1,
          third,
          is,
        )
    tied_at e v w None at o terms =
        let place : place_between g.links v w ≡ e = place_is g v w e h.graph at (any_joins-from g.links e v w at) in
        let here : recipe_between g.links recipes v w ≡ link_terms m name e v w None = ap (λ k. get_or recipes k []) place ∙ terms in
        let weigh = outside_weigh m name weight e v w in
        omega (
          arith,
          sum_outside g m number parent f gained gained_comm v w,
          sum_outside g m number parent f lost lost_comm v w,
          climbs 0 v (f.trunk 0 v) (omega arith) (f.climbs 0 v (omega arith)),
          climbs 1 w (f.trunk 1 w) (omega arith) (f.climbs 1 w (omega arith)),
          ap (weighted_by gain_of weight) here ∙ weigh.0,
          ap (weighted_by loss_of weight) here ∙ weigh.1,
        )

  -- so each path is balanced
  pub laid_balances : (e : ℕ) → e < length paths → Balances g.links recipes (get_or paths e []) e
  laid_balances e l weight =
      let lt : e < length g.links = omega (arith, l, h.one_path) in
      let r = root_at e lt in
      let tied = tied_at weight e (roots e).node (roots e).other (roots e).tree r.0 r.1 (h.recipe e lt) in
      weighted_along gain_of weight g.links recipes (get_or paths e [])
      ∙ (rw (h.path e lt) tied ∙ ap (λ n. n + 2 * weight e) (sym (weighted_along loss_of weight g.links recipes (get_or paths e []))))

  -- ---- uses of a link

  module _ (l : Link) where
    -- how often a list of nodes runs over the link
    abbrev ones : ℕ → ℕ → ℕ
    ones x y = one_if (joins l x y)

    ones_comm : (x y : ℕ) → ones x y ≡ ones y x
    ones_comm x y = ap one_if (joins_comm l x y)

    -- how often the path with a number runs over it
    abbrev used : ℕ → ℕ
    used e = uses_of l (get_or paths e [])

    -- and the path of a node in a tree
    abbrev climbed : ℕ → ℕ → ℕ
    climbed i v = sum_from ones v (f.trunk i v)

    -- the path with a node's number runs over both of its tree paths
    name_uses : (i v q : ℕ) → i < 3 → IsPathName g.links m parent i v q → used q ≡ climbed i v + climbed (after i) v
    unfolding uses_of
    name_uses i v q lt (own free alone) =
        let owns : Owns m parent i v (parent i v) = record { free = free; parent_is = refl; alone = alone } in
        let e : ℕ = place_between g.links v (parent i v) in
        let at : JoinsAt g.links e v (parent i v) = place_joins g.links v (parent i v) (f.joined i v lt free) in
        let below : e < length g.links = place_below g.links e v (parent i v) at in
        let r = root_owned g m number parent f i v (parent i v) at.0 (roots e) lt owns at.2 (h.root e at.0 at.1) in
        let is : get_or paths e [] ≡ path_by g m number parent f v (parent i v) (Some i) = h.path e below ∙ rw (r.0, r.1, r.2) refl in
        ap (sum_over ones) is ∙ sum_inside g m number parent f ones ones_comm i v (parent i v) lt free
    name_uses i v q lt (shared free both rest) =
        let known : used q ≡ climbed i (parent i v) + climbed (after i) (parent i v) = name_uses i (parent i v) q lt rest in
        let up : climbed i v ≡ ones v (parent i v) + climbed i (parent i v) = sum_step g m number parent f ones ones_comm i v lt free in
        let back : climbed (after i) (parent i v) ≡ ones (parent i v) (parent (after i) (parent i v)) + climbed (after i) (parent (after i) (parent i v)) = sum_step g m number parent f ones ones_comm (after i) (parent i v) (after_below i lt) both.0 in
        omega (arith, known, up, rw both.1 at back, ones_comm v (parent i v))

    -- a node's terms gain twice its tree path
    terms_twice : (i v : ℕ) → i < 3 → gain_at m name used i v ≡ loss_at m name used i v + 2 * climbed i v
    unfolding sum_from
    terms_twice i v lt = elim (cases_Bool (m v)) [
      | inl stops ↦
          let none = ends_weigh m name used i v stops in
          let flat : climbed i v ≡ 0 = ap (sum_from ones v) (trunk_ends g m number parent f i v lt stops) in
          omega (arith, none.0, none.1, flat)
      | inr free ↦
          let j = after i in
          let k = after j in
          let lj = after_below i lt in
          let lk = after_below j lj in
          let a = free_weigh m name used i v free in
          let last : climbed (after k) v ≡ climbed i v = ap (λ t. climbed t v) (thrice i lt) in
          omega (arith, a.0, a.1, name_uses i v (name i v) lt (h.named i v lt free), name_uses j v (name j v) lj (h.named j v lj free), name_uses k v (name k v) lk (h.named k v lk free), last)
    ]

    -- the recipe of a link gains twice the link
    recipe_twice : (e v w : ℕ) (t : Option ℕ) → JoinsAt g.links e v w → IsOwned m parent number v w t → get_or recipes e [] ≡ link_terms m name e v w t → get_or paths e [] ≡ path_by g m number parent f v w t
        → weighted_by gain_of used (get_or recipes e []) ≡ weighted_by loss_of used (get_or recipes e []) + 2 * ones v w
    unfolding uses_of
    recipe_twice e v w (Some i) at o terms path =
        let weigh = inside_weigh m name used e i v w in
        let up : climbed i v ≡ ones v (parent i v) + climbed i (parent i v) = sum_step g m number parent f ones ones_comm i v o.0 o.1.free in
        omega (arith, ap (weighted_by gain_of used) terms ∙ weigh.0, ap (weighted_by loss_of used) terms ∙ weigh.1, terms_twice i v o.0, terms_twice i w o.0, rw o.1.parent_is at up)
    recipe_twice e v w None at o terms path =
        let weigh = outside_weigh m name used e v w in
        let whole : used e ≡ climbed 0 v + ones v w + climbed 1 w = ap (sum_over ones) path ∙ sum_outside g m number parent f ones ones_comm v w in
        omega (arith, ap (weighted_by gain_of used) terms ∙ weigh.0, ap (weighted_by loss_of used) terms ∙ weigh.1, terms_twice 0 v (omega arith), terms_twice 1 w (omega arith), whole)

  -- so each link has a recipe
  pub laid_recipe : (e : ℕ) → e < length g.links → IsRecipe g.links e (path_terms paths (get_or recipes e []))
  laid_recipe e lt k l at =
      let r = root_at e lt in
      let twice = recipe_twice l e (roots e).node (roots e).other (roots e).tree r.0 r.1 (h.recipe e lt) (h.path e lt) in
      let one : joins l (roots e).node (roots e).other ≡ (k == e) = only_joins g e (roots e).node (roots e).other h.graph r.0 k l at in
      weighted_terms gain_of (uses_of l) paths (get_or recipes e [])
      ∙ (twice ∙ (ap (λ n. weighted_by loss_of (used l) (get_or recipes e []) + n) (ap (λ c. 2 * one_if c) one ∙ twice_if (k == e))
      ∙ ap (λ n. n + (if k == e then 2 else 0)) (sym (weighted_terms loss_of (uses_of l) paths (get_or recipes e [])))))
    where
      twice_if : (c : Bool) → 2 * one_if c ≡ (if c then 2 else 0)
      twice_if true = refl
      twice_if false = refl
