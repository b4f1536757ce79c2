-- The path of a link: two tree paths, the first turned round, joined at a node or by the link.
use Rattle.std.proofs.Common.{◌≡◌, ℕ, ◌+◌, ◌<◌, ◌≤◌, Bool, false, List, ◌∷◌, IsTrue, Option, Some, None, sym, ap, ◌∙◌, arith}
use Rattle.tomo_base.specs.Network.{Network, linked}
use Rattle.tomo_base.specs.Sets.{has, Apart}
use Rattle.tomo_base.specs.Identify.{sum_from, sum_over, IsMonitorPath}
use Rattle.cross_links.specs.Joining.{turned_onto}
use Rattle.cross_links.proofs.Turned.{IsArm, across, through, sum_across, sum_through}
use Rattle.stpc_paths.specs.Roots.{after, tree_of, second_start, IsOwned}
use Rattle.stpc_paths.proofs.Climbing.{climb_once, climb_ends, climb_steps, climb_keeps}
use Rattle.stpc_paths.proofs.Forests.{Forest, trunk_step, after_below, after_other}

module _ (g : Network) (m : ℕ → Bool) (number : ℕ → ℕ) (parent : ℕ → ℕ → ℕ) (f : Forest g m number parent) where
  -- the path of a link with this root
  abbrev pub path_by : ℕ → ℕ → Option ℕ → List ℕ
  path_by v w t = turned_onto (v ∷ f.trunk (tree_of t) v) (second_start parent v w t ∷ f.trunk (after (tree_of t)) (second_start parent v w t))

  -- a tree path is an arm
  pub trunk_arm : (i v : ℕ) → i < 3 → IsArm g m v (f.trunk i v)
  trunk_arm i v l = record {
    steps = climb_steps m (parent i) g (λ u free. f.joined i u l free) v (f.trunk i v) (f.climbs i v l);
    once = climb_once m (parent i) v (f.trunk i v) (f.climbs i v l);
    ends = climb_ends m (parent i) v (f.trunk i v) (f.climbs i v l);
  }

  -- in a tree, the path is joined at the node
  pub path_inside : (i v w : ℕ) → i < 3 → m v ≡ false → path_by v w (Some i) ≡ turned_onto (f.trunk i v) (v ∷ f.trunk (after i) v)
  path_inside i v w l free = ap (λ q. turned_onto (v ∷ f.trunk i v) q) (sym (trunk_step g m number parent f (after i) v (after_below i l) free))

  -- numbers fall along the first tree, and rise along the second
  apart_by_numbers : (v w : ℕ) → number v < number w → Apart (has (v ∷ f.trunk 0 v)) (has (w ∷ f.trunk 1 w))
  apart_by_numbers v w less z h k =
      let low : number z ≤ number v = climb_keeps m (parent 0) (λ x. number x ≤ number v) (λ x free le. omega (arith, f.falls x free, le)) v (f.trunk 0 v) (f.climbs 0 v (omega arith)) (omega arith) z h in
      let high : number w ≤ number z = climb_keeps m (parent 1) (λ x. number w ≤ number x) (λ x free le. omega (arith, f.rises x free, le)) w (f.trunk 1 w) (f.climbs 1 w (omega arith)) (omega arith) z k in
      omega (arith, low, high, less)

  -- it is a monitor path
  pub path_monitor : (v w : ℕ) (t : Option ℕ) → IsOwned m parent number v w t → IsTrue (linked g v w) → IsMonitorPath g m (path_by v w t)
  path_monitor v w (Some i) o joined = rw (path_inside i v w o.0 o.1.free)
      (through g m v (f.trunk i v) (f.trunk (after i) v) (trunk_arm i v o.0) (trunk_arm (after i) v (after_below i o.0)) o.1.free (f.apart i (after i) v o.0 (after_below i o.0) (after_other i o.0) o.1.free))
  path_monitor v w None o joined = across g m v (f.trunk 0 v) w (f.trunk 1 w) (trunk_arm 0 v (omega arith)) (trunk_arm 1 w (omega arith)) joined (apart_by_numbers v w o.1)

  module _ (s : ℕ → ℕ → ℕ) (comm : (x y : ℕ) → s x y ≡ s y x) where
    -- a sum along the path of a node
    pub sum_inside : (i v w : ℕ) → i < 3 → m v ≡ false → sum_over s (path_by v w (Some i)) ≡ sum_from s v (f.trunk i v) + sum_from s v (f.trunk (after i) v)
    sum_inside i v w l free = ap (sum_over s) (path_inside i v w l free) ∙ sum_through s comm v (f.trunk i v) (f.trunk (after i) v)

    -- a sum along the path over a link
    pub sum_outside : (v w : ℕ) → sum_over s (path_by v w None) ≡ sum_from s v (f.trunk 0 v) + s v w + sum_from s w (f.trunk 1 w)
    sum_outside v w = sum_across s comm v (f.trunk 0 v) w (f.trunk 1 w)

    -- a sum along a tree path: the first link, and the parent's path
    pub sum_step : (i v : ℕ) → i < 3 → m v ≡ false → sum_from s v (f.trunk i v) ≡ s v (parent i v) + sum_from s (parent i v) (f.trunk i (parent i v))
    unfolding sum_from
    sum_step i v l free = ap (sum_from s v) (trunk_step g m number parent f i v l free)
