-- Labels that gather the homes of monitors to home pockets.
use Rattle.std.specs.Prelude.{ℕ, ◌≡◌, ◌<◌, Bool, List, length, slice_index, IsTrue}
use Rattle.tomo_base.specs.Network.{Network}
use Rattle.tomo_base.specs.Sets.{minus, without}
use Rattle.tomo_base.specs.BadParts.{NoBadPart}
use Rattle.tomo_base.specs.Pockets.{IsHome}
use Rattle.ident_laws.specs.Labels.{AreLabels}

-- no member that is not forced can be left out alone: the others have a bad part
abbrev pub AreKept : Network → (ℕ → Bool) → (ℕ → Bool) → Type 0
AreKept g m forced = (x : ℕ) → x < g.nodes → IsTrue (minus m forced x) → NoBadPart g (without m x) → ⊥

-- a label for each node, none above b, by which the homes of the members of k are gathered
pub record AreHomeLabels (g : Network) (m k : ℕ → Bool) (b : ℕ) (labels : List ℕ) : Type 0 where
  pub one_each : length labels ≡ g.nodes
  pub home : ℕ → ℕ → Bool
  pub homes : (x : ℕ) → x < g.nodes → IsTrue (k x) → IsHome g m x (home x)
  pub gather : AreLabels g home k b (slice_index labels)
