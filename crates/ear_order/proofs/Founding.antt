-- Nodes that are left and have neighbours of lower rank: what is left is connected, and stays so without the nodes of a way that the others can spare.
use Rattle.std.proofs.Common.{◌≡◌, ℕ, zero, suc, ◌+◌, ◌<◌, ◌≤◌, Bool, true, false, List, [], ◌∷◌, ◌++◌, length, refl, sym, subst, ap, ◌∙◌, inl, inr, arith}
use Rattle.std.proofs.lemmas.Bool.{cases_Bool, cases_eq, both_ways, or_cases, not-true, not_from_false}
use Rattle.std.proofs.lemmas.List.{length_push}
use Rattle.tomo_base.specs.Network.{Network, linked, IsGraph}
use Rattle.tomo_base.specs.Sets.{has, complement}
use Rattle.tomo_base.specs.Walks.{Reaches, IsConnectedIn}
use Rattle.tomo_base.specs.Search.{mark_of, entry_at, IsSearch}
use Rattle.tomo_base.proofs.Ascending.{place_in}
use Rattle.tomo_base.proofs.Links.{linked_below, linked_comm}
use Rattle.tomo_base.proofs.Reached.{parent_at}
use Rattle.tomo_base.proofs.Walks.{Reaches-after, Reaches_comm, connected_by}
use Rattle.ear_order.specs.Ears.{with_ear}
use Rattle.ear_order.specs.Turns.{IsLeft, AreLeft}
use Rattle.ear_order.specs.Easy.{IsFounded, IsOpenEar, EndsAt, CanGo, IsEasy}
use Rattle.ear_order.proofs.Parting.{part_from}
use Rattle.ear_order.proofs.Spreading.{touch_from}
use Rattle.ear_order.proofs.Ways.{off_old, inner_place, u_not_gone, way_ear, way_gone, way_inner}
use Rattle.ear_order.proofs.Turning.{all_left, new_rest, rest_new}

-- after a search from u of all that is left, each other node has its parent
pub founded_from : (g : Network) → IsGraph g → (old rest : List Bool) (u : ℕ) → IsLeft g old u → AreLeft old rest → (order parent rank : List ℕ)
    → IsSearch g rest (u ∷ []) (length order) order parent rank → IsFounded g (mark_of old) (entry_at rank) u
founded_from g graph old rest u left are order parent rank s v l new other =
    let part = part_from g graph rest u order parent rank s (has order) (λ w. refl) in
    let k = place_in order v (all_left g graph old rest u left are order (has order) part v (new_rest g graph old rest u left are v l new)) in
    let first = s.begins 0 (omega arith) in
    let some : 1 ≤ k.0 = elim (cases_eq k.0 0) [ inl none ↦ absurd (other (sym k.2 ∙ (ap (entry_at order) none ∙ first.1))) | inr more ↦ omega (arith, more) ] in
    let up = parent_at g rest u (length order) order parent rank graph s k.0 some k.1 in
    let p = entry_at parent (entry_at order k.0) in
    let is_left : mark_of rest p ≡ true = subst (λ z. mark_of rest z ≡ true) up.3 (s.ranks.allowed (entry_at rank p) (omega (arith, up.1, k.1))) in
    let at : entry_at rank v ≡ k.0 = subst (λ z. entry_at rank z ≡ k.0) k.2 (s.ranks.ranked k.0 k.1).1 in
    (p, linked_comm g p v (subst (λ z. linked g p z ≡ true) k.2 up.2), rest_new g graph old rest u left are p is_left, omega (arith, up.1, at))

-- the same nodes have the same neighbours of lower rank
pub founded_same : (g : Network) (p q : ℕ → Bool) (rank : ℕ → ℕ) (u : ℕ) → ((v : ℕ) → p v ≡ q v) → IsFounded g p rank u → IsFounded g q rank u
founded_same g p q rank u same founded v l new other = let y = founded v l (same v ∙ new) other in (y.0, y.1, sym (same y.0) ∙ y.2, y.3)

module _ (g : Network) (graph : IsGraph g) (old : ℕ → Bool) (rank : ℕ → ℕ) (u : ℕ) (founded : IsFounded g old rank u) where
  -- a walk over nodes that are left leads from each of them to u
  way_to : (b v : ℕ) → rank v < b → v < g.nodes → old v ≡ false → Reaches g (complement old) v u
  way_to zero v lt l new = absurd (omega (arith, lt))
  way_to (suc b) v lt l new = elim (cases_eq v u) [
    | inl same ↦ ([], tt, tt, same)
    | inr other ↦
        let y = founded v l new other in
        Reaches-after g (complement old) v y.0 u y.1 (not_from_false (old y.0) y.2) (way_to b y.0 (omega (arith, y.3, lt)) (linked_below g.nodes g.links v y.0 graph y.1).1 y.2)
  ]

  -- so what is left is connected
  pub founded_connected : old u ≡ false → IsConnectedIn g (complement old)
  founded_connected third = connected_by g (complement old) u (not_from_false (old u) third)
      (λ v l t. Reaches_comm g (complement old) v u t (way_to (suc (rank v)) v (omega arith) l (not-true (old v) t)))

module _ (g : Network) (graph : IsGraph g) (old : ℕ → Bool) (rank : ℕ → ℕ) (u : ℕ) (founded : IsFounded g old rank u) (third : old u ≡ false) (gone : ℕ → Bool) (way : List ℕ) (is : IsOpenEar g old gone u way)
    (can : (k : ℕ) → 1 ≤ k → k < length way → CanGo g gone rank (entry_at way k)) where
  -- where the nodes of a way can go, each other node keeps a neighbour of lower rank
  stays_founded : IsFounded g gone rank u
  stays_founded x l new other =
      let y = founded x l (off_old g old u gone way is x new) other in
      elim (cases_Bool (gone y.0)) [
        | inl went ↦ elim (or_cases (old y.0) (has way y.0) (sym (is.gone_are y.0) ∙ went)) [
          | inl o ↦ absurd (both_ways (old y.0) y.2 o)
          | inr at ↦
              let k = inner_place g old u gone way is y.0 at y.2 in
              let z = (subst (CanGo g gone rank) k.3 (can k.0 k.1 k.2)).1 x (linked_comm g x y.0 y.1) new y.3 in
              (z.0, z.1, z.2, z.3)
        ]
        | inr stays ↦ (y.0, y.1, stays, y.3)
      ]

  -- so the ear that it becomes is easy
  pub easy_from : (l : ℕ) → EndsAt g old way l → IsEasy g old rank u (way ++ l ∷ [])
  easy_from l end =
      let e = way ++ l ∷ [] in
      let same = way_gone g old u gone way is l end in
      let founded' : IsFounded g (with_ear old e) rank u = founded_same g gone (with_ear old e) rank u same stays_founded in
      let out : with_ear old e u ≡ false = sym (same u) ∙ u_not_gone g old u gone way is third in
      let size : length e ≡ length way + 1 = length_push way l in
      record {
        is_ear = way_ear g old u gone way is l end;
        founded = founded';
        goes_on = record {
          third = out;
          connected = founded_connected g graph (with_ear old e) rank u founded' out;
          touched = λ k d low high.
              let y = (can k (omega (arith, low)) (omega (arith, high, size))).0 in
              rw (way_inner g old u gone way is l end k d (omega (arith, high, size)))
              (touch_from g graph (complement (with_ear old e)) y.0 (entry_at way k) (not_from_false (with_ear old e y.0) (sym (same y.0) ∙ y.2)) (linked_comm g (entry_at way k) y.0 y.1));
        };
      }
