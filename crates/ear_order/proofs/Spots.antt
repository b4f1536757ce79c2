-- The nodes of an ear at some of its places, as marks, and the places that touch a part.
use Rattle.std.proofs.Common.{◌≡◌, ◌⊎◌, ℕ, suc, ◌+◌, ◌-◌, ◌<◌, ◌≤◌, Bool, true, false, not, cond, Option, Some, None, IfSome, IfNone, List, length, reverse, take, drop, get_or, All, refl, sym, subst, ap, ◌∙◌, inl, inr, arith}
use Rattle.std.specs.Option.{is_some}
use Rattle.std.proofs.lemmas.Bool.{cases_eq, both_ways, and_from, not_from_false, false_from_ne_true}
use Rattle.std.proofs.lemmas.List.{get_or-take, get_or-drop, length-take-le, length-drop, get_or_default}
use Rattle.tomo_base.specs.Network.{Network, linked, IsGraph}
use Rattle.tomo_base.specs.Sets.{has, touches, outside}
use Rattle.tomo_base.specs.Search.{mark_of, entry_at}
use Rattle.tomo_base.proofs.Links.{linked_below}
use Rattle.tomo_base.proofs.Ascending.{place_in, has-at}
use Rattle.tomo_base.proofs.Touching.{touches-from, touches_gives}
use Rattle.ear_order.specs.Ears.{IsEar}
use Rattle.ear_order.specs.Turns.{IsEither, IsTurn, Zone}
use Rattle.ear_order.proofs.Lists.{ear_at}
use Rattle.ear_order.proofs.Turned.{reverse_ear, reverse_turn, entry_reverse}

-- ---- the nodes from a place on, before another

pub slice_gives : (e : List ℕ) (a b v : ℕ) → b ≤ length e → has (take (b - a) (drop a e)) v ≡ true → (i : ℕ) × (a ≤ i) × (i < b) × (entry_at e i ≡ v)
slice_gives e a b v l h =
    let k = place_in (take (b - a) (drop a e)) v h in
    let size : length (take (b - a) (drop a e)) ≡ b - a = length-take-le (b - a) (drop a e) (omega (arith, l, length-drop a e)) in
    let low : k.0 < b - a = omega (arith, k.1, size) in
    (a + k.0, omega arith, omega (arith, low), sym (get_or-drop a e k.0 0) ∙ (sym (get_or-take (b - a) (drop a e) k.0 0 low) ∙ k.2))

pub slice_at : (e : List ℕ) (a b i : ℕ) → b ≤ length e → a ≤ i → i < b → has (take (b - a) (drop a e)) (entry_at e i) ≡ true
slice_at e a b i l low high =
    let size : length (take (b - a) (drop a e)) ≡ b - a = length-take-le (b - a) (drop a e) (omega (arith, l, length-drop a e)) in
    let k : a + (i - a) ≡ i = omega (arith, low) in
    let within : i - a < b - a = omega (arith, low, high) in
    let same : get_or (take (b - a) (drop a e)) (i - a) 0 ≡ entry_at e i = get_or-take (b - a) (drop a e) (i - a) 0 within ∙ (get_or-drop a e (i - a) 0 ∙ ap (entry_at e) k) in
    subst (λ w. has (take (b - a) (drop a e)) w ≡ true) same (has-at (take (b - a) (drop a e)) (i - a) 0 (omega (arith, within, size)))

marked : (b c : Bool) → cond b true c ≡ true → (b ≡ true) ⊎ (c ≡ true)
marked true c h = inl refl
marked false c h = inr h

from_list : (b c : Bool) → b ≡ true → cond b true c ≡ true
from_list true c h = refl
from_list false c h = absurd (both_ways false refl h)

from_mark : (b c : Bool) → c ≡ true → cond b true c ≡ true
from_mark true c h = refl
from_mark false c h = h

-- the zone of a part and the places up to low, and those from high on
pub zone_from : (part z0 z1 z2 : List Bool) (e : List ℕ) (low high : ℕ) → low + 1 < length e → 1 ≤ high → high < length e → z0 ≡ part
    → ((v : ℕ) → mark_of z1 v ≡ cond (has (take (low + 1 - 1) (drop 1 e)) v) true (mark_of z0 v))
    → ((v : ℕ) → mark_of z2 v ≡ cond (has (take (length e - 1 - high) (drop high e)) v) true (mark_of z1 v))
    → Zone (mark_of part) (entry_at e) (length e - 1) low high (mark_of z2)
zone_from part z0 z1 z2 e low high short some within same first second = record {
  part = λ v h. second v ∙ from_mark _ (mark_of z1 v) (first v ∙ from_mark _ (mark_of z0 v) (ap (λ z. mark_of z v) same ∙ h));
  front = λ i a b. second (entry_at e i) ∙ from_mark _ (mark_of z1 (entry_at e i)) (first (entry_at e i) ∙ from_list _ (mark_of z0 (entry_at e i)) (slice_at e 1 (low + 1) i (omega (arith, short)) a (omega (arith, b))));
  back = λ i a b. second (entry_at e i) ∙ from_list _ (mark_of z1 (entry_at e i)) (slice_at e high (length e - 1) i (omega arith) a b);
  only = λ v h. elim (marked (has (take (length e - 1 - high) (drop high e)) v) (mark_of z1 v) (sym (second v) ∙ h)) [
    | inl back ↦ (let i = slice_gives e high (length e - 1) v (omega arith) back in inr (i.0, omega (arith, i.1, some), i.2, inr i.1, i.3))
    | inr rest ↦ elim (marked (has (take (low + 1 - 1) (drop 1 e)) v) (mark_of z0 v) (sym (first v) ∙ rest)) [
      | inl front ↦ (let i = slice_gives e 1 (low + 1) v (omega (arith, short)) front in inr (i.0, i.1, omega (arith, i.2, short), inl (omega (arith, i.2)), i.3))
      | inr part ↦ inl (sym (ap (λ z. mark_of z v) same) ∙ part)
    ]
  ];
}

-- ---- outside neighbours

-- a node without a mark that has a marked neighbour
pub borders_is : (g : Network) → IsGraph g → (K : ℕ → Bool) (v n : ℕ) (o : Option ℕ) → n ≡ g.nodes → K v ≡ false
    → IfSome o (λ w. linked g v w ≡ true) → IfSome o (λ w. K w ≡ true) → IfNone o ((w : ℕ) → linked g v w ≡ true → K w ≡ true → w ≡ n) → is_some o ≡ outside g K v
borders_is g graph K v n (Some w) size out link mark none = sym (and_from (not (K v)) (touches g K v) (not_from_false (K v) out) (touches-from g K v w (linked_below g.nodes g.links v w graph link).1 mark link))
borders_is g graph K v n None size out link mark none = sym (rw out (false_from_ne_true (touches g K v) (λ h.
    let w = touches_gives g K v h in
    let same : w.0 ≡ n = none w.0 w.3 w.2 in
    omega (arith, w.1, same, size))))

-- a marked node is none
pub inside_is : (g : Network) (K : ℕ → Bool) (v : ℕ) → K v ≡ true → false ≡ outside g K v
inside_is g K v h = rw h refl

-- ---- a turned ear

pub either_ear : (g : Network) (D : ℕ → Bool) (e old : List ℕ) → IsEither e old → IsEar g D old → IsEar g D e
either_ear g D e old (inl same) ear = subst (IsEar g D) (sym same) ear
either_ear g D e old (inr turned) ear = subst (IsEar g D) (sym turned) (reverse_ear g D old ear)

pub either_turn : (g : Network) (D : ℕ → Bool) (e old : List ℕ) (K R C : ℕ → Bool) (u : ℕ) → IsEither e old → 3 ≤ length old → IsTurn g D old K R C u → IsTurn g D e K R C u
either_turn g D e old K R C u (inl same) long t = subst (λ z. IsTurn g D z K R C u) (sym same) t
either_turn g D e old K R C u (inr turned) long t = subst (λ z. IsTurn g D z K R C u) (sym turned) (reverse_turn g D old K R C u long t)

-- where a turned list begins
pub reverse_begins : (e : List ℕ) → 1 ≤ length e → entry_at (reverse e) 0 ≡ entry_at e (length e - 1)
reverse_begins e some = entry_reverse e 0 some ∙ (let k : length e - 1 - 0 ≡ length e - 1 = omega arith in ap (entry_at e) k)

-- the nodes of an ear are nodes
pub ear_below : (g : Network) → IsGraph g → (D : ℕ → Bool) (e : List ℕ) → IsEar g D e → (k : ℕ) → k < length e → entry_at e k < g.nodes
ear_below g graph D e ear k l =
    let at = ear_at g D e ear in
    elim (cases_eq k (length e - 1)) [
      | inl last ↦
          let before : suc (length e - 2) ≡ k = omega (arith, last, ear.three) in
          subst (λ z. entry_at e z < g.nodes) before (linked_below g.nodes g.links (entry_at e (length e - 2)) (entry_at e (suc (length e - 2))) graph (at.steps (length e - 2) (omega (arith, ear.three)))).1
      | inr earlier ↦ (linked_below g.nodes g.links (entry_at e k) (entry_at e (suc k)) graph (at.steps k (omega (arith, l, earlier)))).0
    ]

-- all of them
pub ear_all : (g : Network) → IsGraph g → (D : ℕ → Bool) (e : List ℕ) → IsEar g D e → All (λ v. v < g.nodes) e
ear_all g graph D e ear k d l = subst (λ v. v < g.nodes) (get_or_default e k 0 d l) (ear_below g graph D e ear k l)
