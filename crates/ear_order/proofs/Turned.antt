-- An ear read from its other end.
use Rattle.std.proofs.Common.{◌≡◌, ℕ, suc, ◌-◌, ◌<◌, ◌≤◌, Bool, true, List, length, reverse, sym, subst, ap, ◌∙◌, arith}
use Rattle.std.proofs.lemmas.List.{get_or-reverse, length-reverse}
use Rattle.tomo_base.specs.Network.{Network}
use Rattle.tomo_base.specs.Search.{entry_at}
use Rattle.tomo_base.proofs.Links.{linked_comm}
use Rattle.ear_order.specs.Ears.{IsEar}
use Rattle.ear_order.specs.Turns.{between, IsTurn}
use Rattle.ear_order.proofs.Places.{run_at, run_gives}
use Rattle.ear_order.proofs.Lists.{ear_at, ear_from}
use Rattle.tomo_base.proofs.Lists.{same_test}

-- the places of a turned list
pub entry_reverse : (e : List ℕ) (i : ℕ) → i < length e → entry_at (reverse e) i ≡ entry_at e (length e - 1 - i)
entry_reverse e i l = get_or-reverse e i 0 l

-- a turned ear is an ear
pub reverse_ear : (g : Network) (D : ℕ → Bool) (e : List ℕ) → IsEar g D e → IsEar g D (reverse e)
reverse_ear g D e ear =
    let at = ear_at g D e ear in
    let last : ℕ = length e - 1 in
    let long : 3 ≤ length e = ear.three in
    let turned : (i : ℕ) → i ≤ length e - 1 → entry_at (reverse e) i ≡ entry_at e (length e - 1 - i) = λ i l. entry_reverse e i (omega (arith, l, long)) in
    let front : entry_at (reverse e) 0 ≡ entry_at e (length e - 1) = turned 0 (omega arith) ∙ (let k : length e - 1 - 0 ≡ length e - 1 = omega arith in ap (entry_at e) k) in
    let back : entry_at (reverse e) (length e - 1) ≡ entry_at e 0 = turned (length e - 1) (omega arith) ∙ (let k : length e - 1 - (length e - 1) ≡ 0 = omega arith in ap (entry_at e) k) in
    ear_from g D (reverse e) (length e - 1) (omega (arith, length-reverse e, long)) (record {
      inner_node = at.inner_node;
      steps = λ i l.
          let k : length e - 1 - i ≡ suc (length e - 1 - suc i) = omega (arith, l) in
          rw (turned i (omega (arith, l)), turned (suc i) (omega (arith, l)), k)
          (linked_comm g (entry_at e (length e - 1 - suc i)) (entry_at e (suc (length e - 1 - suc i))) (at.steps (length e - 1 - suc i) (omega (arith, l))));
      distinct = λ i j lt le same. at.distinct (length e - 1 - j) (length e - 1 - i) (omega (arith, lt, le)) (omega arith) (sym (turned j le) ∙ (sym same ∙ turned i (omega (arith, lt, le))));
      starts = subst (λ v. D v ≡ true) (sym front) at.ends;
      ends = subst (λ v. D v ≡ true) (sym back) at.starts;
      fresh = λ i low l. rw (turned i (omega (arith, l))) (at.fresh (length e - 1 - i) (omega (arith, l)) (omega (arith, low, l)));
    })

-- with the same nodes between its ends
pub reverse_between : (e : List ℕ) → 3 ≤ length e → (v : ℕ) → between (reverse e) v ≡ between e v
reverse_between e long v = same_test (between (reverse e) v) (between e v)
    (λ h.
    let i = run_gives (entry_at (reverse e)) 1 (length (reverse e) - 1) v h in
    let l : i.0 < length e - 1 = omega (arith, i.2, length-reverse e) in
    subst (λ w. between e w ≡ true) (sym (entry_reverse e i.0 (omega (arith, l))) ∙ i.3) (run_at (entry_at e) 1 (length e - 1) (length e - 1 - i.0) (omega (arith, l)) (omega (arith, i.1, l))))
    (λ h.
    let i = run_gives (entry_at e) 1 (length e - 1) v h in
    let k : length e - 1 - (length e - 1 - i.0) ≡ i.0 = omega (arith, i.2) in
    subst (λ w. between (reverse e) w ≡ true) (entry_reverse e (length e - 1 - i.0) (omega (arith, long)) ∙ (ap (entry_at e) k ∙ i.3))
    (run_at (entry_at (reverse e)) 1 (length (reverse e) - 1) (length e - 1 - i.0) (omega (arith, i.2)) (omega (arith, i.1, i.2, length-reverse e))))

-- so a turn of the one is a turn of the other
pub reverse_turn : (g : Network) (D : ℕ → Bool) (e : List ℕ) (K R C : ℕ → Bool) (u : ℕ) → 3 ≤ length e → IsTurn g D e K R C u → IsTurn g D (reverse e) K R C u
reverse_turn g D e K R C u long t = record {
  round = record {
    rest_small = t.round.rest_small;
    rest_off = t.round.rest_off;
    rest_all = t.round.rest_all;
    connected = t.round.connected;
    mid_rest = λ v h. t.round.mid_rest v (sym (reverse_between e long v) ∙ h);
    part_rest = t.round.part_rest;
    part_off = λ v h. reverse_between e long v ∙ t.round.part_off v h;
    part_has = t.round.part_has;
    part_closed = λ v w h l r n. t.round.part_closed v w h l r (sym (reverse_between e long w) ∙ n);
    part_connected = t.round.part_connected;
  };
  rest = t.rest;
  off_part = t.off_part;
  off_border = t.off_border;
  closed = t.closed;
  some = t.some;
  connected = t.connected;
}
