-- An ear as a list and by its places.
use Rattle.std.proofs.Common.{◌≡◌, ◌⊎◌, ℕ, zero, suc, ◌-◌, ◌<◌, Bool, true, false, List, [], ◌∷◌, length, refl, sym, subst, ap, ◌∙◌, inl, inr, arith}
use Rattle.std.specs.List.{AllWithin}
use Rattle.std.proofs.lemmas.Bool.{cases_eq, both_ways, false_from_ne_true}
use Rattle.std.proofs.lemmas.List.{get_or_default}
use Rattle.tomo_base.specs.Network.{Network, linked}
use Rattle.tomo_base.specs.Sets.{has}
use Rattle.tomo_base.specs.Walks.{StepsFrom, end_of, NoneTwice}
use Rattle.tomo_base.specs.Search.{entry_at}
use Rattle.tomo_base.proofs.Ascending.{place_in, has-at}
use Rattle.ear_order.specs.Ears.{IsEar}
use Rattle.ear_order.specs.Turns.{between}
use Rattle.ear_order.proofs.Places.{EarAt, run_at, run_gives}

-- the steps of a walk, by place
walk_at : (g : Network) (a : ℕ) (p : List ℕ) → StepsFrom g a p → (i : ℕ) → suc i < length (a ∷ p) → linked g (entry_at (a ∷ p) i) (entry_at (a ∷ p) (suc i)) ≡ true
walk_at g a [] s i l = absurd (omega arith)
walk_at g a (b ∷ p) s zero l = s.0
walk_at g a (b ∷ p) s (suc i) l = walk_at g b p s.1 i (omega (arith, l))

walk_from : (g : Network) (a : ℕ) (p : List ℕ) → ((i : ℕ) → suc i < length (a ∷ p) → linked g (entry_at (a ∷ p) i) (entry_at (a ∷ p) (suc i)) ≡ true) → StepsFrom g a p
walk_from g a [] steps = tt
walk_from g a (b ∷ p) steps = (steps 0 (omega arith), walk_from g b p (λ i l. steps (suc i) (omega (arith, l))))

-- different nodes, by place
pub different_at : (p : List ℕ) → NoneTwice p → (i j : ℕ) → i < j → j < length p → entry_at p i ≡ entry_at p j → ⊥
different_at [] once i j lt l same = absurd (omega arith)
different_at (x ∷ p) once i zero lt l same = absurd (omega arith)
different_at (x ∷ p) once zero (suc j) lt l same = both_ways (has p x) once.0 (subst (λ v. has p v ≡ true) (sym same) (has-at p j 0 (omega (arith, l))))
different_at (x ∷ p) once (suc i) (suc j) lt l same = different_at p once.1 i j (omega (arith, lt)) (omega (arith, l)) same

pub different_from : (p : List ℕ) → ((i j : ℕ) → i < j → j < length p → entry_at p i ≡ entry_at p j → ⊥) → NoneTwice p
different_from [] differ = tt
different_from (x ∷ p) differ = (
  false_from_ne_true (has p x) (λ h. let k = place_in p x h in differ 0 (suc k.0) (omega arith) (omega (arith, k.1)) (sym k.2)),
  different_from p (λ i j lt l same. differ (suc i) (suc j) (omega (arith, lt)) (omega (arith, l)) same),
)

-- where a walk ends
end_at : (a : ℕ) (p : List ℕ) → end_of a p ≡ entry_at (a ∷ p) (length p)
end_at a [] = refl
end_at a (b ∷ p) = end_at b p

-- an ear by its places
pub ear_at : (g : Network) (D : ℕ → Bool) (e : List ℕ) → IsEar g D e → EarAt g D (entry_at e) (length e - 1)
ear_at g D [] ear = absurd (omega (arith, ear.three))
ear_at g D (a ∷ p) ear =
    let last : length (a ∷ p) - 1 ≡ length p = omega arith in
    record {
      inner_node = omega (arith, ear.three);
      steps = λ i h. walk_at g a p ear.linked i (omega (arith, h));
      distinct = λ i j lt le. different_at (a ∷ p) ear.different i j lt (omega (arith, le));
      starts = ear.ends.0;
      ends = subst (λ k. D (entry_at (a ∷ p) k) ≡ true) (sym last) (subst (λ v. D v ≡ true) (end_at a p) ear.ends.1);
      fresh = λ i low high. ear.fresh i 0 (omega (arith, low)) high;
    }

-- and from its places
pub ear_from : (g : Network) (D : ℕ → Bool) (e : List ℕ) (last : ℕ) → length e ≡ suc last → EarAt g D (entry_at e) last → IsEar g D e
ear_from g D [] last len ear = absurd (omega arith)
ear_from g D (a ∷ p) last len ear =
    let at_end : last ≡ length p = omega (arith, len) in
    record {
      three = omega (arith, ear.inner_node, len);
      different = different_from (a ∷ p) (λ i j lt l. ear.distinct i j lt (omega (arith, l, len)));
      linked = walk_from g a p (λ i l. ear.steps i (omega (arith, l, len)));
      ends = (ear.starts, subst (λ v. D v ≡ true) (sym (end_at a p)) (subst (λ k. D (entry_at (a ∷ p) k) ≡ true) at_end ear.ends));
      fresh = λ k d low high. subst (λ v. D v ≡ false) (get_or_default (a ∷ p) k 0 d (omega (arith, high))) (ear.fresh k (omega (arith, low)) (omega (arith, high, len)));
    }

-- what is between the ends is on the ear
pub between_has : (e : List ℕ) (v : ℕ) → between e v ≡ true → has e v ≡ true
between_has e v h = let i = run_gives (entry_at e) 1 (length e - 1) v h in subst (λ w. has e w ≡ true) i.3 (has-at e i.0 0 (omega (arith, i.2)))

-- what is on the ear is an old node or between the ends
pub has_between : (g : Network) (D : ℕ → Bool) (e : List ℕ) → IsEar g D e → (v : ℕ) → has e v ≡ true → (D v ≡ true) ⊎ (between e v ≡ true)
has_between g D e ear v h =
    let at = ear_at g D e ear in
    let i = place_in e v h in
    elim (cases_eq i.0 0) [
      | inl first ↦ inl (subst (λ w. D w ≡ true) (ap (entry_at e) (sym first) ∙ i.2) at.starts)
      | inr later ↦ elim (cases_eq i.0 (length e - 1)) [
        | inl last ↦ inl (subst (λ w. D w ≡ true) (ap (entry_at e) (sym last) ∙ i.2) at.ends)
        | inr before ↦ inr (subst (λ w. between e w ≡ true) i.2 (run_at (entry_at e) 1 (length e - 1) i.0 (omega (arith, later)) (omega (arith, i.1, before))))
      ]
    ]

-- what is between the ends is no old node
pub between_new : (g : Network) (D : ℕ → Bool) (e : List ℕ) → IsEar g D e → (v : ℕ) → between e v ≡ true → D v ≡ false
between_new g D e ear v h = let i = run_gives (entry_at e) 1 (length e - 1) v h in subst (λ w. D w ≡ false) i.3 ((ear_at g D e ear).fresh i.0 i.1 i.2)

-- what is off all the nodes between the ends is not between them
pub between_off : (e : List ℕ) (q : ℕ → Bool) (v : ℕ) → AllWithin (λ w. q w ≡ true) e 1 (length e - 1) → q v ≡ false → between e v ≡ false
between_off e q v all out = false_from_ne_true (between e v) (λ h. let i = run_gives (entry_at e) 1 (length e - 1) v h in both_ways (q v) out (subst (λ w. q w ≡ true) i.3 (all i.0 0 i.1 i.2)))
