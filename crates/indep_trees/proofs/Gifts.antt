-- Values that the nodes between the ends of an ear get, one after the other.
use Rattle.std.proofs.Common.{◌≡◌, ℕ, zero, suc, ◌+◌, ◌-◌, ◌<◌, ◌≤◌, List, length, set, true, false, All, refl, sym, subst, ap, ◌∙◌, inl, inr, arith, get_or-set_same, get_or-set_other, length-set}
use Rattle.std.proofs.lemmas.Bool.{cases_eq, both_ways}
use Rattle.tomo_base.specs.Search.{entry_at}
use Rattle.tomo_base.specs.Walks.{NoneTwice}
use Rattle.ear_order.specs.Turns.{between}
use Rattle.indep_trees.specs.Placing.{AreGiven}
use Rattle.ear_order.proofs.Places.{run_at, run_gives}
use Rattle.ear_order.proofs.Lists.{different_at}

-- none so far
pub given_none : (ear : List ℕ) (gift : ℕ → ℕ) (old : List ℕ) → AreGiven ear gift old 0 old
given_none ear gift old = (refl, λ k l. absurd (omega (arith, l)), λ v out. refl)

module _ (ear : List ℕ) (gift : ℕ → ℕ) (old now : List ℕ) (i : ℕ) (l : i < length ear - 2) (small : All (λ v. v < length old) ear) (given : AreGiven ear gift old i now) where
  -- the node at the next place
  here : entry_at ear (i + 1) < length now
  here = omega (arith, small (i + 1) 0 (omega (arith, l)), given.0)

  -- what the others keep
  others : (v : ℕ) → between ear v ≡ false → entry_at (set now (entry_at ear (i + 1)) (gift i)) v ≡ entry_at old v
  others v out = get_or-set_other now (entry_at ear (i + 1)) v (gift i) 0
      (λ same. both_ways (between ear v) out (subst (λ w. between ear w ≡ true) (sym same) (run_at (entry_at ear) 1 (length ear - 1) (i + 1) (omega arith) (omega (arith, l))))) ∙ given.2 v out

  -- one more, where a node that stands there twice gets one value
  pub given_more : ((k : ℕ) → k < i → entry_at ear (suc k) ≡ entry_at ear (i + 1) → gift k ≡ gift i) → AreGiven ear gift old (i + 1) (set now (entry_at ear (i + 1)) (gift i))
  given_more once = (
    length-set now (entry_at ear (i + 1)) (gift i) ∙ given.0,
    λ k low. elim (cases_eq (entry_at ear (suc k)) (entry_at ear (i + 1))) [
      | inl same ↦ ap (entry_at (set now (entry_at ear (i + 1)) (gift i))) same ∙ (get_or-set_same now (entry_at ear (i + 1)) (gift i) 0 here ∙ elim (cases_eq k i) [
        | inl last ↦ ap gift (sym last)
        | inr before ↦ sym (once k (omega (arith, low, before)) same)
      ])
      | inr other ↦ elim (cases_eq k i) [
        | inl last ↦ absurd (other (let q : suc k ≡ i + 1 = omega (arith, last) in ap (entry_at ear) q))
        | inr before ↦ get_or-set_other now (entry_at ear (i + 1)) (entry_at ear (suc k)) (gift i) 0 other ∙ given.1 k (omega (arith, low, before))
      ]
    ],
    others,
  )

-- in a list without repetition no node stands twice
pub once_only : (ear : List ℕ) (gift : ℕ → ℕ) (i : ℕ) → i < length ear - 2 → NoneTwice ear → (k : ℕ) → k < i → entry_at ear (suc k) ≡ entry_at ear (i + 1) → gift k ≡ gift i
once_only ear gift i l different k low same = absurd (different_at ear different (suc k) (i + 1) (omega (arith, low)) (omega (arith, l)) same)

-- each node between the ends has its place
pub given_between : (ear : List ℕ) (number : ℕ) (old : List ℕ) (i : ℕ) (now : List ℕ) → length ear - 2 ≤ i → AreGiven ear (λ k. number) old i now → (v : ℕ) → between ear v ≡ true → entry_at now v ≡ number
given_between ear number old i now end given v h = let k = run_gives (entry_at ear) 1 (length ear - 1) v h in by k.0 k.1 k.2 k.3
  where
    by : (k : ℕ) → 1 ≤ k → k < length ear - 1 → entry_at ear k ≡ v → entry_at now v ≡ number
    by zero low high e = absurd (omega arith)
    by (suc k) low high e = subst (λ w. entry_at now w ≡ number) e (given.1 k (omega (arith, high, end)))
