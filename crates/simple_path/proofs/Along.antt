-- The sum along a walk, step by step, and the delay of the one link between two nodes.
use Rattle.std.proofs.Common.{◌≡◌, ℕ, zero, suc, ◌+◌, ◌*◌, ◌<◌, ◌≤◌, true, false, List, [], ◌∷◌, length, get_or, drop, take, ◌-◌, IsTrue, slice_get, Some, None, refl, sym, ap, ◌∙◌, subst, inl, inr, arith}
use Rattle.std.proofs.lemmas.Bool.{or_parts, cases_Bool, both_ways}
use Rattle.std.proofs.lemmas.Bool.Decides.{nat_tests}
use Rattle.std.proofs.lemmas.List.{drop_more, drop_all, take_all}
use Rattle.tomo_base.specs.Limits.{summand_limit}
use Rattle.tomo_base.specs.declared.graph.Link.{Link}
use Rattle.tomo_base.specs.Network.{Network, linked, joins, any_joins, AreLinks}
use Rattle.tomo_base.specs.Table.{JoinsAt}
use Rattle.tomo_base.specs.Walks.{StepsFrom}
use Rattle.tomo_base.specs.Identify.{sum_from, delay_between}
use Rattle.tomo_base.proofs.Rows.{any_joins-from}

-- links that join no two nodes have no delay between them
none_between : (ls : List Link) (d : List ℕ) (a b : ℕ) → any_joins ls a b ≡ false → delay_between ls d a b ≡ 0
unfolding any_joins delay_between
none_between [] d a b h = refl
none_between (l ∷ ls) [] a b h = refl
none_between (l ∷ ls) (x ∷ d) a b h =
    let parts : (joins l a b ≡ false) × (any_joins ls a b ≡ false) = or_parts _ _ h in
    rw (parts.0, none_between ls d a b parts.1) refl

-- what joins the same nodes as another link joins its ends
same_ends : (l : Link) (ls : List Link) (a b : ℕ) → joins l a b ≡ true → any_joins ls l.a l.b ≡ any_joins ls a b
unfolding any_joins joins
same_ends l [] a b h = refl
same_ends l (k ∷ ls) a b h = rw (same_ends l ls a b h) (grind (arith, nat_tests))

-- the delay between two nodes is that of the link that joins them
pub one_delay : (n : ℕ) (ls : List Link) (d : List ℕ) (i a b e : ℕ) → AreLinks n ls → JoinsAt ls i a b → i < length d → get_or d i e ≡ delay_between ls d a b
unfolding any_joins delay_between
one_delay n [] d i a b e are at l = absurd (none at.1)
  where
    none : None ≡ Some at.0 → ⊥
    none h = cc
one_delay n (x ∷ ls) [] i a b e are at l = absurd (omega (arith, l))
one_delay n (x ∷ ls) (y ∷ d) zero a b e are at l =
    let here : x ≡ at.0 = cc (at.1) in
    let joined : joins x a b ≡ true = subst (λ k. joins k a b ≡ true) (sym here) at.2 in
    let rest : delay_between ls d a b ≡ 0 = none_between ls d a b (sym (same_ends x ls a b joined) ∙ are.2) in
    rw (joined, rest) (omega arith)
one_delay n (x ∷ ls) (y ∷ d) (suc i) a b e are at l = elim (cases_Bool (joins x a b)) [
  | inl h ↦ absurd (both_ways (any_joins ls a b) (sym (same_ends x ls a b h) ∙ are.2) (any_joins-from ls i a b at))
  | inr h ↦ rw h (omega (arith, one_delay n ls d i a b e are.3 at (omega (arith, l))))
]

-- what is known after k steps of a walk from a: the sum so far, and the node reached
pub record Summing (g : Network) (d : List ℕ) (a : ℕ) (p : List ℕ) (k from sum : ℕ) : Type 0 where
  pub whole : sum + sum_from (delay_between g.links d) from (drop k p) ≡ sum_from (delay_between g.links d) a p
  pub steps : StepsFrom g from (drop k p)
  pub small : sum ≤ k * summand_limit

-- one step more
pub summed : (g : Network) (d : List ℕ) (a : ℕ) (p : List ℕ) (k from sum x e : ℕ) → k < length p → x ≡ delay_between g.links d from (get_or p k e) → x ≤ summand_limit → Summing g d a p k from sum → Summing g d a p (k + 1) (get_or p k e) (sum + x)
unfolding sum_from
summed g d a p k from sum x e l is le s =
    let f : ℕ → ℕ → ℕ = delay_between g.links d in
    let next : sum_from f from (drop k p) ≡ f from (get_or p k e) + sum_from f (get_or p k e) (drop (k + 1) p) = ap (sum_from f from) (drop_more p k e l) in
    let steps : StepsFrom g from (get_or p k e ∷ drop (k + 1) p) = subst (StepsFrom g from) (drop_more p k e l) s.steps in
    record {
      whole = omega (arith, next, s.whole, is);
      steps = steps.1;
      small = omega (arith, s.small, le);
    }

-- the node reached is linked to the next
pub next_linked : (g : Network) (d : List ℕ) (a : ℕ) (p : List ℕ) (k from sum e : ℕ) → k < length p → Summing g d a p k from sum → IsTrue (linked g from (get_or p k e))
next_linked g d a p k from sum e l s = let steps : StepsFrom g from (get_or p k e ∷ drop (k + 1) p) = subst (StepsFrom g from) (drop_more p k e l) s.steps in steps.0

-- at the end the sum is whole
pub all_summed : (g : Network) (d : List ℕ) (a : ℕ) (p : List ℕ) (k from sum : ℕ) → length p ≤ k → Summing g d a p k from sum → sum ≡ sum_from (delay_between g.links d) a p
unfolding sum_from
all_summed g d a p k from sum l s =
    let none : sum_from (delay_between g.links d) from (drop k p) ≡ 0 = ap (sum_from (delay_between g.links d) from) (drop_all k p l) in
    omega (arith, none, s.whole)

-- the number of a link that joins two nodes is a place of the list
pub place_below : (ls : List Link) (i a b : ℕ) → JoinsAt ls i a b → i < length ls
place_below ls i a b at = there ls i at.0 at.1
  where
    there : (ls : List Link) (i : ℕ) (l : Link) → slice_get ls i ≡ Some l → i < length ls
    there [] i l e = absurd (none e)
      where
        none : None ≡ Some l → ⊥
        none h = cc
    there (x ∷ ls) zero l e = omega arith
    there (x ∷ ls) (suc i) l e = omega (arith, there ls i l e)

-- a path is its first node and the rest
pub first_and_rest : (p : List ℕ) → 1 ≤ length p → p ≡ get_or p 0 0 ∷ take (length p - 1) (drop 1 p)
first_and_rest [] l = absurd (omega (arith, l))
first_and_rest (x ∷ p) l = ap (λ q. x ∷ q) (sym (take_all (suc (length p) - 1) p (omega arith)))
