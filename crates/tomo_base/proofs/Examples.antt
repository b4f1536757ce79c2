-- The definitions on graphs of three and four nodes: needs, paths, sums, recipes, pockets, and which graphs are 3-connected.
use Rattle.std.proofs.Common.{◌≡◌, ◌≢◌, ℕ, zero, suc, ◌==◌, ◌<◌, ◌≤◌, ◌+◌, subst, true, false, List, [], ◌∷◌, pos, get_or, Some, None, refl, sym, ◌∙◌, IsTrue, arith, inl, inr}
use Rattle.std.proofs.lemmas.Bool.{or_cases, eqb-true, false≢true, both_ways, false_from_ne_true, cases_eq, not-true}
use Rattle.std.proofs.lemmas.Bool.Decides.{nat_tests}
use Rattle.tomo_base.specs.declared.graph.Link.{Link}
use Rattle.tomo_base.specs.Network.{Network, linked, joins, any_joins}
use Rattle.tomo_base.specs.Sets.{has, count, any_below, members, touches, outside, complement, Avoids}
use Rattle.tomo_base.specs.Identify.{IsMonitorPath, sum_along, sum_from, delay_between}
use Rattle.tomo_base.specs.Walks.{everything, Reaches}
use Rattle.tomo_base.specs.Pockets.{need_of, Shows, IsPocket}
use Rattle.tomo_base.specs.Recipes.{IsRecipe, gains, losses, weighted, uses_of}
use Rattle.tomo_base.specs.Cuts.{extended, IsThreeConnected}

-- the chain 0 1 2
abbrev pub two_links : Network
two_links = record { nodes = 3; links = record { a = 0; b = 1 } ∷ record { a = 1; b = 2 } ∷ [] }

-- four nodes, each linked to each
abbrev pub complete_four : Network
complete_four = record {
  nodes = 4;
  links = record { a = 0; b = 1 } ∷ record { a = 0; b = 2 } ∷ record { a = 0; b = 3 } ∷ record { a = 1; b = 2 } ∷ record { a = 1; b = 3 } ∷ record { a = 2; b = 3 } ∷ [];
}

-- the same without the link between 0 and 3
abbrev pub five_links : Network
five_links = record {
  nodes = 4;
  links = record { a = 0; b = 1 } ∷ record { a = 0; b = 2 } ∷ record { a = 1; b = 2 } ∷ record { a = 1; b = 3 } ∷ record { a = 2; b = 3 } ∷ [];
}

-- the middle node alone has two outside neighbours and the need 1
middle_need : need_of two_links (has (1 ∷ [])) ≡ 1
unfolding count touches any_below any_joins joins has
middle_need = refl

-- the last two nodes have one outside neighbour and the need 2
tail_need : need_of two_links (has (1 ∷ 2 ∷ [])) ≡ 2
unfolding count touches any_below any_joins joins has
tail_need = refl

-- all three have none, and the need 3
whole_need : need_of two_links everything ≡ 3
unfolding count touches any_below any_joins joins has
whole_need = refl

-- the neighbours of the middle node
outside_middle : members 3 (outside two_links (has (1 ∷ []))) ≡ 0 ∷ 2 ∷ []
unfolding members touches any_below any_joins joins has
outside_middle = refl

-- the whole chain is a monitor path for its two ends
end_to_end : IsMonitorPath two_links (has (0 ∷ 2 ∷ [])) (0 ∷ 1 ∷ 2 ∷ [])
unfolding any_joins joins has
end_to_end = record { two = omega arith; different = (refl, (refl, (refl, tt))); linked = (refl, (refl, tt)); ends = (refl, refl) }

-- the sum along it
its_sum : sum_along two_links (5 ∷ 7 ∷ []) (0 ∷ 1 ∷ 2 ∷ []) ≡ 12
unfolding sum_from delay_between joins
its_sum = refl

-- twice the path 0 1 is a recipe for link 0
recipe : IsRecipe two_links.links 0 ((pos 2, 0 ∷ 1 ∷ []) ∷ [])
unfolding weighted uses_of sum_from joins
recipe zero l h = refl' l h
  where
    refl' : (l : Link) → Some (let k : Link = record { a = 0; b = 1 } in k) ≡ Some l → gains l ((pos 2, 0 ∷ 1 ∷ []) ∷ []) ≡ losses l ((pos 2, 0 ∷ 1 ∷ []) ∷ []) + 2
    refl' l h = let same : (let k : Link = record { a = 0; b = 1 } in k) ≡ l = cc h in subst (λ x. gains x ((pos 2, 0 ∷ 1 ∷ []) ∷ []) ≡ losses x ((pos 2, 0 ∷ 1 ∷ []) ∷ []) + 2) same refl
recipe (suc zero) l h = let same : (let k : Link = record { a = 1; b = 2 } in k) ≡ l = cc h in subst (λ x. gains x ((pos 2, 0 ∷ 1 ∷ []) ∷ []) ≡ losses x ((pos 2, 0 ∷ 1 ∷ []) ∷ []) + 0) same refl
recipe (suc (suc k)) l h = absurd (none l h)
  where
    none : (l : Link) → None ≡ Some l → ⊥
    none l e = cc

-- three pockets of one node show that three monitors are needed
three : Shows two_links ((0 ∷ []) ∷ (1 ∷ []) ∷ (2 ∷ []) ∷ []) 3
unfolding has count touches any_below any_joins joins
three = record { pockets = each; disjoint = apart; total = refl }
  where
    two : 2 ≤ 2
    two = omega arith

    one : 1 ≤ 2
    one = omega arith

    some : 1 ≤ 1
    some = omega arith

    each : (k : ℕ) (d : List ℕ) → k < 3 → IsPocket two_links (has (get_or ((0 ∷ []) ∷ (1 ∷ []) ∷ (2 ∷ []) ∷ []) k d))
    each zero d l = record { nonempty = some; few = one }
    each (suc zero) d l = record { nonempty = some; few = two }
    each (suc (suc zero)) d l = record { nonempty = some; few = one }
    each (suc (suc (suc k))) d l = absurd (omega arith)

    only : (x y : ℕ) → IsTrue (has (x ∷ []) y) → x ≡ y
    only x y s = elim (or_cases (x == y) false s) [ inl e ↦ eqb-true x y e | inr e ↦ absurd (false≢true e) ]

    not_in : (x y v : ℕ) → (x ≡ y → ⊥) → IsTrue (has (x ∷ []) v) → has (y ∷ []) v ≡ false
    not_in x y v ne h = false_from_ne_true (has (y ∷ []) v) (λ k. ne (only x v h ∙ sym (only y v k)))

    apart : (i j : ℕ) (d : List ℕ) → i < j → j < 3 → Avoids two_links (has (get_or ((0 ∷ []) ∷ (1 ∷ []) ∷ (2 ∷ []) ∷ []) i d)) (has (get_or ((0 ∷ []) ∷ (1 ∷ []) ∷ (2 ∷ []) ∷ []) j d))
    apart zero (suc zero) d l m v b h = not_in 0 1 v (λ e. omega (arith, e)) h
    apart zero (suc (suc zero)) d l m v b h = not_in 0 2 v (λ e. omega (arith, e)) h
    apart (suc zero) (suc (suc zero)) d l m v b h = not_in 1 2 v (λ e. omega (arith, e)) h
    apart i j d l m v b h = absurd (omega arith)

-- the extended graph of the chain with the ends as monitors
grown : extended two_links (0 ∷ 2 ∷ []) ≡ record { nodes = 5; links = record { a = 0; b = 1 } ∷ record { a = 1; b = 2 } ∷ record { a = 0; b = 3 } ∷ record { a = 0; b = 4 } ∷ record { a = 2; b = 3 } ∷ record { a = 2; b = 4 } ∷ [] }
grown = refl

-- each two of the four nodes are linked
pub four_linked : (a b : ℕ) → a < 4 → b < 4 → a ≢ b → linked complete_four a b ≡ true
unfolding any_joins joins
four_linked zero zero l k ne = absurd (ne refl)
four_linked zero (suc zero) l k ne = refl
four_linked zero (suc (suc zero)) l k ne = refl
four_linked zero (suc (suc (suc zero))) l k ne = refl
four_linked (suc zero) zero l k ne = refl
four_linked (suc zero) (suc zero) l k ne = absurd (ne refl)
four_linked (suc zero) (suc (suc zero)) l k ne = refl
four_linked (suc zero) (suc (suc (suc zero))) l k ne = refl
four_linked (suc (suc zero)) zero l k ne = refl
four_linked (suc (suc zero)) (suc zero) l k ne = refl
four_linked (suc (suc zero)) (suc (suc zero)) l k ne = absurd (ne refl)
four_linked (suc (suc zero)) (suc (suc (suc zero))) l k ne = refl
four_linked (suc (suc (suc zero))) zero l k ne = refl
four_linked (suc (suc (suc zero))) (suc zero) l k ne = refl
four_linked (suc (suc (suc zero))) (suc (suc zero)) l k ne = refl
four_linked (suc (suc (suc zero))) (suc (suc (suc zero))) l k ne = absurd (ne refl)
four_linked a b l k ne = absurd (omega arith)

-- the complete graph of four nodes is 3-connected
four_is : IsThreeConnected complete_four
four_is = record {
  four = omega arith;
  whole = λ c few a b la lb ta tb. elim (cases_eq a b) [
    | inl e ↦ ([], tt, tt, e)
    | inr ne ↦ (b ∷ [], (four_linked a b la lb ne, tt), (tb, tt), refl)
  ];
}

-- where the link between 0 and 3 is missing, node 0 has the neighbours 1 and 2
neighbours_of_0 : (b : ℕ) → linked five_links 0 b ≡ true → has (1 ∷ 2 ∷ []) b ≡ true
unfolding any_joins joins has
neighbours_of_0 b l = grind (arith, nat_tests)

-- so it is not 3-connected: nodes 1 and 2 part its ends
five_is_not : IsThreeConnected five_links → ⊥
unfolding count has
five_is_not h = parted (h.whole (has (1 ∷ 2 ∷ [])) (omega arith) 0 3 (omega arith) (omega arith) refl refl)
  where
    parted : Reaches five_links (complement (has (1 ∷ 2 ∷ []))) 0 3 → ⊥
    parted ([], steps, within, ends) = absurd (omega (arith, ends))
    parted (b ∷ p, steps, within, ends) = both_ways (has (1 ∷ 2 ∷ []) b) (not-true _ within.0) (neighbours_of_0 b steps.0)
