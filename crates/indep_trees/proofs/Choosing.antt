-- Parents that are as they were or chosen anew, and trees with chosen parents.
use Rattle.std.proofs.Common.{◌≡◌, ◌⊎◌, ℕ, ◌-◌, ◌^◌, ◌<◌, Bool, true, List, length, set, sym, subst, ap, ◌∙◌, inl, inr, arith, get_or-set_same, get_or-set_other}
use Rattle.std.proofs.lemmas.Bool.{cases_eq}
use Rattle.tomo_base.specs.Network.{Network, linked, IsGraph}
use Rattle.tomo_base.specs.Search.{entry_at}
use Rattle.tomo_base.proofs.Links.{linked_below}
use Rattle.indep_trees.specs.Trees.{IsFree}
use Rattle.indep_trees.specs.Shortening.{IsLow, IsHigh, IsLater, AreChosen}
use Rattle.indep_trees.proofs.Sides.{Side, HasSides}

-- one more parent is chosen
pub chosen_more : (kind : ℕ → ℕ → Type 0) (old now : List ℕ) (v best : ℕ) → v < length now → (best ≡ entry_at now v) ⊎ kind v best → AreChosen kind old now → AreChosen kind old (set now v best)
chosen_more kind old now v best l is chosen u = elim (cases_eq u v) [
  | inl same ↦
      let at : entry_at (set now v best) u ≡ best = ap (entry_at (set now v best)) same ∙ get_or-set_same now v best 0 l in
      elim is [
        | inl kept ↦
            let as_now : entry_at (set now v best) u ≡ entry_at now u = at ∙ (kept ∙ ap (entry_at now) (sym same)) in
            subst (λ z. (z ≡ entry_at old u) ⊎ kind u z) (sym as_now) (chosen u)
        | inr new ↦ inr (subst (λ z. kind u z) (sym at) (subst (λ z. kind z best) (sym same) new))
      ]
  | inr other ↦ subst (λ z. (z ≡ entry_at old u) ⊎ kind u z) (sym (get_or-set_other now v u best 0 other)) (chosen u)
]

-- what is chosen of one kind is chosen of each wider one
pub chosen_as : (kind wider : ℕ → ℕ → Type 0) (old new : List ℕ) → ((v w : ℕ) → kind v w → wider v w) → AreChosen kind old new → AreChosen wider old new
chosen_as kind wider old new widen chosen v = elim (chosen v) [ inl kept ↦ inl kept | inr is ↦ inr (widen v (entry_at new v) is) ]

-- a neighbour below by turned numbers is one above
pub turned_high : (g : Network) → IsGraph g → (number ear down : ℕ → ℕ) → ((v : ℕ) → v < g.nodes → down v ≡ 2 ^ 32 - 1 - number v) → (v w : ℕ) → IsLow g down ear v w → IsHigh g number ear v w
turned_high g graph number ear down turned v w is =
    let ends = linked_below g.nodes g.links v w graph is.0 in
    (is.0, omega (arith, is.1, turned v ends.0, turned w ends.1), is.2)

-- a neighbour below by turned ears is on a later ear
pub turned_later : (g : Network) → IsGraph g → (ear late : ℕ → ℕ) → ((v : ℕ) → v < g.nodes → late v ≡ 2 ^ 32 - 1 - ear v) → (v w : ℕ) → IsLow g late late v w → IsLater g ear v w
turned_later g graph ear late turned v w is =
    let ends = linked_below g.nodes g.links v w graph is.0 in
    (is.0, omega (arith, is.1, turned v ends.0, turned w ends.1))

-- parents that are chosen anew have their sides
pub sides_chosen : (g : Network) (m : ℕ → Bool) (number ear : ℕ → ℕ) (k : ℕ) (parent parent' : ℕ → ℕ → ℕ)
    → ((i v : ℕ) → i < 3 → IsFree g m v → (parent' i v ≡ parent i v) ⊎ ((linked g v (parent' i v) ≡ true) × Side number ear i v (parent' i v)))
    → HasSides g m number ear k parent → HasSides g m number ear k parent'
sides_chosen g m number ear k parent parent' chosen s = record {
  numbers = s.numbers;
  once = s.once;
  ears = s.ears;
  linked = λ i v three free. elim (chosen i v three free) [ inl kept ↦ subst (λ z. linked g v z ≡ true) (sym kept) (s.linked i v three free) | inr new ↦ new.0 ];
  sides = λ i v three free. elim (chosen i v three free) [ inl kept ↦ subst (λ z. Side number ear i v z) (sym kept) (s.sides i v three free) | inr new ↦ new.1 ];
}
