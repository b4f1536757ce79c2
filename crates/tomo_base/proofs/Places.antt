-- A link joins its own ends and those of no other link.
use Rattle.std.proofs.Common.{ℕ, zero, suc, ◌<◌, length, get_or, ◌≡◌, ◌==◌, false, List, [], ◌∷◌, slice_get, Some, None, sym, ap, ap₂, ◌∙◌, inl, inr, arith}
use Rattle.std.proofs.lemmas.Bool.{or_parts, ne_eqb}
use Rattle.std.proofs.lemmas.Option.{slice_get-get_or}
use Rattle.std.proofs.lemmas.Bool.Decides.{nat_tests}
use Rattle.tomo_base.specs.declared.graph.Link.{Link}
use Rattle.tomo_base.specs.Network.{Network, joins, any_joins, AreLinks, IsGraph}
use Rattle.tomo_base.specs.Table.{JoinsAt}
use Rattle.tomo_base.proofs.Links.{joins_gives, joins_comm}
use Rattle.tomo_base.proofs.Entering.{joins_its_ends}
use Rattle.tomo_base.proofs.Rows.{joins-swap}

-- where no link joins two nodes, the one at a place does not
none_at : (ls : List Link) (k a b : ℕ) (x : Link) → any_joins ls a b ≡ false → slice_get ls k ≡ Some x → joins x a b ≡ false
unfolding any_joins
none_at [] k a b x h e = absurd (none e)
  where
    none : None ≡ Some x → ⊥
    none e = cc
none_at (l ∷ ls) zero a b x h e = let same : l ≡ x = cc e in ap (λ y. joins y a b) (sym same) ∙ (or_parts (joins l a b) (any_joins ls a b) h).0
none_at (l ∷ ls) (suc k) a b x h e = none_at ls k a b x (or_parts (joins l a b) (any_joins ls a b) h).1 e

-- one place further, places are equal as before
further : (k i : ℕ) → (k == i) ≡ (suc k == suc i)
further k i = grind (arith, nat_tests)

-- among the links of a graph, the ends of the one at place i are joined by the one at place i alone
at_place : (n : ℕ) (ls : List Link) (i k : ℕ) (l x : Link) → AreLinks n ls → slice_get ls i ≡ Some l → slice_get ls k ≡ Some x → joins x l.a l.b ≡ (k == i)
at_place n [] i k l x w e f = absurd (none f)
  where
    none : None ≡ Some x → ⊥
    none e = cc
at_place n (y ∷ ls) zero zero l x w e f =
    let same : y ≡ l = cc e in
    let here : y ≡ x = cc f in
    ap₂ (λ (u v : Link). joins u v.a v.b) (sym here) (sym same) ∙ joins_its_ends y
at_place n (y ∷ ls) zero (suc k) l x w e f =
    let same : y ≡ l = cc e in
    ap (λ (v : Link). joins x v.a v.b) (sym same) ∙ none_at ls k y.a y.b x w.2 f ∙ sym (ne_eqb (suc k) 0 (λ q. absurd (omega (arith, q))))
at_place n (y ∷ ls) (suc i) zero l x w e f =
    let here : y ≡ x = cc f in
    ap (λ (u : Link). joins u l.a l.b) (sym here) ∙ joins-swap y l ∙ none_at ls i y.a y.b l w.2 e ∙ sym (ne_eqb 0 (suc i) (λ q. absurd (omega (arith, q))))
at_place n (y ∷ ls) (suc i) (suc k) l x w e f = at_place n ls i k l x w.3 e f ∙ further k i

-- so the two nodes that the link at place i joins are joined by that one alone
pub only_joins : (g : Network) (i v w : ℕ) → IsGraph g → JoinsAt g.links i v w → (k : ℕ) (x : Link) → slice_get g.links k ≡ Some x → joins x v w ≡ (k == i)
only_joins g i v w graph at k x e = elim (joins_gives at.0 v w at.2) [
  | inl h ↦ ap₂ (λ a b. joins x a b) (sym h.0) (sym h.1) ∙ at_place g.nodes g.links i k at.0 x graph at.1 e
  | inr h ↦ joins_comm x v w ∙ (ap₂ (λ a b. joins x a b) (sym h.0) (sym h.1) ∙ at_place g.nodes g.links i k at.0 x graph at.1 e)
]

-- the link at a place joins its own ends
pub joins_own : (ls : List Link) (i : ℕ) (d : Link) → i < length ls → JoinsAt ls i (get_or ls i d).a (get_or ls i d).b
joins_own ls i d l = (get_or ls i d, slice_get-get_or ls i d l, joins_its_ends (get_or ls i d))
