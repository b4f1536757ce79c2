-- Nodes that were met in a turn, and paths by place.
use Rattle.std.proofs.Common.{refl, ◌≡◌, ◌≤◌, ◌<◌, ◌+◌, ◌-◌, ◌==◌, ◌||◌, ◌∷◌, [], ℕ, suc, false, List, length, take, set, get_or, All, sym, subst, ◌∙◌, inl, inr, arith, length-set, get_or-set_same, get_or-set_other}
use Rattle.std.proofs.lemmas.Bool.{cases_eq, eq-eqb, ne_eqb, cases_lt}
use Rattle.tomo_base.specs.Network.{Network, IsGraph}
use Rattle.tomo_base.specs.Search.{entry_at}
use Rattle.tomo_base.specs.Sets.{has}
use Rattle.tomo_base.specs.Walks.{IsWalk}
use Rattle.tomo_base.proofs.Ascending.{has-more, All-from_has, place_in}
use Rattle.tomo_base.proofs.Links.{linked_below}
use Rattle.tomo_base.proofs.Paths.{walk_at, end_at}
use Rattle.plan_form.specs.Good.{EndsAscend}

-- the first i nodes of the path, and no others, were met in this turn
pub record IsMet (n : ℕ) (path : List ℕ) (i turn : ℕ) (last : List ℕ) : Type 0 where
  pub size : length last ≡ n
  pub now : (w : ℕ) → (entry_at last w == turn) ≡ has (take i path) w
  pub earlier : (w : ℕ) → entry_at last w < turn + 1

-- at first none was
pub met_none : (path : List ℕ) (turn : ℕ) (last : List ℕ) → ((w : ℕ) → entry_at last w < turn) → IsMet (length last) path 0 turn last
unfolding has
met_none path turn last before = record {
  size = refl;
  now = λ w. ne_eqb (entry_at last w) turn (λ same. absurd (omega (arith, same, before w)));
  earlier = λ w. omega (arith, before w);
}

-- one node more
pub met_more : (n : ℕ) (path : List ℕ) (i turn : ℕ) (last : List ℕ) → i < length path → get_or path i 0 < n → IsMet n path i turn last → IsMet n path (i + 1) turn (set last (get_or path i 0) turn)
met_more n path i turn last l node met =
    let v = get_or path i 0 in
    let room : v < length last = omega (arith, node, met.size) in
    record {
      size = length-set last v turn ∙ met.size;
      now = λ w. here v w room ∙ has-more (λ u. entry_at last u == turn) (λ u. false) path i 0 v w l refl (met.now w);
      earlier = λ w. elim (cases_eq w v) [
        | inl same ↦ rw (same, get_or-set_same last v turn 0 room) (omega arith)
        | inr other ↦ rw (get_or-set_other last v w turn 0 other) (met.earlier w)
      ];
    }
  where
    here : (v w : ℕ) → v < length last → (entry_at (set last v turn) w == turn) ≡ ((v == w) || (entry_at last w == turn))
    here v w room = elim (cases_eq w v) [
      | inl same ↦ rw (same, get_or-set_same last v turn 0 room, eq-eqb turn turn refl, eq-eqb v v refl) refl
      | inr other ↦ rw (get_or-set_other last v w turn 0 other, ne_eqb v w (λ e. other (sym e))) refl
    ]

-- the nodes of a walk of two or more are nodes of the graph
pub walk_below : (g : Network) (path : List ℕ) → IsGraph g → 2 ≤ length path → IsWalk g path → All (λ v. v < g.nodes) path
walk_below g path graph two walk = All-from_has (λ v. v < g.nodes) path (λ v there.
    let at = place_in path v there in
    subst (λ u. u < g.nodes) at.2 (node at.0 at.1))
  where
    node : (k : ℕ) → k < length path → get_or path k 0 < g.nodes
    node k l = elim (cases_lt (suc k) (length path)) [
      | inl more ↦ (linked_below g.nodes g.links _ _ graph (walk_at g path walk k more)).0
      | inr last ↦
          let e : suc (k - 1) ≡ k = omega (arith, last, two, l) in
          (linked_below g.nodes g.links (get_or path (k - 1) 0) (get_or path k 0) graph (rw e at (walk_at g path walk (k - 1) (omega (arith, e, l))))).1
    ]

-- the ends of a list ascend, by place
pub ends_ascend_at : (path : List ℕ) → EndsAscend path → get_or path 0 0 < get_or path (length path - 1) 0
ends_ascend_at [] up = elim up [ ]
ends_ascend_at (a ∷ p) up = let e : suc (length p) - 1 ≡ length p = omega arith in rw (e, sym (end_at a p)) up

pub ends_ascend_from : (path : List ℕ) → 0 < length path → get_or path 0 0 < get_or path (length path - 1) 0 → EndsAscend path
ends_ascend_from [] some up = omega (arith, some)
ends_ascend_from (a ∷ p) some up = let e : suc (length p) - 1 ≡ length p = omega arith in rw (end_at a p) (rw e at up)
