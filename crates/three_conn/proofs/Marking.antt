-- What setting a mark does to the set of marked nodes, to the held nodes, and to those that are not.
use Rattle.std.proofs.Common.{◌≡◌, ℕ, ◌+◌, ◌<◌, ◌⊎◌, Bool, true, false, not, ◌&&◌, ◌==◌, List, length, get_or, set, IsTrue, sym, ap, subst, ◌∙◌, inl, inr, arith, get_or-set_same, get_or-set_other}
use Rattle.std.proofs.lemmas.Bool.{cases_eq, and_right, or_cases, or_left, eqb-true}
use Rattle.std.proofs.lemmas.List.{get_or_default}
use Rattle.tomo_base.specs.Network.{Network, linked}
use Rattle.tomo_base.specs.Search.{mark_of}
use Rattle.tomo_base.specs.Table.{AreHops}
use Rattle.tomo_base.specs.declared.graph.Hop.{Hop}
use Rattle.tomo_base.proofs.Rows.{hop_linked}
use Rattle.gate_search.proofs.Marks.{mark_more}
use Rattle.three_conn.specs.Held.{IsHeld, IsRest}

-- held nodes are held whatever list says so
pub held_same : (g : Network) (w p q : ℕ → Bool) (root : ℕ) → ((v : ℕ) → q v ≡ p v) → IsHeld g w root p → IsHeld g w root q
held_same g w p q root same h = record {
  root_in = h.root_in;
  root_held = same root ∙ h.root_held;
  near = λ v l t. same v ∙ h.near v l t;
  joined = λ c d v rc rd t k. h.joined c d v rc rd (sym (same v) ∙ t) k;
}

-- a node that is held is free no longer
pub rest_less : (w : ℕ → Bool) (held free : List Bool) (u : ℕ) → u < length held → u < length free → IsRest w (mark_of held) (mark_of free) → IsRest w (mark_of (set held u true)) (mark_of (set free u false))
rest_less w held free u lh lf rest v = elim (cases_eq v u) [
  | inl same ↦ rw same (get_or-set_same free u false false lf ∙ sym (and_right (w u) (not (mark_of (set held u true) u)) (ap not (get_or-set_same held u true false lh))))
  | inr other ↦ get_or-set_other free u v false false other ∙ (rest v ∙ ap (λ b. w v && not b) (sym (get_or-set_other held u v true false other)))
]

-- ---- the neighbours of a node

-- one neighbour more has a mark
pub hop_marked : (g : Network) (root : ℕ) (hops : List Hop) (held : List Bool) (i : ℕ) (e : Hop) → AreHops g.links root hops → i < length hops → (get_or hops i e).node < length held
    → mark_of held root ≡ true → ((k : ℕ) (d : Hop) → k < i → mark_of held (get_or hops k d).node ≡ true) → ((v : ℕ) → mark_of held v ≡ true → (v ≡ root) ⊎ IsTrue (linked g root v))
    → (mark_of (set held (get_or hops i e).node true) root ≡ true) × ((k : ℕ) (d : Hop) → k < i + 1 → mark_of (set held (get_or hops i e).node true) (get_or hops k d).node ≡ true)
    × ((v : ℕ) → mark_of (set held (get_or hops i e).node true) v ≡ true → (v ≡ root) ⊎ IsTrue (linked g root v))
hop_marked g root hops held i e are l room here near only =
    let u = (get_or hops i e).node in
    let kept : (v : ℕ) → mark_of held v ≡ true → mark_of (set held u true) v ≡ true = λ v t. mark_more held u v room ∙ or_left (mark_of held v) (v == u) t in
    let new : mark_of (set held u true) u ≡ true = get_or-set_same held u true false room in (
      kept root here,
      (λ k d m. elim (cases_eq k i) [
        | inl same ↦ subst (λ z. mark_of (set held u true) (get_or hops z d).node ≡ true) (sym same) (subst (λ (h : Hop). mark_of (set held u true) h.node ≡ true) (get_or_default hops i e d l) new)
        | inr other ↦ kept (get_or hops k d).node (near k d (omega (arith, m, other)))
      ]),
      (λ v t. elim (or_cases (mark_of held v) (v == u) (sym (mark_more held u v room) ∙ t)) [
        | inl old ↦ only v old
        | inr same ↦ inr (subst (λ z. IsTrue (linked g root z)) (sym (eqb-true v u same)) (hop_linked g root hops i e are l))
      ]),
    )
