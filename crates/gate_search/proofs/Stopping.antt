-- Room for a search: what a search leaves, and how its ranks are taken away again.
use Rattle.std.proofs.Common.{◌≡◌, ℕ, zero, suc, ◌+◌, ◌<◌, ◌≤◌, Bool, true, List, [], ◌∷◌, ◌++◌, length, set, replicate, All, IsTrue, refl, sym, ap, subst, ◌∙◌, inl, inr, arith, length-set, get_or-set_same, get_or-set_other}
use Rattle.std.proofs.lemmas.Bool.{cases_eq, cases_lt}
use Rattle.std.proofs.lemmas.List.{ext_get_or, length-replicate, get_or-replicate, get_or_default}
use Rattle.tomo_base.specs.Network.{Network}
use Rattle.tomo_base.specs.Sets.{has}
use Rattle.tomo_base.specs.Search.{mark_of, entry_at, IsSearch}
use Rattle.tomo_base.specs.declared.search.Swept.{Swept}
use Rattle.tomo_base.proofs.Ascending.{place_in, has-at}
use Rattle.gate_search.specs.Stops.{IsRoom}
use Rattle.tomo_base.proofs.Ranks.{ranks_more, none_ranked}
use Rattle.tomo_base.proofs.Planting.{planted}

-- a search leaves room
pub searched_room : (g : Network) (free : List Bool) (seeds : List ℕ) (head : ℕ) (s : Swept) → IsSearch g free seeds head s.order.items s.parent.items s.rank.items → IsRoom g.nodes s
searched_room g free seeds head s search = record {
  parents = search.parents;
  ranks = search.ranks.one_each;
  nodes = λ k d l. subst (λ z. z < g.nodes) (get_or_default s.order.items k 0 d l) (search.ranks.ranked k l).0;
  most = search.ranks.most;
  placed = search.ranks.placed;
}

-- ranks that are taken away: the nodes of the order before the place i have lost theirs
pub record IsForgotten (n : ℕ) (order : List ℕ) (i : ℕ) (rank : List ℕ) : Type 0 where
  pub ranks : length rank ≡ n
  pub most : (v : ℕ) → v < n → entry_at rank v ≤ n
  pub placed : (v : ℕ) → v < n → entry_at rank v < n → (i ≤ entry_at rank v) × (entry_at rank v < length order) × (entry_at order (entry_at rank v) ≡ v)

-- before the first
pub forgotten_none : (n : ℕ) (s : Swept) → IsRoom n s → IsForgotten n s.order.items 0 s.rank.items
forgotten_none n s room = record {
  ranks = room.ranks;
  most = room.most;
  placed = λ v l r. let at = room.placed v l r in (omega arith, at.0, at.1);
}

-- one rank more
pub forgotten_more : (n : ℕ) (order : List ℕ) (i u : ℕ) (rank : List ℕ) → u ≡ entry_at order i → u < n → IsForgotten n order i rank → IsForgotten n order (i + 1) (set rank u n)
forgotten_more n order i u rank here node f =
    let room : u < length rank = omega (arith, node, f.ranks) in
    record {
      ranks = length-set rank u n ∙ f.ranks;
      most = λ v l. elim (cases_eq v u) [
        | inl same ↦ rw (same, get_or-set_same rank u n 0 room) (omega arith)
        | inr other ↦ rw (get_or-set_other rank u v n 0 other) (f.most v l)
      ];
      placed = λ v l r. elim (cases_eq v u) [
        | inl same ↦ let new : entry_at (set rank u n) v ≡ n = ap (entry_at (set rank u n)) same ∙ get_or-set_same rank u n 0 room in absurd (omega (arith, new, r))
        | inr other ↦
            let kept : entry_at (set rank u n) v ≡ entry_at rank v = get_or-set_other rank u v n 0 other in
            let at = f.placed v l (omega (arith, r, kept)) in
            let later : i ≡ entry_at rank v → ⊥ = λ same. other (sym at.2 ∙ (ap (entry_at order) (sym same) ∙ sym here)) in
            rw kept (omega (arith, at.0, later), at.1, at.2)
      ];
    }

-- at the end none is left
pub forgotten_all : (n : ℕ) (order : List ℕ) (i : ℕ) (rank : List ℕ) → length order ≤ i → IsForgotten n order i rank → rank ≡ replicate n n
forgotten_all n order i rank all f = ext_get_or 0 rank (replicate n n) (f.ranks ∙ sym (length-replicate n n)) (λ v l.
    let node : v < n = omega (arith, l, f.ranks) in
    let bare : entry_at rank v ≡ n = elim (cases_lt (entry_at rank v) n) [
      | inl r ↦ let at = f.placed v node r in absurd (omega (arith, at.0, at.1, all))
      | inr ge ↦ omega (arith, ge, f.most v node)
    ] in
    bare ∙ sym (get_or-replicate n v n 0 node))

-- a search that has reached one node
pub begun : (g : Network) (free : List Bool) (x : ℕ) (order parent rank : List ℕ) → x < g.nodes → mark_of free x ≡ true → length parent ≡ g.nodes → rank ≡ replicate g.nodes g.nodes
    → order ≡ [] → IsSearch g free (x ∷ []) 0 (order ++ x ∷ []) (set parent x x) (set rank x (length order))
begun g free x order parent rank node is_free parents bare none =
    rw (none, bare)
    (planted g free (x ∷ []) (record { order = x ∷ []; parent = set parent x x; rank = set (replicate g.nodes g.nodes) x 0 }) refl
    (ranks_more g.nodes x free [] (replicate g.nodes g.nodes) (none_ranked g.nodes free) node (omega (arith, get_or-replicate g.nodes x g.nodes 0 node)) is_free)
    (length-set parent x x ∙ parents)
    (All-one (λ v. entry_at (set parent x x) v ≡ v) x (get_or-set_same parent x x 0 (omega (arith, node, parents)))))
  where
    All-one : (P : ℕ → Type 0) (y : ℕ) → P y → All P (y ∷ [])
    All-one P y h zero d l = h
    All-one P y h (suc k) d l = absurd (omega (arith, l))

-- at the start room has no ranks
pub new_room : (n : ℕ) (s : Swept) → s.order.items ≡ [] → s.parent.items ≡ replicate n 0 → s.rank.items ≡ replicate n n → IsRoom n s
new_room n s none parents ranks = record {
  parents = ap length parents ∙ length-replicate n 0;
  ranks = ap length ranks ∙ length-replicate n n;
  nodes = rw none (λ k d l. absurd (omega (arith, l)));
  most = λ v l. omega (arith, bare v l);
  placed = λ v l r. absurd (omega (arith, bare v l, r));
}
  where
    bare : (v : ℕ) → v < n → entry_at s.rank.items v ≡ n
    bare v l = ap (λ xs. entry_at xs v) ranks ∙ get_or-replicate n v n 0 l

-- one node more was looked at
pub passed_more : (P : ℕ → Type 0) (old new : List ℕ) (i : ℕ) → ((k : ℕ) → k < i + 1 → entry_at new k ≡ entry_at old k) → ((k : ℕ) → k < i → P (entry_at old k)) → P (entry_at old i) → (k : ℕ) → k < i + 1 → P (entry_at new k)
passed_more P old new i kept before here k l = subst P (sym (kept k l)) (elim (cases_eq k i) [
  | inl same ↦ subst (λ z. P (entry_at old z)) (sym same) here
  | inr other ↦ before k (omega (arith, l, other))
])

-- what stands in an order stands in a longer one
pub still_there : (old new : List ℕ) (v : ℕ) → length old ≤ length new → ((k : ℕ) → k < length old → entry_at new k ≡ entry_at old k) → IsTrue (has old v) → IsTrue (has new v)
still_there old new v longer kept h =
    let at = place_in old v h in
    subst (λ z. IsTrue (has new z)) (kept at.0 at.1 ∙ at.2) (has-at new at.0 0 (omega (arith, at.1, longer)))
