-- One search in a set without two of its nodes: a side, or the rest is connected.
use Rattle.std.proofs.Common.{◌≡◌, ℕ, ◌<◌, ◌≤◌, Bool, true, false, List, [], ◌∷◌, length, Option, Some, None, is_some, IfSome, IfNone, refl, sym, ◌∙◌, inl, inr, arith}
use Rattle.std.proofs.lemmas.Bool.{cases_Bool, both_ways}
use Rattle.tomo_base.specs.Network.{Network, IsGraph}
use Rattle.tomo_base.specs.Sets.{has}
use Rattle.tomo_base.specs.Walks.{IsConnectedIn}
use Rattle.tomo_base.specs.Search.{mark_of, entry_at, IsSweep}
use Rattle.tomo_base.specs.declared.search.Swept.{Swept}
use Rattle.tomo_base.specs.Parting.{without_two}
use Rattle.three_conn.specs.Parting.{IsParted}
use Rattle.tomo_base.proofs.Walks.{Reaches-within, stays_in, connected_by}
use Rattle.gate_search.proofs.Trees.{ranked_in, free_in, first_in, order_closed}
use Rattle.tomo_base.proofs.Reached.{search_reaches}

-- what two nodes part is not connected without them
pub parted_apart : (g : Network) (w side : ℕ → Bool) (c d : ℕ) → IsParted g w side c d → IsConnectedIn g (without_two w c d) → ⊥
parted_apart g w side c d p connected =
    let a = p.some in
    let b = p.rest in
    both_ways (side b.0) b.3 (stays_in g (without_two w c d) side a.0 b.0 p.shut a.2 (connected a.0 b.0 a.1 b.1 (p.inside a.0 a.2) b.2))

module _ (g : Network) (free : List Bool) (w : ℕ → Bool) (c d x : ℕ) (s : Swept) (graph : IsGraph g) (sweep : IsSweep g free (x ∷ []) s) (are : (v : ℕ) → mark_of free v ≡ without_two w c d v) (node : x < g.nodes) where
  -- a free node that the search has not reached
  pub missed_parts : (v : ℕ) → v < g.nodes → mark_of free v ≡ true → g.nodes ≤ entry_at s.rank.items v → IsParted g w (has s.order.items) c d
  missed_parts v l t out = record {
    inside = λ u k. sym (are u) ∙ free_in g free x (length s.order.items) s graph sweep u k;
    shut = λ a b k j i. order_closed g free x (length s.order.items) s graph sweep (omega arith) a b k j (are b ∙ i);
    some = (x, node, first_in g free x (length s.order.items) s graph sweep);
    rest = (
      v,
      l,
      sym (are v) ∙ t,
      elim (cases_Bool (has s.order.items v)) [
        | inl k ↦ let r = ranked_in g free x (length s.order.items) s graph sweep v k in absurd (omega (arith, r.1, out, sweep.parents))
        | inr k ↦ k
      ],
    );
  }

  -- where all are reached, they are connected
  pub reached_connected : mark_of free x ≡ true → ((v : ℕ) → mark_of free v ≡ true → entry_at s.rank.items v < g.nodes) → IsConnectedIn g (without_two w c d)
  reached_connected t all = connected_by g (without_two w c d) x (sym (are x) ∙ t) (λ v l k.
      Reaches-within g (mark_of free) (without_two w c d) x v (λ u i. sym (are u) ∙ i)
      (search_reaches g free x (length s.order.items) s.order.items s.parent.items s.rank.items graph sweep v l (all v (are v ∙ k))))

-- a set without nodes is connected
pub none_connected : (g : Network) (free : List Bool) (q : ℕ → Bool) → ((v : ℕ) → mark_of free v ≡ q v) → ((v : ℕ) → mark_of free v ≡ false) → IsConnectedIn g q
none_connected g free q are none = λ a b la lb ta tb. absurd (both_ways (q a) (sym (are a) ∙ none a) ta)

-- what a search for a missed node answered
pub some_missed : (P : ℕ → Type 0) (o : Option ℕ) → is_some o ≡ true → IfSome o P → (v : ℕ) × P v
some_missed P (Some v) e h = (v, h)
some_missed P None e h = absurd (both_ways false refl e)

pub none_missed : (A : Type 0) (o : Option ℕ) → is_some o ≡ false → IfNone o A → A
none_missed A (Some v) e h = absurd (both_ways true e refl)
none_missed A None e h = h
