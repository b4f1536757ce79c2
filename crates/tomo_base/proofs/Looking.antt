-- A search looks at the neighbours of one node after the other, and reaches those that are free and have no rank.
use Rattle.std.proofs.Common.{◌≡◌, ◌≢◌, ℕ, ◌+◌, ◌<◌, ◌≤◌, Bool, true, List, [], ◌∷◌, ◌++◌, length, get_or, set, IsTrue, sym, ap, ◌∙◌, inl, inr, arith, subst, length-set, get_or-set_same, get_or-set_other}
use Rattle.std.proofs.lemmas.Bool.{cases_eq, cases_lt}
use Rattle.std.proofs.lemmas.List.{length_push, get_or_default}
use Rattle.tomo_base.specs.declared.graph.Hop.{Hop}
use Rattle.tomo_base.specs.Network.{Network, linked, any_joins, IsGraph}
use Rattle.tomo_base.specs.Table.{JoinsAt, AreHops}
use Rattle.tomo_base.specs.Search.{mark_of, entry_at, AreRanked, IsSearch}
use Rattle.tomo_base.proofs.Links.{linked_below}
use Rattle.tomo_base.proofs.Rows.{any_joins_gives, any_joins-from}
use Rattle.tomo_base.specs.declared.search.Swept.{Swept}
use Rattle.tomo_base.proofs.Lists.{at_before, at_last}
use Rattle.tomo_base.proofs.Ranks.{room_for, ranked_differs, ranks_more}

-- the state of a search: the nodes reached so far in their order, and the parent and the rank of each node
pub record State : Type 0 where
  pub order : List ℕ
  pub parent : List ℕ
  pub rank : List ℕ

-- what a search has found so far is its state
abbrev pub state_of : Swept → State
state_of s = record { order = s.order.items; parent = s.parent.items; rank = s.rank.items }

-- the node w is reached from u
abbrev pub reached : ℕ → ℕ → State → State
reached w u s = record { order = s.order ++ w ∷ []; parent = set s.parent w u; rank = set s.rank w (length s.order) }

-- a search from the seeds is in this state
abbrev pub Searches : Network → List Bool → List ℕ → ℕ → State → Type 0
Searches g free seeds head s = IsSearch g free seeds head s.order s.parent s.rank

-- a free neighbour, without rank, of the node at hand is reached
pub search_more : (g : Network) (free : List Bool) (seeds : List ℕ) (head w : ℕ) (s : State) → Searches g free seeds head s → head < length s.order
    → w < g.nodes → IsTrue (linked g (entry_at s.order head) w) → mark_of free w ≡ true → g.nodes ≤ entry_at s.rank w → Searches g free seeds head (reached w (entry_at s.order head) s)
search_more g free seeds head w s is place below link is_free bare =
    let n = g.nodes in
    let u = entry_at s.order head in
    let room : length s.order < n = room_for n w free s.order s.rank is.ranks below bare in
    let size : w < length s.rank = omega (arith, below, is.ranks.one_each) in
    let room_in_parents : w < length s.parent = omega (arith, below, is.parents) in
    let other : (k : ℕ) → k < length s.order → entry_at s.order k ≢ w = λ k l. ranked_differs n s.rank (entry_at s.order k) w (omega (arith, (is.ranks.ranked k l).1, l, room)) bare in
    let few : (k : ℕ) → k < length seeds → k < length s.order = λ k l. (is.begins k l).0 in
    record {
      ranks = ranks_more n w free s.order s.rank is.ranks below bare is_free;
      parents = length-set s.parent w u ∙ is.parents;
      begins = λ k l. (omega (arith, few k l, length_push s.order w), at_before s.order w k (few k l) ∙ (is.begins k l).1);
      roots = λ k l. rw (at_before s.order w k (few k l), get_or-set_other s.parent w (entry_at s.order k) u 0 (other k (few k l))) (is.roots k l);
      steps = λ k least l. elim (cases_lt k (length s.order)) [
        | inl lt ↦
            let old = is.steps k least lt in
            let p = entry_at s.parent (entry_at s.order k) in
            let differs : p ≢ w = ranked_differs n s.rank p w (omega (arith, old.0, lt, room)) bare in
            rw (at_before s.order w k lt, get_or-set_other s.parent w (entry_at s.order k) u 0 (other k lt), get_or-set_other s.rank w p (length s.order) 0 differs) old
        | inr ge ↦
            let last : k ≡ length s.order = omega (arith, l, ge, length_push s.order w) in
            let small : entry_at s.rank u < k = omega (arith, (is.ranks.ranked head place).1, place, last) in
            rw (at_last s.order w k last, get_or-set_same s.parent w u 0 room_in_parents, get_or-set_other s.rank w u (length s.order) 0 (other head place)) (small, link)
      ];
      closed = λ k v before joined v_free.
          let old : entry_at s.rank v < n = is.closed k v before (rw (at_before s.order w k (omega (arith, before, place))) at joined) v_free in
          let differs : v ≢ w = ranked_differs n s.rank v w old bare in
          omega (arith, old, get_or-set_other s.rank w v (length s.order) 0 differs);
    }

-- what is known while a search that began in the state `start` looks at the hops of the node v at the place `head`
pub record Looking (g : Network) (free : List Bool) (head : ℕ) (start : State) (hops : List Hop) (i v : ℕ) (s : State) : Type 0 where
  pub ranks : AreRanked g.nodes free s.order s.rank
  pub parents : length s.parent ≡ g.nodes
  pub place : head < length s.order
  pub node : entry_at s.order head ≡ v
  pub searches : (seeds : List ℕ) → Searches g free seeds head start → Searches g free seeds head s
  pub looked : (k : ℕ) (d : Hop) → k < i → mark_of free (get_or hops k d).node ≡ true → entry_at s.rank (get_or hops k d).node < g.nodes

-- a hop to a node that is not free, or that has its rank
pub looking_past : (g : Network) (free : List Bool) (head : ℕ) (start : State) (hops : List Hop) (i v : ℕ) (s : State) (e : Hop) → i < length hops
    → (mark_of free (get_or hops i e).node ≡ true → entry_at s.rank (get_or hops i e).node < g.nodes) → Looking g free head start hops i v s → Looking g free head start hops (i + 1) v s
looking_past g free head start hops i v s e l known is = record {
  ranks = is.ranks;
  parents = is.parents;
  place = is.place;
  node = is.node;
  searches = is.searches;
  looked = λ k d before. elim (cases_eq k i) [
    | inl same ↦ rw (same, sym (get_or_default hops i e d l)) known
    | inr other ↦ is.looked k d (omega arith)
  ];
}

-- a hop to a free node without rank
pub looking_more : (g : Network) (free : List Bool) (head : ℕ) (start : State) (hops : List Hop) (i v w : ℕ) (s : State) (e : Hop) → IsGraph g → AreHops g.links v hops → i < length hops
    → (get_or hops i e).node ≡ w → mark_of free w ≡ true → g.nodes ≤ entry_at s.rank w → Looking g free head start hops i v s → Looking g free head start hops (i + 1) v (reached w v s)
looking_more g free head start hops i v w s e graph are l hop_is is_free bare is =
    let joined : any_joins g.links v w ≡ true = any_joins-from g.links (get_or hops i e).link v w (subst (λ x. JoinsAt g.links (get_or hops i e).link v x) hop_is (are.sound i e l)) in
    let below : w < g.nodes = (linked_below g.nodes g.links v w graph joined).1 in
    let size : w < length s.rank = omega (arith, below, is.ranks.one_each) in
    let room : length s.order < g.nodes = room_for g.nodes w free s.order s.rank is.ranks below bare in
    record {
      ranks = ranks_more g.nodes w free s.order s.rank is.ranks below bare is_free;
      parents = length-set s.parent w v ∙ is.parents;
      place = omega (arith, is.place, length_push s.order w);
      node = at_before s.order w head is.place ∙ is.node;
      searches = λ seeds before. subst (λ u. Searches g free seeds head (reached w u s)) is.node
          (search_more g free seeds head w s (is.searches seeds before) is.place below (rw is.node joined) is_free bare);
      looked = λ k d before k_free. elim (cases_eq (get_or hops k d).node w) [
        | inl same ↦ rw (same, get_or-set_same s.rank w (length s.order) 0 size) room
        | inr other ↦ rw (get_or-set_other s.rank w (get_or hops k d).node (length s.order) 0 other) (elim (cases_eq k i) [
          | inl at_i ↦ absurd (other (ap (λ x. (get_or hops x d).node) at_i ∙ (ap (λ (h : Hop). h.node) (get_or_default hops i d e l) ∙ hop_is)))
          | inr before_i ↦ is.looked k d (omega arith) k_free
        ])
      ];
    }

-- after all hops the search has looked at one node more
pub looking_done : (g : Network) (free : List Bool) (head : ℕ) (start : State) (hops : List Hop) (v : ℕ) (s : State) (seeds : List ℕ) → AreHops g.links v hops
    → Looking g free head start hops (length hops) v s → Searches g free seeds head start → Searches g free seeds (head + 1) s
looking_done g free head start hops v s seeds are is before =
    let now = is.searches seeds before in
    record {
      ranks = now.ranks;
      parents = now.parents;
      begins = now.begins;
      roots = now.roots;
      steps = now.steps;
      closed = λ k w l joined w_free. elim (cases_eq k head) [
        | inl same ↦
            let link : any_joins g.links v w ≡ true = rw (same, is.node) at joined in
            let number = any_joins_gives g.links v w link in
            let there = are.complete number.0 w number.1 in
            let hop : Hop = record { node = w; link = number.0 } in
            let hop_is : (get_or hops there.0 hop).node ≡ w = ap (λ (h : Hop). h.node) there.2 in
            rw hop_is at (is.looked there.0 hop there.1 (rw hop_is w_free))
        | inr other ↦ now.closed k w (omega arith) joined w_free
      ];
    }
