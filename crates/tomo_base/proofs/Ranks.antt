-- Nodes in an order, each with its place there for a rank: how many there are, and one more.
use Rattle.std.proofs.Common.{◌≡◌, ◌≢◌, ℕ, zero, suc, ◌+◌, ◌<◌, ◌≤◌, Bool, true, List, [], ◌∷◌, ◌++◌, length, set, replicate, refl, sym, ap, ◌∙◌, inl, inr, arith, length-set, get_or-set_same, get_or-set_other}
use Rattle.std.proofs.lemmas.Bool.{cases_eq, cases_lt, lt-ltb, le-ltb}
use Rattle.std.proofs.lemmas.List.{length_push, length-replicate, get_or-replicate}
use Rattle.tomo_base.specs.Search.{mark_of, entry_at, unranked, AreRanked}
use Rattle.tomo_base.proofs.Lists.{at_before, at_last}

-- a new rank leaves one node fewer without
unranked-set : (n : ℕ) (rank : List ℕ) (v r : ℕ) → v < length rank → n ≤ entry_at rank v → r < n → unranked n (set rank v r) + 1 ≡ unranked n rank
unranked-set n [] v r l bare small = absurd (omega arith)
unranked-set n (x ∷ xs) zero r l bare small = rw (lt-ltb r n small, le-ltb x n bare) (omega arith)
unranked-set n (x ∷ xs) (suc v) r l bare small = let rest : unranked n (set xs v r) + 1 ≡ unranked n xs = unranked-set n xs v r (omega arith) bare small in omega (arith, rest)

-- where a node has no rank, some node has none
some_unranked : (n : ℕ) (rank : List ℕ) (v : ℕ) → v < length rank → n ≤ entry_at rank v → 1 ≤ unranked n rank
some_unranked n [] v l bare = absurd (omega arith)
some_unranked n (x ∷ xs) zero l bare = rw (le-ltb x n bare) (omega arith)
some_unranked n (x ∷ xs) (suc v) l bare = let rest : 1 ≤ unranked n xs = some_unranked n xs v (omega arith) bare in omega (arith, rest)

-- at the start none has
unranked-bare : (n k : ℕ) → unranked n (replicate k n) ≡ k
unranked-bare n zero = refl
unranked-bare n (suc k) = rw (le-ltb n n (omega arith)) (omega (arith, unranked-bare n k))

-- while a node has no rank, the order has room
pub room_for : (n w : ℕ) (free : List Bool) (order rank : List ℕ) → AreRanked n free order rank → w < n → n ≤ entry_at rank w → length order < n
room_for n w free order rank are below bare = let some : 1 ≤ unranked n rank = some_unranked n rank w (omega (arith, below, are.one_each)) bare in omega (arith, some, are.balance)

-- an order has no more nodes than there are
pub few_ranked : (n : ℕ) (free : List Bool) (order rank : List ℕ) → AreRanked n free order rank → length order ≤ n
few_ranked n free order rank are = omega (arith, are.balance)

-- no ranks
pub none_ranked : (n : ℕ) (free : List Bool) → AreRanked n free [] (replicate n n)
none_ranked n free = record {
  one_each = length-replicate n n;
  ranked = λ k l. absurd (omega arith);
  most = λ v l. let bare : entry_at (replicate n n) v ≡ n = get_or-replicate n v n 0 l in omega (arith, bare);
  placed = λ v l has_rank. let bare : entry_at (replicate n n) v ≡ n = get_or-replicate n v n 0 l in absurd (omega (arith, has_rank, bare));
  allowed = λ k l. absurd (omega arith);
  balance = omega (arith, unranked-bare n n);
}

-- a ranked node differs from one without rank
pub ranked_differs : (n : ℕ) (rank : List ℕ) (v w : ℕ) → entry_at rank v < n → n ≤ entry_at rank w → v ≢ w
ranked_differs n rank v w small bare same = let equal : entry_at rank v ≡ entry_at rank w = ap (entry_at rank) same in omega (arith, equal, small, bare)

-- a free node without rank gets the next
pub ranks_more : (n w : ℕ) (free : List Bool) (order rank : List ℕ) → AreRanked n free order rank → w < n → n ≤ entry_at rank w → mark_of free w ≡ true → AreRanked n free (order ++ w ∷ []) (set rank w (length order))
ranks_more n w free order rank are below bare is_free =
    let room : length order < n = room_for n w free order rank are below bare in
    let size : w < length rank = omega (arith, below, are.one_each) in
    record {
      one_each = length-set rank w (length order) ∙ are.one_each;
      ranked = λ k l. elim (cases_lt k (length order)) [
        | inl lt ↦
            let old = are.ranked k lt in
            let other : entry_at order k ≢ w = ranked_differs n rank (entry_at order k) w (omega (arith, old.1, lt, room)) bare in
            rw (at_before order w k lt, get_or-set_other rank w (entry_at order k) (length order) 0 other) old
        | inr ge ↦
            let last : k ≡ length order = omega (arith, l, ge, length_push order w) in
            rw (at_last order w k last, get_or-set_same rank w (length order) 0 size) (below, sym last)
      ];
      most = λ v l. elim (cases_eq v w) [
        | inl same ↦ rw (same, get_or-set_same rank w (length order) 0 size) (omega (arith, room))
        | inr other ↦ rw (get_or-set_other rank w v (length order) 0 other) (are.most v l)
      ];
      placed = λ v l small. elim (cases_eq v w) [
        | inl same ↦
            let new : entry_at (set rank w (length order)) v ≡ length order = ap (entry_at (set rank w (length order))) same ∙ get_or-set_same rank w (length order) 0 size in
            rw new (omega (arith, length_push order w), at_last order w (length order) refl ∙ sym same)
        | inr other ↦
            let kept : entry_at (set rank w (length order)) v ≡ entry_at rank v = get_or-set_other rank w v (length order) 0 other in
            let old = are.placed v l (omega (arith, small, kept)) in
            rw kept (omega (arith, old.0, length_push order w), at_before order w (entry_at rank v) old.0 ∙ old.1)
      ];
      allowed = λ k l. elim (cases_lt k (length order)) [
        | inl lt ↦ rw (at_before order w k lt) (are.allowed k lt)
        | inr ge ↦ rw (at_last order w k (omega (arith, l, ge, length_push order w))) is_free
      ];
      balance = omega (arith, unranked-set n rank w (length order) size bare room, length_push order w, are.balance);
    }
