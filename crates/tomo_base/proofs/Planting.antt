-- A search begins by reaching its seeds, each of which is its own parent.
use Rattle.std.proofs.Common.{◌≡◌, ◌≢◌, ℕ, ◌+◌, ◌<◌, ◌≤◌, Bool, true, false, List, [], ◌∷◌, ◌++◌, length, get_or, take, replicate, All, AllPairs, refl, sym, ap, ap₂, ◌∙◌, inl, inr, arith, length-set, get_or-set_same, get_or-set_other}
use Rattle.std.proofs.lemmas.Bool.{cases_eq, cases_lt}
use Rattle.std.proofs.lemmas.List.{length-replicate, get_or-replicate, get_or_default, get_or-take, length-take-le, take_more}
use Rattle.tomo_base.specs.Network.{Network}
use Rattle.tomo_base.specs.Search.{mark_of, entry_at, AreRanked}
use Rattle.tomo_base.proofs.Looking.{State, reached, Searches}
use Rattle.tomo_base.proofs.Ranks.{none_ranked, few_ranked, ranks_more}

-- a search that has reached the first i seeds
pub record Planting (n : ℕ) (seeds : List ℕ) (i : ℕ) (s : State) : Type 0 where
  pub first : s.order ≡ take i seeds
  pub parents : length s.parent ≡ n
  pub rank_each : length s.rank ≡ n
  pub ranks : (free : List Bool) → All (λ v. mark_of free v ≡ true) seeds → AreRanked n free s.order s.rank
  pub roots : (k : ℕ) → k < i → entry_at s.parent (entry_at seeds k) ≡ entry_at seeds k

-- before the first seed
pub planting_none : (n : ℕ) (seeds parent rank : List ℕ) → parent ≡ replicate n 0 → rank ≡ replicate n n → Planting n seeds 0 (record { order = []; parent = parent; rank = rank })
planting_none n seeds parent rank parents ranks = record {
  first = refl;
  parents = ap (λ xs. length xs) parents ∙ length-replicate n 0;
  rank_each = ap (λ xs. length xs) ranks ∙ length-replicate n n;
  ranks = λ free marks. rw ranks (none_ranked n free);
  roots = λ k l. absurd (omega arith);
}

-- no more seeds than nodes are reached
pub planting_few : (n : ℕ) (seeds : List ℕ) (i : ℕ) (s : State) → All (λ v. v < n) seeds → Planting n seeds i s → length s.order ≤ n
planting_few n seeds i s nodes p = few_ranked n (replicate n true) s.order s.rank (p.ranks (replicate n true) (λ k d l. get_or-replicate n (get_or seeds k d) true false (nodes k d l)))

-- one seed more, which differs from those before
pub planting_more : (n : ℕ) (seeds : List ℕ) (i v : ℕ) (s : State) → i < length seeds → v ≡ entry_at seeds i → v < n → AllPairs (λ x y. x ≢ y) seeds
    → Planting n seeds i s → Planting n seeds (i + 1) (reached v v s)
planting_more n seeds i v s l seed below different p =
    let len : length s.order ≡ i = ap length p.first ∙ length-take-le i seeds (omega arith) in
    let earlier : (k : ℕ) → k < i → entry_at s.order k ≡ entry_at seeds k = λ k lt. ap (λ xs. entry_at xs k) p.first ∙ get_or-take i seeds k 0 lt in
    let bare : (free : List Bool) → AreRanked n free s.order s.rank → n ≤ entry_at s.rank v = λ free are. elim (cases_lt (entry_at s.rank v) n) [
      | inr ge ↦ ge
      | inl lt ↦
          let old = are.placed v below lt in
          let before : entry_at s.rank v < i = omega (arith, old.0, len) in
          absurd (different (entry_at s.rank v) i 0 before l (sym (earlier (entry_at s.rank v) before) ∙ (old.1 ∙ seed)))
    ] in
    record {
      first = ap₂ (λ xs x. xs ++ x ∷ []) p.first seed ∙ sym (take_more seeds i 0 l);
      parents = length-set s.parent v v ∙ p.parents;
      rank_each = length-set s.rank v (length s.order) ∙ p.rank_each;
      ranks = λ free marks. ranks_more n v free s.order s.rank (p.ranks free marks) below (bare free (p.ranks free marks)) (rw seed (marks i 0 l));
      roots = λ k lt. elim (cases_eq (entry_at seeds k) v) [
        | inl same ↦ rw same (get_or-set_same s.parent v v 0 (omega (arith, below, p.parents)))
        | inr other ↦ rw (get_or-set_other s.parent v (entry_at seeds k) v 0 other) (elim (cases_eq k i) [
          | inl at_i ↦ absurd (other (ap (entry_at seeds) at_i ∙ sym seed))
          | inr before ↦ p.roots k (omega arith)
        ])
      ];
    }

-- every seed is its own parent
pub planted_roots : (n : ℕ) (seeds : List ℕ) (i : ℕ) (s : State) → length seeds ≤ i → Planting n seeds i s → All (λ v. entry_at s.parent v ≡ v) seeds
planted_roots n seeds i s all p k d l = rw (get_or_default seeds k d 0 l) (p.roots k (omega (arith, l, all)))

-- a search that has reached its seeds and looked at nothing
pub planted : (g : Network) (free : List Bool) (seeds : List ℕ) (s : State) → s.order ≡ seeds → AreRanked g.nodes free s.order s.rank → length s.parent ≡ g.nodes → All (λ v. entry_at s.parent v ≡ v) seeds
    → Searches g free seeds 0 s
planted g free seeds s same ranks parents roots = record {
  ranks = ranks;
  parents = parents;
  begins = λ k l. rw same (l, refl);
  roots = λ k l. rw same (roots k 0 l);
  steps = λ k least l. let all : k < length seeds = rw same at l in absurd (omega arith);
  closed = λ k w l. absurd (omega arith);
}
