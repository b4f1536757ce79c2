use Rattle.std.proofs.Common.{ℕ, eqb, Vec}
use lib.Pointwise.{pointwise}
use Rattle.std.specs.Global.{Global}
use Rattle.std.proofs.lemmas.List.Filters.{dedup_is}
use Rattle.std.proofs.lemmas.List.Kept.{Contains-from_dedup}
use Rattle.std.proofs.lemmas.List.Sorted.{IsPermutation-map, IsPermutation-sym, Contains-permutation}
use Rattle.tomo_base.specs.SetLists.{set_cmp}
use Rattle.tomo_base.proofs.Sorting.{dedup-map, sorted-map, rises, keeps, sum_by-sorted}
use Rattle.tomo_base.proofs.list_order.sort_lists.Goals as goal

pub returns-clause-ascending : goal.returns-clause-ascending
returns-clause-ascending c =
    let is = dedup_is _ _ _ c.dedup.ensures.filtered in
    rw (is, dedup-map (λ (v : Vec ℕ Global). v.items) (pointwise eqb) c.sort_unstable.new.self.items) (rises _ (sorted-map (λ (v : Vec ℕ Global). v.items) set_cmp _ c.sort_unstable.ensures.sorted))

pub returns-clause-kept : goal.returns-clause-kept
returns-clause-kept c = λ p h.
    let is = dedup_is _ _ _ c.dedup.ensures.filtered in
    rw (is, dedup-map (λ (v : Vec ℕ Global). v.items) (pointwise eqb) c.sort_unstable.new.self.items)
    (keeps _ p (Contains-permutation _ _ p (IsPermutation-map (λ (v : Vec ℕ Global). v.items) _ _ c.sort_unstable.ensures.permutation) h))

pub returns-clause-given : goal.returns-clause-given
returns-clause-given c = λ p h.
    let is = dedup_is _ _ _ c.dedup.ensures.filtered in
    Contains-permutation _ _ p (IsPermutation-sym _ _ (IsPermutation-map (λ (v : Vec ℕ Global). v.items) _ _ c.sort_unstable.ensures.permutation))
    (Contains-from_dedup (pointwise eqb) _ p (rw (is, dedup-map (λ (v : Vec ℕ Global). v.items) (pointwise eqb) c.sort_unstable.new.self.items) at h))

pub returns-clause-sums : goal.returns-clause-sums
returns-clause-sums c = λ weight.
    let is = dedup_is _ _ _ c.dedup.ensures.filtered in
    rw (is, dedup-map (λ (v : Vec ℕ Global). v.items) (pointwise eqb) c.sort_unstable.new.self.items)
    (sum_by-sorted weight (pointwise eqb) _ _ (IsPermutation-map (λ (v : Vec ℕ Global). v.items) _ _ c.sort_unstable.ensures.permutation))
