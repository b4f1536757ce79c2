-- Lists whose keys rise, and the place of a key in one.
use Rattle.std.proofs.Common.{◌≡◌, ℕ, ◌<◌, ◌≤◌, Bool, true, false, List, length, get_or, AllPairs, HoldsAt, inl, inr, arith, subst, nat_lt}
use denote.Param.Members.{Mut}
use denote.Ref.{Bor}
use Rattle.std.specs.Fn.{Called, ComputesKey}
use Rattle.std.specs.List.{AllWithin}
use Rattle.std.specs.List.Sorted.{IsNonDecreasingBy, IsPartitionedBy, IsPartitionPoint}
use Rattle.std.proofs.lemmas.Bool.{cases_eq, ltb-true, ltb-false}
use Rattle.std.proofs.lemmas.List.Sorted.{IsPartitionPoint-from_clause, IsPartitionedBy-ltb}

module _ {X : Type 0} (key : X → ℕ) (xs : List X) (rise : AllPairs (λ x y. key x < key y) xs) where
  -- keys that rise never fall
  never_fall : IsNonDecreasingBy key xs
  never_fall i j d le l = elim (cases_eq i j) [
    | inl same ↦ subst (λ k. key (get_or xs i d) ≤ key (get_or xs k d)) same (omega arith)
    | inr ne ↦ omega (arith, rise i j d (omega (arith, le, ne)) l)
  ]

  -- the place that `partition_point` finds: the keys before it are less, and that at it is not
  pub place_is : {F : Type 0} {g : Mut F (Bor X × Unit {0}) Bool} {f : F} (n place : ℕ)
      → ((q : X → Bool) → ComputesKey g q f → IsPartitionedBy q xs → IsPartitionPoint (λ x. q x ≡ true) (λ x. q x ≡ false) xs place)
      → ((a : Bor X × Unit {0}) (r : Bool) (f' : F) → Called g f a r f' → (r ≡ nat_lt (key a.0.now) n) × (f' ≡ f))
      → AllWithin (λ x. key x < n) xs 0 place × (place < length xs → HoldsAt (λ x. n ≤ key x) xs place)
  place_is n place clause calls =
      let parted = IsPartitionPoint-from_clause (λ x. nat_lt (key x) n) xs place clause (IsPartitionedBy-ltb key xs n never_fall) calls in
      (λ k d from lt. ltb-true _ n (parted.0 k d from lt), λ lt d. ltb-false _ n (parted.1 place d (omega arith) lt))
