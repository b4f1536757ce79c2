-- An order into which the nodes between the ends of an ear are put one by one.
use Rattle.std.proofs.Common.{◌≡◌, ℕ, ◌+◌, ◌-◌, ◌<◌, ◌≤◌, List, [], ◌∷◌, ◌++◌, length, take, drop, sym, ap, ◌∙◌, arith}
use Rattle.std.specs.List.{insert}
use Rattle.std.proofs.lemmas.List.{take_more, append-nil, take-append-drop, length-append, length-take-le, length-drop, get_or-drop}
use Rattle.std.proofs.lemmas.List.Edits.{insert_end, insert-append_left}
use Rattle.tomo_base.specs.Search.{entry_at}
use Rattle.indep_trees.proofs.Ears.{append_assoc}

-- none so far
pub none_put : (order ear : List ℕ) (k : ℕ) → order ≡ (take k order ++ take 0 (drop 1 ear)) ++ drop k order
none_put order ear k = sym (ap (λ xs. xs ++ drop k order) (append-nil (take k order)) ∙ take-append-drop k order)

-- a number is put between two lists
pub put_between : (front back : List ℕ) (k x : ℕ) → k ≡ length front → insert (front ++ back) k x ≡ (front ++ x ∷ []) ++ back
put_between front back k x is = insert-append_left front back k x (omega (arith, is)) ∙ ap (λ xs. xs ++ back) (ap (λ j. insert front j x) is ∙ insert_end front x)

-- one more
pub one_put : (order ear : List ℕ) (k i : ℕ) → k ≤ length order → i < length ear - 2
    → insert ((take k order ++ take i (drop 1 ear)) ++ drop k order) (k + i) (entry_at ear (i + 1)) ≡ (take k order ++ take (i + 1) (drop 1 ear)) ++ drop k order
one_put order ear k i room more =
    let front = take k order in
    let mid = take i (drop 1 ear) in
    let size : k + i ≡ length (front ++ mid) = omega (arith, length-append front mid, length-take-le k order room, length-take-le i (drop 1 ear) (omega (arith, more, length-drop 1 ear))) in
    let turn : 1 + i ≡ i + 1 = omega arith in
    let next : take (i + 1) (drop 1 ear) ≡ mid ++ entry_at ear (i + 1) ∷ [] = take_more (drop 1 ear) i 0 (omega (arith, more, length-drop 1 ear)) ∙ ap (λ x. mid ++ x ∷ []) (get_or-drop 1 ear i 0 ∙ ap (entry_at ear) turn) in
    put_between (front ++ mid) (drop k order) (k + i) (entry_at ear (i + 1)) size ∙ ap (λ xs. xs ++ drop k order) (append_assoc front mid (entry_at ear (i + 1) ∷ []) ∙ ap (λ xs. front ++ xs) (sym next))
