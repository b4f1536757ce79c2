-- Lists that are copied from the front, and how much a pool of their first items holds.
use Rattle.std.proofs.Common.{◌≡◌, ℕ, ◌+◌, ◌<◌, ◌≤◌, List, [], ◌∷◌, ◌++◌, map, length, take, get_or, slice_get, Some, Vec, refl, ap, ◌∙◌, arith}
use Rattle.std.specs.Global.{Global}
use Rattle.std.proofs.lemmas.List.{take_more, map-append}
use Rattle.std.proofs.lemmas.Option.{slice_get_within, get_or_from_slice_get}
use Rattle.simple_path.specs.Pools.{nodes_in}
use Rattle.simple_path.proofs.Pools.{nodes_in-push, nodes_in-take}
use Rattle.tomo_base.specs.SetLists.{lists_of}

-- the first items, and the next one that was read
pub take_read : {X : Type 0} (xs : List X) (i : ℕ) (x : X) → slice_get xs i ≡ Some x → take (i + 1) xs ≡ take i xs ++ x ∷ []
take_read xs i x read = take_more xs i x (slice_get_within xs i x read) ∙ ap (λ y. take i xs ++ y ∷ []) (get_or_from_slice_get xs i x x read)

-- copies of the first items, and one more
pub copied_more : {X Y A : Type 0} (f : X → A) (g : Y → A) (held : List X) (given : List Y) (i : ℕ) (x : X) (y : Y) → slice_get given i ≡ Some y → f x ≡ g y → map f held ≡ map g (take i given) → map f (held ++ x ∷ []) ≡ map g (take (i + 1) given)
copied_more f g held given i x y read same copied = rw (take_read given i y read, map-append f held (x ∷ []), map-append g (take i given) (y ∷ []), copied, same) refl

-- the next path finds room in a pool that all of them fit into
pub nodes_in-next : (vs : List (Vec ℕ Global)) (i : ℕ) (d : Vec ℕ Global) → i < length vs → nodes_in (lists_of (take i vs)) + length (get_or vs i d).items ≤ nodes_in (lists_of vs)
nodes_in-next vs i d l =
    let more : nodes_in (lists_of (take (i + 1) vs)) ≡ nodes_in (lists_of (take i vs)) + length (get_or vs i d).items = rw (take_more vs i d l) (nodes_in-push (λ (v : Vec ℕ Global). v.items) (take i vs) (get_or vs i d)) in
    omega (arith, more, nodes_in-take (λ (v : Vec ℕ Global). v.items) (i + 1) vs)
