-- How much a pool holds after a path is added, or paths are taken away.
use Rattle.std.proofs.Common.{◌≡◌, refl, ap, ℕ, zero, suc, ◌+◌, ◌≤◌, List, [], ◌∷◌, ◌++◌, map, length, get_or, take, arith}
use Rattle.std.proofs.lemmas.List.{map-append}
use Rattle.simple_path.specs.declared.recipe.Term.{Term}
use Rattle.simple_path.specs.Pools.{nodes_in}
use Rattle.simple_path.specs.Terms.{path_terms}

-- the node numbers of two lists of paths
pub nodes_in-append : (ps qs : List (List ℕ)) → nodes_in (ps ++ qs) ≡ nodes_in ps + nodes_in qs
nodes_in-append [] qs = omega arith
nodes_in-append (p ∷ ps) qs = omega (arith, nodes_in-append ps qs)

-- of paths that are kept, and one path more
pub nodes_in-push : {A : Type 0} (f : A → List ℕ) (xs : List A) (x : A) → nodes_in (map f (xs ++ x ∷ [])) ≡ nodes_in (map f xs) + length (f x)
nodes_in-push f xs x = rw map-append (omega (arith, nodes_in-append (map f xs) (f x ∷ [])))

-- a pool that is cut back has no more
pub nodes_in-take : {A : Type 0} (f : A → List ℕ) (n : ℕ) (xs : List A) → nodes_in (map f (take n xs)) ≤ nodes_in (map f xs)
nodes_in-take f zero xs = omega arith
nodes_in-take f (suc n) [] = omega arith
nodes_in-take f (suc n) (x ∷ xs) = omega (arith, nodes_in-take f n xs)

-- a path of a pool has no more nodes than the pool
pub path_within : (pool : List (List ℕ)) (i : ℕ) → length (get_or pool i []) ≤ nodes_in pool
path_within [] i = omega arith
path_within (p ∷ ps) zero = omega arith
path_within (p ∷ ps) (suc i) = omega (arith, path_within ps i)

-- as many paths as terms
pub length-path_terms : (pool : List (List ℕ)) (ts : List Term) → length (path_terms pool ts) ≡ length ts
length-path_terms pool [] = refl
length-path_terms pool (t ∷ ts) = ap suc (length-path_terms pool ts)
