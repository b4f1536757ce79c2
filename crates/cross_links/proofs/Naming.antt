-- Terms that name paths added to a pool are a recipe where the wanted terms are, and how much the pool holds then.
use Rattle.std.proofs.Common.{ℕ, zero, suc, ◌+◌, ◌*◌, ◌<◌, ◌≤◌, ◌≡◌, Bool, List, [], ◌∷◌, ◌++◌, length, get_or, ℤ, All, refl, sym, ap, ap₂, subst, ◌∙◌, arith, length-append}
use Rattle.std.proofs.lemmas.List.{append_assoc, length-map, get_or-append-add}
use Rattle.std.proofs.lemmas.List.Elements.{All-map, All-tail}
use Rattle.tomo_base.specs.Network.{Network, IsGraph}
use Rattle.tomo_base.specs.Identify.{IsMonitorPath}
use Rattle.simple_path.specs.declared.recipe.Term.{Term}
use Rattle.simple_path.specs.Terms.{path_terms}
use Rattle.simple_path.specs.Pools.{nodes_in}
use Rattle.simple_path.proofs.Pools.{nodes_in-append}
use Rattle.tomo_base.proofs.Paths.{walk_short}
use Rattle.cross_links.specs.CrossRecipe.{IsCrossRecipe, AddsRecipe}
use Rattle.cross_links.specs.Joining.{turned_onto, Names, numbered_terms, term_paths}
use Rattle.cross_links.proofs.Turned.{length-turned_onto}

-- ---- what the terms are
-- as many terms as wanted
length-numbered : (k : ℕ) (ts : List (ℤ × List ℕ)) → length (numbered_terms k ts) ≡ length ts
length-numbered k [] = refl
length-numbered k (t ∷ ts) = omega (arith, length-numbered (k + 1) ts)

-- each with its number
path_numbered : (n : ℕ) (ts : List (ℤ × List ℕ)) (k : ℕ) (d : Term) → k < length (numbered_terms n ts) → (get_or (numbered_terms n ts) k d).path ≡ n + k
path_numbered n [] k d l = absurd (omega (arith, l))
path_numbered n (t ∷ ts) zero d l = let e : n ≡ n + 0 = omega arith in e
path_numbered n (t ∷ ts) (suc k) d l = let e : (n + 1) + k ≡ n + suc k = omega arith in path_numbered (n + 1) ts k d (omega (arith, l)) ∙ e

-- with the paths that they name they are the wanted terms
named_terms : (front : List (List ℕ)) (ts : List (ℤ × List ℕ)) → path_terms (front ++ term_paths ts) (numbered_terms (length front) ts) ≡ ts
named_terms front [] = refl
named_terms front (t ∷ ts) =
    let at : get_or (front ++ t.1 ∷ term_paths ts) (length front) [] ≡ t.1 = ap (λ k. get_or (front ++ t.1 ∷ term_paths ts) k []) (let e : length front ≡ length front + 0 = omega arith in e) ∙ get_or-append-add front (t.1 ∷ term_paths ts) 0 [] in
    let more : length (front ++ t.1 ∷ []) ≡ length front + 1 = length-append front (t.1 ∷ []) in
    let rest : path_terms (front ++ t.1 ∷ term_paths ts) (numbered_terms (length front + 1) ts) ≡ ts =
    ap₂ (λ l k. path_terms l (numbered_terms k ts)) (sym (append_assoc front (t.1 ∷ []) (term_paths ts))) (sym more) ∙ named_terms (front ++ t.1 ∷ []) ts in
    ap₂ (λ p l. (t.0, p) ∷ l) at rest

-- a monitor path has no more nodes than the graph
pub path_short : (g : Network) (m : ℕ → Bool) (p : List ℕ) → IsGraph g → IsMonitorPath g m p → length p ≤ g.nodes
path_short g m [] graph path = omega arith
path_short g m (x ∷ []) graph path = absurd (let two = path.two in omega (arith, two))
path_short g m (x ∷ y ∷ p) graph path = walk_short g x y p graph path.linked path.different

-- the terms are a recipe where those that were wanted are
pub names_recipe : (g : Network) (m : ℕ → Bool) (i : ℕ) (old new : List (List ℕ)) (terms : List Term) (wanted : List (ℤ × List ℕ)) → IsGraph g → Names old new terms wanted → IsCrossRecipe g m i wanted → AddsRecipe g m i old new terms
names_recipe g m i old new terms wanted graph n r =
    let count : length terms ≡ length wanted = ap length n.named ∙ length-numbered (length old) wanted in
    let same : path_terms new terms ≡ wanted = ap₂ path_terms n.grown n.named ∙ named_terms old wanted in record {
      added = term_paths wanted;
      grown = n.grown;
      one_each = count ∙ sym (length-map wanted (λ (t : ℤ × List ℕ). t.1));
      in_order = λ k d l. ap (λ ts. (get_or ts k d).path) n.named ∙ path_numbered (length old) wanted k d (subst (λ ts. k < length ts) n.named l);
      paths = All-map (IsMonitorPath g m) (λ (t : ℤ × List ℕ). t.1) wanted r.paths;
      short = All-map (λ p. length p ≤ g.nodes) (λ (t : ℤ × List ℕ). t.1) wanted (λ k d l. path_short g m (get_or wanted k d).1 graph (r.paths k d l));
      recipe = subst (IsCrossRecipe g m i) (sym same) r;
    }

-- ---- room
-- short paths hold few nodes
pub nodes_short : (n : ℕ) (ts : List (ℤ × List ℕ)) → All (λ t. length t.1 ≤ n) ts → nodes_in (term_paths ts) ≤ length ts * n
nodes_short n [] short = omega arith
nodes_short n (t ∷ ts) short = omega (arith, nodes_short n ts (All-tail (λ (t : ℤ × List ℕ). length t.1 ≤ n) t ts short), short 0 t (omega arith))

-- one path more
pub nodes_more : (old new : List (List ℕ)) (a b : List ℕ) → new ≡ old ++ turned_onto a b ∷ [] → nodes_in new ≡ nodes_in old + (length a + length b)
nodes_more old new a b grown = omega (arith, ap nodes_in grown, nodes_in-append old (turned_onto a b ∷ []), length-turned_onto a b)
