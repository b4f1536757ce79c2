-- A list of links, lower end first and each once, stays one where there are more nodes; it has no fault, and is the list of the graph made of it.
use Rattle.std.proofs.Common.{◌≡◌, ℕ, zero, suc, ◌<◌, ◌≤◌, false, List, [], ◌∷◌, map, take, slice_get, Some, refl, ap₂, ◌∙◌, inl, inr, arith}
use Rattle.std.proofs.lemmas.Bool.{both_ways, or_parts, or_from, le-ltb}
use Rattle.std.proofs.lemmas.Bool.Decides.{nat_tests}
use Rattle.tomo_base.specs.declared.graph.Link.{Link}
use Rattle.tomo_base.specs.declared.graph.GraphFault.{GraphFault}
use Rattle.tomo_base.specs.declared.graph.GraphFault.TheVariants.{NoMemory, Range, Loop, Repeat}
use Rattle.tomo_base.specs.Network.{Network, joins, any_joins, AreLinks}
use Rattle.tomo_base.specs.Table.{in_order, IsFirstFault}
use Rattle.tomo_base.proofs.Links.{link_at}

-- a graph stays one where there are more nodes
pub AreLinks-more : (n m : ℕ) (ls : List Link) → n ≤ m → AreLinks n ls → AreLinks m ls
AreLinks-more n m [] le are = tt
AreLinks-more n m (l ∷ ls) le are = (are.0, omega (arith, are.1, le), are.2, AreLinks-more n m ls le are.3)

-- its links are in order
pub map-in_order : (n : ℕ) (ls : List Link) → AreLinks n ls → map in_order ls ≡ ls
map-in_order n [] are = refl
map-in_order n (l ∷ ls) are = ap₂ ◌∷◌ (rw (le-ltb l.b l.a (omega (arith, are.0))) refl) (map-in_order n ls are.3)

-- no link before it joins the same two nodes
pub none_before : (n : ℕ) (ls : List Link) (i : ℕ) (l : Link) → AreLinks n ls → slice_get ls i ≡ Some l → any_joins (take i ls) l.a l.b ≡ false
unfolding any_joins joins
none_before n [] i l are at = cc
none_before n (m ∷ ls) zero l are at = refl
none_before n (m ∷ ls) (suc i) l are at = or_from _ _ (turned m l (later ls i l m at are.2)) (none_before n ls i l are.3 at)
  where
    some : {x y : Link} → Some x ≡ Some y → x ≡ y
    some e = cc

    later : (xs : List Link) (k : ℕ) (x m : Link) → slice_get xs k ≡ Some x → any_joins xs m.a m.b ≡ false → joins x m.a m.b ≡ false
    later [] k x m at h = cc
    later (y ∷ ys) zero x m at h = let same : y ≡ x = some at in rw same at (or_parts (joins y m.a m.b) (any_joins ys m.a m.b) h).0
    later (y ∷ ys) (suc k) x m at h = later ys k x m at (or_parts _ _ h).1

    turned : (m l : Link) → joins l m.a m.b ≡ false → joins m l.a l.b ≡ false
    turned m l h = grind (arith, nat_tests)

-- so a graph made of its links can only want memory
pub no_fault : (n : ℕ) (ls : List Link) (fault : GraphFault) → AreLinks n ls → IsFirstFault n ls fault → fault ≡ NoMemory
no_fault n ls NoMemory are h = refl
no_fault n ls (Range i) are (l, first, beyond) =
    let at : (l.a < l.b) × (l.b < n) = link_at n ls i l are first.there in
    elim beyond [ inl e ↦ absurd (omega (arith, at.0, at.1, e)) | inr e ↦ absurd (omega (arith, at.1, e)) ]
no_fault n ls (Loop i) are (l, first, below, equal) =
    let at : (l.a < l.b) × (l.b < n) = link_at n ls i l are first.there in
    absurd (omega (arith, at.0, equal))
no_fault n ls (Repeat i) are (l, first, la, lb, ne, again) = absurd (both_ways (any_joins (take i ls) l.a l.b) (none_before n ls i l are first.there) again)

-- and it is the graph of these links
pub graph_is : (n : ℕ) (ls : List Link) (g : Network) → AreLinks n ls → g.nodes ≡ n → g.links ≡ map in_order ls → g ≡ record { nodes = n; links = ls }
graph_is n ls g are nodes links = ap₂ (λ (m : ℕ) (ks : List Link). graph_with m ks) nodes (links ∙ map-in_order n ls are)
  where
    graph_with : ℕ → List Link → Network
    graph_with m ks = record { nodes = m; links = ks }
