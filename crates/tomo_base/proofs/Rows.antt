-- The rows of neighbours: what a row says of the links, and a new hop in it.
use Rattle.std.proofs.Common.{◌≡◌, ◌≢◌, ℕ, zero, suc, ◌<◌, ◌≤◌, ◌⊎◌, true, false, ◌||◌, List, [], ◌∷◌, ◌++◌, length, get_or, take, drop, insert, slice_get, Some, None, All, AllPairs, Contains, HoldsAt, IfSome, IfNone, Option, refl, sym, ap, ◌∙◌, inl, inr, arith, subst, ap₂}
use Rattle.std.specs.List.{AllWithin}
use Rattle.std.proofs.lemmas.Bool.{cases_Bool, cases_order, cases_eq, or_cases, or_left, or_right, false≢true, both_ways, or_parts, or_from}
use Rattle.std.proofs.lemmas.Bool.Decides.{nat_tests}
use Rattle.std.proofs.lemmas.List.Elements.{All-contains, All-append, All-take, All-drop, All-cons}
use Rattle.std.proofs.lemmas.List.{get_or_default}
use Rattle.std.proofs.lemmas.List.Edits.{length-insert, get_or-insert_at}
use Rattle.std.proofs.lemmas.Grind.{in_insert}
use Rattle.tomo_base.proofs.Links.{joins_gives, joins_comm, any_joins_comm, linked_below}
use Rattle.tomo_base.specs.declared.graph.Link.{Link}
use Rattle.tomo_base.specs.declared.graph.Hop.{Hop}
use Rattle.tomo_base.specs.Network.{joins, any_joins, AreLinks, Network, linked, IsGraph}
use Rattle.tomo_base.specs.Table.{JoinsAt, AreHops}
use Rattle.tomo_base.proofs.Lists.{AllPairs-insert, slice_get-append, slice_get_last, slice_get_push_cases}
use Rattle.std.specs.Option.{is_some}

-- a link between a and b has a number
pub any_joins_gives : (ls : List Link) (a b : ℕ) → any_joins ls a b ≡ true → (i : ℕ) × JoinsAt ls i a b
unfolding any_joins
any_joins_gives [] a b h = absurd (false≢true h)
any_joins_gives (l ∷ ls) a b h = elim (or_cases _ _ h) [
  | inl e ↦ (0, (l, refl, e))
  | inr e ↦ let r = any_joins_gives ls a b e in (suc r.0, (r.1.0, r.1.1, r.1.2))
]

-- a link with a number is one of the list
pub any_joins-from : (ls : List Link) (i a b : ℕ) → JoinsAt ls i a b → any_joins ls a b ≡ true
unfolding any_joins
any_joins-from [] i a b h = absurd (none h.1)
  where
    none : {l : Link} → None ≡ Some l → ⊥
    none e = cc
any_joins-from (l ∷ ls) zero a b h = let same : l ≡ h.0 = cc h.1 in or_left _ _ (ap (λ x. joins x a b) same ∙ h.2)
any_joins-from (l ∷ ls) (suc i) a b h = or_right _ _ (any_joins-from ls i a b (h.0, h.1, h.2))

-- what the hops of a node say of its links
pub AreHops_gives : (links : List Link) (v i w : ℕ) (hops : List Hop) → AreHops links v hops → Contains hops (record { node = w; link = i }) → JoinsAt links i v w
AreHops_gives links v i w hops are there = All-contains (λ (h : Hop). JoinsAt links h.link v h.node) hops (record { node = w; link = i }) are.sound there

-- where no hop leads to w, no link joins v and w
pub AreHops_none : (links : List Link) (v w : ℕ) (hops : List Hop) → AreHops links v hops → All (λ h. h.node ≢ w) hops → any_joins links v w ≡ false
AreHops_none links v w hops are none = elim (cases_Bool (any_joins links v w)) [
  | inl e ↦
      let r = any_joins_gives links v w e in
      absurd (All-contains (λ (h : Hop). h.node ≢ w) hops (record { node = w; link = r.0 }) none (are.complete r.0 w r.1) refl)
  | inr e ↦ e
]

-- a node that does not stand at its place stands nowhere
pub not_there : (hops : List Hop) (p w : ℕ) → AllPairs (λ h k. h.node < k.node) hops → AllWithin (λ h. h.node < w) hops 0 p → (p < length hops → (d : Hop) → w < (get_or hops p d).node) → All (λ h. h.node ≢ w) hops
not_there hops p w asc below here k d l e = elim (cases_order k p) [
  | inl same ↦ let at : w < (get_or hops p d).node = here (omega arith) d in omega (arith, at, ap (λ x. (get_or hops x d).node) same)
  | inr other ↦ elim other [
    | inl lt ↦ let at : (get_or hops k d).node < w = below k d (omega arith) lt in omega arith
    | inr gt ↦
        let at : w < (get_or hops p d).node = here (omega arith) d in
        let after : (get_or hops p d).node < (get_or hops k d).node = asc p k d gt l in omega arith
  ]
]

-- a hop from the place on that is not w leads beyond w
pub strictly : (hops : List Hop) (p w : ℕ) (e : Hop) → p < length hops → ((get_or hops p e).node ≡ w → ⊥) → HoldsAt (λ h. w ≤ h.node) hops p → (d : Hop) → w < (get_or hops p d).node
strictly hops p w e l ne at d = let same : get_or hops p e ≡ get_or hops p d = get_or_default hops p e d l in
    let le : w ≤ (get_or hops p d).node = at d in
    let apart : (get_or hops p d).node ≢ w = λ x. ne (ap (λ (h : Hop). h.node) same ∙ x) in
    omega arith

-- a hop that was found is a link
pub found_link : (links : List Link) (v w : ℕ) (hops : List Hop) (o : Option ℕ) → AreHops links v hops → IfSome o (λ i. Contains hops (record { node = w; link = i })) → IfSome o (λ i. JoinsAt links i v w)
found_link links v w hops None are h = h
found_link links v w hops (Some i) are h = AreHops_gives links v i w hops are h

-- a hop that was not found is none
pub no_link : (links : List Link) (v w : ℕ) (hops : List Hop) (o : Option ℕ) → AreHops links v hops → IfNone o (All (λ h. h.node ≢ w) hops) → IfNone o (any_joins links v w ≡ false)
no_link links v w hops None are h = AreHops_none links v w hops are h
no_link links v w hops (Some i) are h = h

-- so seen from the other node
pub found_back : (links : List Link) (v w : ℕ) (o : Option ℕ) → IfSome o (λ i. JoinsAt links i v w) → IfSome o (λ i. JoinsAt links i w v)
found_back links v w None h = h
found_back links v w (Some i) h = (h.0, h.1, joins_comm h.0 w v ∙ h.2)

pub none_back : (links : List Link) (v w : ℕ) (o : Option ℕ) → IfNone o (any_joins links v w ≡ false) → IfNone o (any_joins links w v ≡ false)
none_back links v w None h = any_joins_comm links w v ∙ h
none_back links v w (Some i) h = h

-- ---- the hops of a node

-- a hop leads along a link
pub hop_linked : (g : Network) (v : ℕ) (hops : List Hop) (k : ℕ) (e : Hop) → AreHops g.links v hops → k < length hops → linked g v (get_or hops k e).node ≡ true
hop_linked g v hops k e are l = any_joins-from g.links (get_or hops k e).link v (get_or hops k e).node (are.sound k e l)

-- each link has its hop
pub linked_hop : (g : Network) (v w : ℕ) (hops : List Hop) → AreHops g.links v hops → linked g v w ≡ true → (k : ℕ) × (k < length hops) × ((e : Hop) → (get_or hops k e).node ≡ w)
linked_hop g v w hops are l =
    let number = any_joins_gives g.links v w l in
    let at = are.complete number.0 w number.1 in
    (at.0, at.1, λ e. ap (λ (h : Hop). h.node) (get_or_default hops at.0 e (record { node = w; link = number.0 }) at.1 ∙ at.2))

-- hops lead to nodes
pub hops_below : (g : Network) (v : ℕ) (hops : List Hop) (n : ℕ) → IsGraph g → AreHops g.links v hops → n ≡ g.nodes → All (λ h. h.node < n) hops
hops_below g v hops n graph are same k d l =
    let ends = linked_below g.nodes g.links v (get_or hops k d).node graph (any_joins-from g.links (get_or hops k d).link v (get_or hops k d).node (are.sound k d l)) in
    omega (arith, ends.1, same)

-- a link joins the two where its number is found
pub is_some_linked : (g : Network) (a b : ℕ) (r : Option ℕ) → IfSome r (λ i. JoinsAt g.links i a b) → IfNone r (linked g a b ≡ false) → is_some r ≡ linked g a b
is_some_linked g a b None found none = sym none
is_some_linked g a b (Some i) found none = sym (any_joins-from g.links i a b found)

-- numbers that are no nodes are not linked
pub not_linked : (g : Network) (a b : ℕ) → IsGraph g → (g.nodes ≤ a) ⊎ ((a < g.nodes) × (g.nodes ≤ b)) → linked g a b ≡ false
not_linked g a b graph out = elim (cases_Bool (linked g a b)) [
  | inl joined ↦ let below = linked_below g.nodes g.links a b graph joined in elim out [ inl l ↦ absurd (omega (arith, l, below.0)) | inr l ↦ absurd (omega (arith, l.1, below.1)) ]
  | inr none ↦ none
]

-- ---- one more link

-- a link keeps its number
pub JoinsAt-push : (links : List Link) (l : Link) (i a b : ℕ) → JoinsAt links i a b → JoinsAt (links ++ l ∷ []) i a b
JoinsAt-push links l i a b h = (h.0, slice_get-append links (l ∷ []) i h.0 h.1, h.2)

-- the other end of a link
other_end_is : (l : Link) (v u w : ℕ) → joins l v u ≡ true → joins l v w ≡ true → u ≡ w
other_end_is l v u w h k = let first = joins_gives l v u h in let second = joins_gives l v w k in grind arith

-- the hops of a node with that of a new link
pub AreHops-insert : (links : List Link) (v : ℕ) (l : Link) (hops : List Hop) (p w i : ℕ) → AreHops links v hops → joins l v w ≡ true → any_joins links v w ≡ false → i ≡ length links
    → p ≤ length hops → AllWithin (λ h. h.node < w) hops 0 p → (p < length hops → HoldsAt (λ h. w ≤ h.node) hops p) → AreHops (links ++ l ∷ []) v (insert hops p (record { node = w; link = i }))
AreHops-insert links v l hops p w i are joined new is_last le below here =
    let hop : Hop = record { node = w; link = i } in
    record {
      ascending = AllPairs-insert (λ (h k : Hop). h.node < k.node) hops p hop le are.ascending (λ k d l. below k d (omega arith) l) (λ k d m l. after k d m l);
      sound = All-append (λ (h : Hop). JoinsAt (links ++ l ∷ []) h.link v h.node) (take p hops) (hop ∷ drop p hops)
          (All-take (λ (h : Hop). JoinsAt (links ++ l ∷ []) h.link v h.node) p hops wider)
          (All-cons (λ (h : Hop). JoinsAt (links ++ l ∷ []) h.link v h.node) hop (drop p hops) (l, ap (slice_get (links ++ l ∷ [])) is_last ∙ slice_get_last links l, joined)
          (All-drop (λ (h : Hop). JoinsAt (links ++ l ∷ []) h.link v h.node) p hops wider));
      complete = λ j u h. elim (slice_get_push_cases links l h.0 j h.1) [
        | inl old ↦ let at = are.complete j u (h.0, old, h.2) in (in_insert hops p at.0 hop (record { node = u; link = j }) le at.1 (sym at.2)).1
        | inr last ↦
            let same : u ≡ w = other_end_is l v u w (ap (λ x. joins x v u) last.1 ∙ h.2) joined in
            (p, omega (arith, length-insert hops p hop le), get_or-insert_at hops p hop (record { node = u; link = j }) le ∙ ap₂ (λ (x y : ℕ). let h : Hop = record { node = x; link = y } in h) (sym same) (is_last ∙ sym last.0))
      ];
    }
  where
    differs : All (λ h. h.node ≢ w) hops
    differs = λ k d lt e. both_ways (any_joins links v w) new (any_joins-from links (get_or hops k d).link v w (subst (λ x. JoinsAt links (get_or hops k d).link v x) e (are.sound k d lt)))

    after : (k : ℕ) (d : Hop) → p ≤ k → k < length hops → w < (get_or hops k d).node
    after k d m lt = elim (cases_eq p k) [
      | inl same ↦ let at : w ≤ (get_or hops p d).node = here (omega arith) d in
          let eq : (get_or hops p d).node ≡ (get_or hops k d).node = ap (λ x. (get_or hops x d).node) same in
          let ne : (get_or hops k d).node ≢ w = differs k d lt in omega arith
      | inr ne ↦ let at : w ≤ (get_or hops p d).node = here (omega arith) d in
          let up : (get_or hops p d).node < (get_or hops k d).node = are.ascending p k d (omega arith) lt in omega arith
    ]

    wider : All (λ (h : Hop). JoinsAt (links ++ l ∷ []) h.link v h.node) hops
    wider = λ k d lt. JoinsAt-push links l (get_or hops k d).link v (get_or hops k d).node (are.sound k d lt)

-- the row of a node that is no end of the new link stays
pub AreHops-push : (links : List Link) (v : ℕ) (l : Link) (hops : List Hop) → AreHops links v hops → ((w : ℕ) → joins l v w ≡ false) → AreHops (links ++ l ∷ []) v hops
AreHops-push links v l hops are apart = record {
  ascending = are.ascending;
  sound = λ k d lt. JoinsAt-push links l (get_or hops k d).link v (get_or hops k d).node (are.sound k d lt);
  complete = λ j u h. elim (slice_get_push_cases links l h.0 j h.1) [
    | inl old ↦ are.complete j u (h.0, old, h.2)
    | inr last ↦ absurd (both_ways (joins l v u) (apart u) (ap (λ x. joins x v u) last.1 ∙ h.2))
  ];
}

-- no links, no hops
pub AreHops-nil : (v : ℕ) → AreHops [] v []
AreHops-nil v = record { ascending = λ i j d l m. absurd (omega arith); sound = λ k d l. absurd (omega arith); complete = λ i w h. absurd (none h.0 h.1) }
  where
    none : (x : Link) → None ≡ Some x → ⊥
    none x e = cc

-- the ends may be exchanged
pub joins-swap : (k l : Link) → joins k l.a l.b ≡ joins l k.a k.b
unfolding joins
joins-swap k l = grind (arith, nat_tests)

-- a new link joins what it joins
pub any_joins-push : (ls : List Link) (l : Link) (a b : ℕ) → any_joins (ls ++ l ∷ []) a b ≡ (any_joins ls a b || joins l a b)
unfolding any_joins
any_joins-push [] l a b = grind arith
any_joins-push (k ∷ ls) l a b = let rest = any_joins-push ls l a b in grind (arith, rest)

-- a new link beside links of a graph
pub AreLinks-push : (n : ℕ) (ls : List Link) (l : Link) → AreLinks n ls → l.a < l.b → l.b < n → any_joins ls l.a l.b ≡ false → AreLinks n (ls ++ l ∷ [])
unfolding any_joins
AreLinks-push n [] l are lt below new = (lt, below, refl, tt)
AreLinks-push n (k ∷ ls) l are lt below new =
    let parts : (joins k l.a l.b ≡ false) × (any_joins ls l.a l.b ≡ false) = or_parts _ _ new in
    (are.0, are.1, any_joins-push ls l k.a k.b ∙ or_from _ _ are.2 (sym (joins-swap k l) ∙ parts.0), AreLinks-push n ls l are.3 lt below parts.1)
