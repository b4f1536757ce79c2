-- What entering a link in the rows of its two ends does to them, and the first fault of a list of links.
use Rattle.std.proofs.Common.{◌≡◌, ◌≢◌, ℕ, ◌+◌, ◌<◌, ◌≤◌, ◌⊎◌, true, false, ◌||◌, nat_lt, List, [], ◌∷◌, ◌++◌, map, length, get_or, set, take, Some, None, Option, is_some, IfSome, IfNone, All, Contains, Vec, refl, sym, ap, ◌∙◌, inl, inr, arith, ap₂, length-append, length-set, get_or-set_same, get_or-set_other}
use Rattle.std.specs.Global.{Global}
use Rattle.std.proofs.lemmas.Bool.{cases_Bool, cases_eq, cases_order, false≢true, true≢false, ltb-true, ltb-false}
use Rattle.std.proofs.lemmas.Bool.Decides.{nat_tests}
use Rattle.std.proofs.lemmas.List.{length-map, length-take-le, map_more, get_or_append_left, get_or_push}
use Rattle.tomo_base.specs.declared.graph.Link.{Link}
use Rattle.tomo_base.specs.declared.graph.Hop.{Hop}
use Rattle.tomo_base.specs.Network.{joins, any_joins, AreLinks}
use Rattle.tomo_base.specs.Table.{JoinsAt, AreHops, AreRows, in_order, FollowsFine}
use Rattle.tomo_base.proofs.Links.{any_joins_comm}
use Rattle.tomo_base.proofs.Rows.{AreHops-push, AreHops-nil, any_joins-from, AreHops_gives, no_link}
use Rattle.std.proofs.lemmas.Option.{slice_get-get_or}

-- a link joins its ends
pub joins_its_ends : (l : Link) → joins l l.a l.b ≡ true
unfolding joins
joins_its_ends l = grind (arith, nat_tests)

-- a link joins no other node to another
joins_others : (l : Link) (v : ℕ) → v ≢ l.a → v ≢ l.b → (w : ℕ) → joins l v w ≡ false
unfolding joins
joins_others l v na nb w = grind (arith, nat_tests)

-- the rows after both ends of a link have it
pub rows_after : (links : List Link) (l : Link) (rows : List (Vec Hop Global)) (low high d₁ d₂ : Vec Hop Global) → l.a < l.b → l.b < length rows → AreRows links rows
    → (AreHops links l.a (get_or rows l.a d₁).items → AreHops (links ++ l ∷ []) l.a low.items)
    → (AreHops links l.b (get_or (set rows l.a low) l.b d₂).items → AreHops (links ++ l ∷ []) l.b high.items)
    → AreRows (links ++ l ∷ []) (set (set rows l.a low) l.b high)
rows_after links l rows low high d₁ d₂ lt within are first second v d bound =
    let ne : l.b ≢ l.a = omega arith in
    let len : length (set rows l.a low) ≡ length rows = length-set rows l.a low in
    let bound' : v < length rows = omega (arith, length-set (set rows l.a low) l.b high, len, bound) in
    elim (cases_eq v l.b) [
      | inl same ↦
          let all : AreHops (links ++ l ∷ []) l.b high.items = second (rw (get_or-set_other rows l.a l.b low d₂ ne) (are l.b d₂ within)) in
          rw (same, get_or-set_same (set rows l.a low) l.b high d (omega arith)) all
      | inr nb ↦ rw (get_or-set_other (set rows l.a low) l.b v high d nb) (elim (cases_eq v l.a) [
        | inl same ↦ let all : AreHops (links ++ l ∷ []) l.a low.items = first (are l.a d₁ (omega arith)) in
            rw (same, get_or-set_same rows l.a low d (omega arith)) all
        | inr na ↦ rw (get_or-set_other rows l.a v low d na) (AreHops-push links v l (get_or rows v d).items (are v d bound') (joins_others l v na nb))
      ])
    ]

-- one more empty row
pub rows_push : (rows : List (Vec Hop Global)) (r : Vec Hop Global) → r.items ≡ [] → AreRows [] rows → AreRows [] (rows ++ r ∷ [])
rows_push rows r empty are v d l = elim (cases_order v (length rows)) [
  | inl same ↦ rw (get_or_push rows r d v (sym same), empty) (AreHops-nil v)
  | inr other ↦ elim other [
    | inl lt ↦ rw (get_or_append_left rows (r ∷ []) d v lt) (are v d lt)
    | inr gt ↦ absurd (omega (arith, l, length-append rows (r ∷ [])))
  ]
]

-- ---- the first fault

-- the higher end, above n
pub in_order_high : (n : ℕ) (l : Link) → n ≤ (in_order l).b → (n ≤ l.a) ⊎ (n ≤ l.b)
in_order_high n l h = elim (cases_Bool (nat_lt l.b l.a))
    [ inl e ↦ inl (rw e at h) | inr e ↦ inr (rw e at h) ]

-- both ends, below n
pub in_order_ends : (l : Link) → (((in_order l).a ≡ l.a) × ((in_order l).b ≡ l.b) × (l.a ≤ l.b)) ⊎ (((in_order l).a ≡ l.b) × ((in_order l).b ≡ l.a) × (l.b < l.a))
in_order_ends l = elim (cases_Bool (nat_lt l.b l.a))
    [ inl e ↦ inr (rw e (refl, refl, ltb-true l.b l.a e)) | inr e ↦ inl (rw e (refl, refl, ltb-false l.b l.a e)) ]

-- a turned link joins the same nodes
joins-in_order : (l : Link) (a b : ℕ) → joins (in_order l) a b ≡ joins l a b
unfolding joins
joins-in_order l a b = elim (cases_Bool (nat_lt l.b l.a)) [ inl e ↦ rw e (grind arith) | inr e ↦ rw e refl ]

-- so does a list of turned links
pub any_joins-in_order : (ls : List Link) (a b : ℕ) → any_joins (map in_order ls) a b ≡ any_joins ls a b
unfolding any_joins
any_joins-in_order [] a b = refl
any_joins-in_order (l ∷ ls) a b = ap₂ ◌||◌ (joins-in_order l a b) (any_joins-in_order ls a b)

-- the places before i are fine, and the link at i is l
pub first_at : (n : ℕ) (links kept : List Link) (i : ℕ) (d : Link) → i < length links → kept ≡ map in_order (take i links) → AreLinks n kept → FollowsFine n links i (get_or links i d)
first_at n links kept i d l same are = record { fine = rw (sym same) are; there = slice_get-get_or links i d l }

-- a link that stands already, and the given one that it repeats
pub repeats : (links kept : List Link) (i : ℕ) (l : Link) (hops : List Hop) (o : Option ℕ) → kept ≡ map in_order (take i links) → AreHops kept (in_order l).a hops
    → IfSome o (λ k. Contains hops (record { node = (in_order l).b; link = k })) → is_some o ≡ true → any_joins (take i links) l.a l.b ≡ true
repeats links kept i l hops None same are found some = absurd (false≢true some)
repeats links kept i l hops (Some k) same are found some =
    let at : JoinsAt kept k (in_order l).a (in_order l).b = AreHops_gives kept (in_order l).a k (in_order l).b hops are found in
    let old : any_joins (take i links) (in_order l).a (in_order l).b ≡ true = sym (any_joins-in_order (take i links) (in_order l).a (in_order l).b) ∙ (ap (λ ls. any_joins ls (in_order l).a (in_order l).b) (sym same) ∙ any_joins-from kept k (in_order l).a (in_order l).b at) in
    elim (in_order_ends l) [
      | inl e ↦ rw (e.0, e.1) at old
      | inr e ↦ any_joins_comm (take i links) l.a l.b ∙ rw (e.0, e.1) at old
    ]

-- a link with two different ends, both nodes, that does not stand yet
pub kept_more : (n : ℕ) (links kept : List Link) (i : ℕ) (d : Link) → i < length links → kept ≡ map in_order (take i links) → kept ++ in_order (get_or links i d) ∷ [] ≡ map in_order (take (i + 1) links)
kept_more n links kept i d l same = ap (λ ls. ls ++ in_order (get_or links i d) ∷ []) same ∙ sym (map_more in_order links i d l)

-- the ends of a turned link ascend
pub ordered_ends : (l : Link) → ((in_order l).a ≡ (in_order l).b → ⊥) → (in_order l).a < (in_order l).b
ordered_ends l ne = elim (in_order_ends l) [ inl e ↦ omega (arith, e.0, e.1, e.2, ne) | inr e ↦ omega (arith, e.0, e.1, e.2) ]

-- two equal ends are those of a loop
pub loop_ends : (n : ℕ) (l k : Link) → k ≡ in_order l → k.a ≡ k.b → k.b < n → (l.a < n) × (l.a ≡ l.b)
loop_ends n l k same equal below =
    let first : k.a ≡ (in_order l).a = ap (λ (x : Link). x.a) same in
    let second : k.b ≡ (in_order l).b = ap (λ (x : Link). x.b) same in
    elim (in_order_ends l) [ inl e ↦ (omega (arith, e.0, e.1, first, second), omega (arith, e.0, e.1, first, second)) | inr e ↦ (omega (arith, e.0, e.1, first, second), omega (arith, e.0, e.1, first, second)) ]

-- two different ends, in order
pub two_ends : (n : ℕ) (l k : Link) → k ≡ in_order l → (k.a ≡ k.b → ⊥) → k.b < n → (l.a < n) × (l.b < n) × (l.a ≡ l.b → ⊥) × (k.a < k.b)
two_ends n l k same ne below =
    let first : k.a ≡ (in_order l).a = ap (λ (x : Link). x.a) same in
    let second : k.b ≡ (in_order l).b = ap (λ (x : Link). x.b) same in
    let differ : k.a ≢ k.b = ne in
    elim (in_order_ends l) [
      | inl e ↦ (omega (arith, e.0, e.1, e.2, first, second), omega (arith, e.0, e.1, first, second), omega (arith, e.0, e.1, first, second), omega (arith, e.0, e.1, e.2, first, second))
      | inr e ↦ (omega (arith, e.0, e.1, e.2, first, second), omega (arith, e.0, e.1, e.2, first, second), omega (arith, e.0, e.1, first, second), omega (arith, e.0, e.1, e.2, first, second))
    ]

-- the row that was read is that of the node
pub row_read : (links : List Link) (rows : List (Vec Hop Global)) (a : ℕ) (row : Vec Hop Global) (xs : List Hop) → AreRows links rows → a < length rows → row ≡ get_or rows a row → xs ≡ row.items → AreHops links a xs
row_read links rows a row xs are lt row_is xs_is = rw (xs_is, row_is) (are a row lt)

-- a row without the node has no link to it
pub no_link_yet : (links : List Link) (v w : ℕ) (hops : List Hop) (o : Option ℕ) → AreHops links v hops → IfNone o (All (λ h. h.node ≢ w) hops) → is_some o ≡ false → any_joins links v w ≡ false
no_link_yet links v w hops None are none missing = no_link links v w hops None are none
no_link_yet links v w hops (Some i) are none missing = absurd (true≢false missing)

-- as many links are kept as were read
pub length-kept : (links kept : List Link) (i : ℕ) → i ≤ length links → kept ≡ map in_order (take i links) → length kept ≡ i
length-kept links kept i le same = ap length same ∙ (length-map (take i links) in_order ∙ length-take-le i links le)
