-- The links between marked nodes, and a link more.
use Rattle.std.proofs.Common.{◌≡◌, ℕ, zero, suc, ◌<◌, Bool, true, false, ◌&&◌, ◌||◌, ◌==◌, List, [], ◌∷◌, ◌++◌, length, get_or, All, refl, sym, ap, ap₂, ◌∙◌, subst, inl, inr, arith}
use Rattle.std.specs.List.{filter, list_any}
use Rattle.std.proofs.lemmas.Bool.{cases_Bool}
use Rattle.std.proofs.lemmas.Bool.Decides.{nat_tests}
use Rattle.std.proofs.lemmas.List.{length_push}
use Rattle.tomo_base.specs.declared.graph.Link.{Link}
use Rattle.tomo_base.specs.Network.{joins, any_joins, AreLinks}
use Rattle.tomo_base.specs.Search.{mark_of}
use Rattle.tomo_base.proofs.Links.{joins_gives, any_joins_comm}
use Rattle.tomo_base.proofs.Rows.{any_joins-push, AreLinks-push}
use Rattle.split_tree.specs.declared.piece.Piece.{Piece}
use Rattle.split_tree.specs.Parts.{is_inside, IsMarkedPart}
use Rattle.tomo_base.proofs.Lists.{filter_le}

-- a link that joins u and v is between marked nodes where both have marks
ends_marked : (marks : List Bool) (l : Link) (u v : ℕ) → joins l u v ≡ true → is_inside marks l ≡ (mark_of marks u && mark_of marks v)
ends_marked marks l u v h = elim (joins_gives l u v h) [
  | inl e ↦ ap₂ (λ x y. mark_of marks x && mark_of marks y) e.0 e.1
  | inr e ↦ ap₂ (λ x y. mark_of marks x && mark_of marks y) e.0 e.1 ∙ comm (mark_of marks v) (mark_of marks u)
]
  where
    comm : (x y : Bool) → (x && y) ≡ (y && x)
    comm x y = grind arith

kept_joins : (j a m : Bool) → (j ≡ true → m ≡ true) → (j || (a && m)) ≡ ((j || a) && m)
kept_joins true a m h = rw (h refl) refl
kept_joins false a m h = refl

left_out : (j a m : Bool) → (j ≡ true → m ≡ false) → (a && m) ≡ ((j || a) && m)
left_out true a m h = rw (h refl) (none a)
  where
    none : (a : Bool) → (a && false) ≡ false
    none true = refl
    none false = refl
left_out false a m h = refl

-- the links between marked nodes join the marked nodes that are joined
pub any_filter : (marks : List Bool) (ls : List Link) (u v : ℕ) → any_joins (filter (is_inside marks) ls) u v ≡ (any_joins ls u v && (mark_of marks u && mark_of marks v))
unfolding any_joins
any_filter marks [] u v = refl
any_filter marks (l ∷ ls) u v =
    let rest = any_filter marks ls u v in
    elim (cases_Bool (is_inside marks l)) [
      | inl e ↦ rw (e, rest) (kept_joins (joins l u v) (any_joins ls u v) (mark_of marks u && mark_of marks v) (λ j. sym (ends_marked marks l u v j) ∙ e))
      | inr e ↦ rw (e, rest) (left_out (joins l u v) (any_joins ls u v) (mark_of marks u && mark_of marks v) (λ j. sym (ends_marked marks l u v j) ∙ e))
    ]

-- they are links of a graph
pub AreLinks-filter : (n : ℕ) (marks : List Bool) (ls : List Link) → AreLinks n ls → AreLinks n (filter (is_inside marks) ls)
AreLinks-filter n marks [] are = tt
AreLinks-filter n marks (l ∷ ls) are = elim (cases_Bool (is_inside marks l)) [
  | inl e ↦ rw e (are.0, are.1, any_filter marks ls l.a l.b ∙ ap (λ b. b && (mark_of marks l.a && mark_of marks l.b)) are.2, AreLinks-filter n marks ls are.3)
  | inr e ↦ rw e (AreLinks-filter n marks ls are.3)
]

-- the ends of links are nodes
pub links_below : (n : ℕ) (ls : List Link) → AreLinks n ls → All (λ (l : Link). (l.a < n) × (l.b < n)) ls
links_below n [] are k d lt = absurd (omega (arith, lt))
links_below n (l ∷ ls) are zero d lt = (omega (arith, are.0, are.1), are.1)
links_below n (l ∷ ls) are (suc k) d lt = links_below n ls are.3 k d (omega (arith, lt))

pub filter_less : {X : Type 0} (p : X → Bool) (xs : List X) (k : ℕ) (d : X) → k < length xs → p (get_or xs k d) ≡ false → length (filter p xs) < length xs
filter_less p [] k d l out = absurd (omega (arith, l))
filter_less p (x ∷ xs) zero d l out = rw out (omega (arith, filter_le p xs))
filter_less p (x ∷ xs) (suc k) d l out =
    let rest : length (filter p xs) < length xs = filter_less p xs k d (omega (arith, l)) out in
    elim (cases_Bool (p x)) [ inl e ↦ rw e (omega (arith, rest)) | inr e ↦ rw e (omega (arith, rest)) ]

-- whether a link is one of these
same_ends : (l : Link) (a b : ℕ) → l.a < l.b → a < b → ((l.a == a) && (l.b == b)) ≡ joins l a b
unfolding joins
same_ends l a b up lt = grind (arith, nat_tests)

pub any_is : (n : ℕ) (ls : List Link) (a b : ℕ) → AreLinks n ls → a < b → list_any (λ (l : Link). (l.a == a) && (l.b == b)) ls ≡ any_joins ls a b
unfolding any_joins
any_is n [] a b are lt = refl
any_is n (l ∷ ls) a b are lt = ap₂ (λ x y. x || y) (same_ends l a b are.0 lt) (any_is n ls a b are.3 lt)

-- a link that is there need not be added
already : (ls : List Link) (pair : Link) (u v : ℕ) → any_joins ls pair.a pair.b ≡ true → any_joins ls u v ≡ (any_joins ls u v || joins pair u v)
already ls pair u v there = elim (cases_Bool (joins pair u v)) [
  | inl j ↦ elim (joins_gives pair u v j) [
    | inl e ↦ (let here : any_joins ls u v ≡ true = subst (λ z. any_joins ls u z ≡ true) e.1 (subst (λ z. any_joins ls z pair.b ≡ true) e.0 there) in rw here refl)
    | inr e ↦ (let here : any_joins ls u v ≡ true = any_joins_comm ls u v ∙ subst (λ z. any_joins ls v z ≡ true) e.1 (subst (λ z. any_joins ls z pair.b ≡ true) e.0 there) in rw here refl)
  ]
  | inr no_join ↦ rw no_join (sym (plain (any_joins ls u v)))
]
  where
    plain : (b : Bool) → (b || false) ≡ b
    plain true = refl
    plain false = refl

-- a part whose pair was linked already, and one to which the link was added
pub marked_linked : (n : ℕ) (whole : Piece) (marks : List Bool) (pair : Link) (nodes : List ℕ) (kept links : List Link) → AreLinks n whole.links → pair.a < pair.b
    → nodes ≡ filter (mark_of marks) whole.nodes → kept ≡ filter (is_inside marks) whole.links → list_any (λ (l : Link). (l.a == pair.a) && (l.b == pair.b)) kept ≡ true → links ≡ kept
    → IsMarkedPart n whole marks pair (record { nodes = nodes; links = links })
marked_linked n whole marks pair nodes kept links are lt nodes_are kept_are there links_are =
    let are_kept : AreLinks n kept = rw kept_are (AreLinks-filter n marks whole.links are) in
    record {
      nodes_are = nodes_are;
      graph = rw links_are are_kept;
      links_are = λ u v. ap (λ ls. any_joins ls u v) links_are ∙ (already kept pair u v (sym (any_is n kept pair.a pair.b are_kept lt) ∙ there) ∙ ap (λ ls. any_joins ls u v || joins pair u v) kept_are);
      few = omega (arith, ap length links_are, ap length kept_are);
    }

pub marked_added : (n : ℕ) (whole : Piece) (marks : List Bool) (pair : Link) (nodes : List ℕ) (kept links : List Link) → AreLinks n whole.links → pair.a < pair.b → pair.b < n
    → nodes ≡ filter (mark_of marks) whole.nodes → kept ≡ filter (is_inside marks) whole.links → list_any (λ (l : Link). (l.a == pair.a) && (l.b == pair.b)) kept ≡ false → links ≡ kept ++ pair ∷ []
    → IsMarkedPart n whole marks pair (record { nodes = nodes; links = links })
marked_added n whole marks pair nodes kept links are lt below nodes_are kept_are new links_are =
    let are_kept : AreLinks n kept = rw kept_are (AreLinks-filter n marks whole.links are) in
    record {
      nodes_are = nodes_are;
      graph = rw links_are (AreLinks-push n kept pair are_kept lt below (sym (any_is n kept pair.a pair.b are_kept lt) ∙ new));
      links_are = λ u v. ap (λ ls. any_joins ls u v) links_are ∙ (any_joins-push kept pair u v ∙ ap (λ ls. any_joins ls u v || joins pair u v) kept_are);
      few = omega (arith, ap length links_are, length_push kept pair, ap length kept_are);
    }
