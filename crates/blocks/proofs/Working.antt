-- Blocks by walks and by closed sets; lists of parts and of what was found; sets with the same nodes.
use Rattle.std.proofs.Common.{◌≡◌, ℕ, zero, suc, ◌≤◌, ◌<◌, Bool, true, false, ◌&&◌, List, [], ◌∷◌, ◌++◌, map, reverse, Contains, IsTrue, Vec, refl, sym, ap, ◌∙◌, inl, inr, arith, subst}
use Rattle.std.specs.Global.{Global}
use Rattle.std.proofs.lemmas.Bool.{and_parts, and_from, both_ways, false_from_ne_true}
use Rattle.std.proofs.lemmas.List.{reverse-append}
use Rattle.std.proofs.lemmas.List.Elements.{Contains-append_left, Contains-append_right, Contains-append_cases}
use Rattle.tomo_base.specs.Network.{Network, IsGraph}
use Rattle.tomo_base.specs.Sets.{has, without, Within}
use Rattle.tomo_base.specs.Blocks.{IsNonseparable, IsBlock}
use Rattle.tomo_base.proofs.Counts.{count-same}
use Rattle.tomo_base.specs.Parting.{IsJoinedIn}
use Rattle.tomo_base.proofs.Parting.{without-from, without-parts, joined-same, joined-each}
use Rattle.tomo_base.proofs.Reaching.{is_node, nodes_in, is_node-from, is_node_below, connected-joined, joined-connected}
use Rattle.tomo_base.proofs.Walks.{connected_inside}
use Rattle.tomo_base.proofs.Picks.{count-within}
use Rattle.blocks.specs.Cutting.{BlockLike, MeetOne, Each, Some, Rough, Cutting}
use Rattle.blocks.specs.Working.{sets_in}
use Rattle.blocks.proofs.SetLists.{each-map}
use Rattle.blocks.proofs.CutSets.{Block, meet-one, meet-sym, owner-ext}

-- ---- sets that no node cuts, by walks and by closed sets

-- by closed sets, from walks: for the nodes of a set
pub like-from : (g : Network) (s : ℕ → Bool) → IsGraph g → IsNonseparable g s → BlockLike g g.nodes (nodes_in g s)
like-from g s graph is =
    let n = g.nodes in
    let S : ℕ → Bool = nodes_in g s in
    let node : (v : ℕ) → IsTrue (S v) → v < n = λ v m. is_node_below g v (and_parts (is_node g v) (s v) m).0 in
    let same : (v : ℕ) → v < n → S v ≡ s v = λ v l. ap (λ b. b && s v) (is_node-from g v l) in
    let firm : IsJoinedIn g S = connected-joined g S node (connected_inside g s S graph (λ v l h. same v l ∙ h) (λ v l h. sym (same v l) ∙ h) is.connected) in
    record {
      two = subst (λ k. 2 ≤ k) (sym (count-same n S s same)) is.two;
      firm = joined-each g S firm (λ w m.
          connected-joined g (without S w) (λ v i. node v (without-parts S w v i).0)
          (connected_inside g (without s w) (without S w) graph
          (λ v l h. let p = without-parts s w v h in without-from S w v (same v l ∙ p.0) p.1)
          (λ v l h. let p = without-parts S w v h in without-from s w v (sym (same v l) ∙ p.0) p.1)
          (is.without_one w (and_parts (is_node g w) (s w) m).1)));
    }

-- and by walks, from closed sets
pub like-to : (g : Network) (S : ℕ → Bool) → IsGraph g → ((v : ℕ) → IsTrue (S v) → v < g.nodes) → BlockLike g g.nodes S → IsNonseparable g S
like-to g S graph node like =
    let out : S g.nodes ≡ false = false_from_ne_true (S g.nodes) (λ h. omega (arith, node g.nodes h)) in
    record {
      two = like.two;
      connected = joined-connected g S graph (joined-same g (without S g.nodes) S (λ v i. (without-parts S g.nodes v i).0)
          (λ v i. without-from S g.nodes v i (λ e. both_ways (S g.nodes) out (subst (λ z. IsTrue (S z)) e i))) (like.firm g.nodes));
      without_one = λ c h. joined-connected g (without S c) graph (like.firm c);
    }

-- a block by closed sets is a block
pub block-to : (g : Network) (B : ℕ → Bool) → IsGraph g → Block g g.nodes (is_node g) B → IsBlock g B
block-to g B graph b =
    let node : (v : ℕ) → IsTrue (B v) → v < g.nodes = λ v m. is_node_below g v (b.inside v m) in
    record {
      nonseparable = like-to g B graph node b.like;
      largest = λ s is inside v l h. b.largest (nodes_in g s) (like-from g s graph is) (λ w m. (and_parts (is_node g w) (s w) m).0)
          (λ w m. and_from (is_node g w) (s w) (b.inside w m) (inside w (node w m) m)) v (and_from (is_node g v) (s v) (is_node-from g v l) h);
    }

-- and the other way round
pub block-from : (g : Network) (b : ℕ → Bool) → IsGraph g → IsBlock g b → Block g g.nodes (is_node g) (nodes_in g b)
block-from g b graph is = record {
  inside = λ v m. (and_parts (is_node g v) (b v) m).0;
  like = like-from g b graph is.nonseparable;
  largest = λ T like tv sub v m. and_from (is_node g v) (b v) (tv v m)
      (is.largest T (like-to g T graph (λ w i. is_node_below g w (tv w i)) like) (λ w l h. sub w (and_from (is_node g w) (b w) (is_node-from g w l) h)) v (is_node_below g v (tv v m)) m);
}

-- ---- lists in the other order

-- what stands in a list stands in it turned round
pub contains_reverse : {X : Type 0} (xs : List X) (x : X) → Contains xs x → Contains (reverse xs) x
contains_reverse [] x h = absurd (omega (arith, h.1))
contains_reverse (y ∷ ys) x h = rw (reverse-append (y ∷ []) ys) (elim (Contains-append_cases (y ∷ []) ys x h) [
  | inl one ↦ Contains-append_right (reverse ys) (y ∷ []) x one
  | inr later ↦ Contains-append_left (reverse ys) (y ∷ []) x (contains_reverse ys x later)
])

-- and the other way
pub reverse_contains : {X : Type 0} (xs : List X) (x : X) → Contains (reverse xs) x → Contains xs x
reverse_contains [] x h = absurd (omega (arith, h.1))
reverse_contains (y ∷ ys) x h = elim (Contains-append_cases (reverse ys) (y ∷ []) x (rw (reverse-append (y ∷ []) ys) at h)) [
  | inl later ↦ Contains-append_right (y ∷ []) ys x (reverse_contains ys x later)
  | inr one ↦ Contains-append_left (y ∷ []) ys x one
]

-- a list of one
only_one : {X : Type 0} (y x : X) → Contains (y ∷ []) x → y ≡ x
only_one y x (zero, l, e) = e
only_one y x (suc k, l, e) = absurd (omega (arith, l))

-- a fact of each set of a list
pub each_at : {X : Type 0} (f : X → ℕ → Bool) (P : (ℕ → Bool) → Type 0) (xs : List X) (x : X) → Each P (map f xs) → Contains xs x → P (f x)
each_at f P [] x e h = absurd (omega (arith, h.1))
each_at f P (y ∷ ys) x e h = elim (Contains-append_cases (y ∷ []) ys x h) [ inl one ↦ subst (λ z. P (f z)) (only_one y x one) e.0 | inr later ↦ each_at f P ys x e.1 later ]

-- a set of a list with a fact
pub some_at : {X : Type 0} (f : X → ℕ → Bool) (P : (ℕ → Bool) → Type 0) (xs : List X) → Some P (map f xs) → (x : X) × Contains xs x × P (f x)
some_at f P [] h = absurd h
some_at f P (x ∷ xs) h = elim h [
  | inl p ↦ (x, (0, omega arith, refl), p)
  | inr r ↦ let s = some_at f P xs r in (s.0, Contains-append_right (x ∷ []) xs s.0 s.1, s.2)
]

-- the set that is put last on a list of sets is the first
pub sets_push : (lists : List (Vec ℕ Global)) (v : Vec ℕ Global) → sets_in (lists ++ v ∷ []) ≡ has v.items ∷ sets_in lists
sets_push lists v = ap (λ (vs : List (Vec ℕ Global)). map (λ (w : Vec ℕ Global). has w.items) vs) (reverse-append lists (v ∷ []))

-- ---- sets with the same nodes may stand for each other

-- in a set to be cut
rough-same : (g : Network) (V A B : ℕ → Bool) → Within A B → Within B A → Rough g g.nodes V A → Rough g g.nodes V B
rough-same g V A B ab ba r = record {
  inside = λ v m. r.inside v (ba v m);
  two = omega (arith, r.two, count-within g.nodes A B ab);
  firm = joined-same g A B ab ba r.firm;
  owner = owner-ext g V A B ab ba r.owner;
}

-- as the first of these
pub cutting-same : (g : Network) (V A B : ℕ → Bool) (todo out : List (ℕ → Bool)) → Within A B → Within B A → Cutting g g.nodes V (A ∷ todo) out → Cutting g g.nodes V (B ∷ todo) out
cutting-same g V A B todo out ab ba c = record {
  rough = (rough-same g V A B ab ba c.rough.0, c.rough.1);
  ready = c.ready;
  cover = λ T like tv. elim (c.cover T like tv) [
    | inl h ↦ elim h [ inl s ↦ inl (inl (λ v m. ab v (s v m))) | inr r ↦ inl (inr r) ]
    | inr r ↦ inr r
  ];
  apart = (each-map (MeetOne A) (MeetOne B) (λ X h. meet-one A X B X ba (λ v m. m) h) todo c.apart.0, c.apart.1);
  apart_out = c.apart_out;
  across = (each-map (MeetOne A) (MeetOne B) (λ X h. meet-one A X B X ba (λ v m. m) h) out c.across.0, c.across.1);
}

-- the first two may change places
pub cutting-swap : (g : Network) (V A B : ℕ → Bool) (todo out : List (ℕ → Bool)) → Cutting g g.nodes V (A ∷ (B ∷ todo)) out → Cutting g g.nodes V (B ∷ (A ∷ todo)) out
cutting-swap g V A B todo out c = record {
  rough = (c.rough.1.0, (c.rough.0, c.rough.1.1));
  ready = c.ready;
  cover = λ T like tv. elim (c.cover T like tv) [
    | inl h ↦ elim h [
      | inl s ↦ inl (inr (inl s))
      | inr r ↦ elim r [ inl s ↦ inl (inl s) | inr s ↦ inl (inr (inr s)) ]
    ]
    | inr r ↦ inr r
  ];
  apart = ((meet-sym A B c.apart.0.0, c.apart.1.0), (c.apart.0.1, c.apart.1.1));
  apart_out = c.apart_out;
  across = (c.across.1.0, (c.across.0, c.across.1.1));
}

-- two tests that imply each other agree
pub same_test : (a b : Bool) → (a ≡ true → b ≡ true) → (b ≡ true → a ≡ true) → a ≡ b
same_test true b h k = sym (h refl)
same_test false true h k = k refl
same_test false false h k = refl
