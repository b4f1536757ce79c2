-- The drawn links: each is a new link of the graph, and they join all nodes.
use Rattle.std.proofs.Common.{◌≡◌, ℕ, zero, suc, ◌+◌, ◌*◌, ◌<◌, ◌≤◌, true, false, List, [], ◌∷◌, ◌++◌, length, take, drop, find, refl, sym, ap, ap₂, ◌∙◌, subst, inl, inr, arith, Option, Some, None}
use Rattle.std.specs.List.{cons_option}
use Rattle.std.proofs.Math.Nat.{mod-lt}
use Rattle.std.proofs.lemmas.Bool.{cases_Bool, cases_lt, cases_eq, lt-ltb, le-ltb, or_cases, or_left, or_right, false≢true}
use Rattle.std.proofs.lemmas.List.{length_push}
use Rattle.std.proofs.lemmas.List.Elements.{All-append, All-take, All-drop}
use Rattle.tomo_base.specs.declared.graph.Link.{Link}
use Rattle.tomo_base.specs.Network.{Network, joins, any_joins, AreLinks}
use Rattle.tomo_base.specs.Walks.{Reaches, IsConnected, everything}
use Rattle.tomo_base.proofs.Entering.{joins_its_ends}
use Rattle.tomo_base.proofs.Links.{linked_below}
use Rattle.tomo_base.proofs.Rows.{any_joins-push, AreLinks-push}
use Rattle.tomo_base.proofs.Reached.{connected_from}
use Rattle.tomo_base.proofs.Walks.{Reaches-step}
use Rattle.tomo_base.proofs.Graphs.{AreLinks-more}
use Rattle.drill.specs.Draws.{next, step, draw, state}
use Rattle.drill.specs.Generated.{pair, IsPair, pairs, pair_count, is_free, first_free, next_link, generated, drawn_links}
use Rattle.drill.proofs.PairLists.{pairs_are, length-pairs}
use Rattle.drill.proofs.Hits.{found_free, some_free}

-- a number drawn below k is below k
pub draw_below : (k x : ℕ) → 0 < k → draw k x < k
unfolding draw
draw_below k x some = mod-lt (32768 * step x + step (next x)) some

-- link k, where it joins a node to one below it
tree_link : (n k x : ℕ) (links : List Link) → k + 1 < n → next_link n k x links ≡ Some (pair (draw (k + 1) x) (k + 1))
tree_link n k x links lt = rw (lt-ltb (k + 1) n lt) refl

-- and where it joins a free pair
free_link : (n k x : ℕ) (links : List Link) → n ≤ k + 1 → next_link n k x links ≡ first_free n links (draw (pair_count n) x)
free_link n k x links le = rw (le-ltb (k + 1) n le) refl

-- the first k links: a graph of so many links, and on the nodes up to k alone as long as these are not all
pub record AreDrawn (n k : ℕ) (links : List Link) : Type 0 where
  pub graph : AreLinks n links
  pub count : length links ≡ k
  pub low : k < n → AreLinks (k + 1) links

-- there is a link k, and it joins a free pair
pub record IsNextLink (n k : ℕ) (links : List Link) (o : Option Link) : Type 0 where
  pub link : Link
  pub is : o ≡ Some link
  pub fits : IsPair n link
  pub free : any_joins links link.a link.b ≡ false
  pub low : k + 1 < n → link.b ≡ k + 1

-- as long as there are fewer links than pairs
pub next_is : (n k x : ℕ) (links : List Link) → 3 ≤ n → k < pair_count n → AreDrawn n k links → IsNextLink n k links (next_link n k x links)
next_is n k x links some room are = elim (cases_lt (k + 1) n) [
  | inl lt ↦ record {
    link = pair (draw (k + 1) x) (k + 1);
    is = tree_link n k x links lt;
    fits = (draw_below (k + 1) x (omega arith), lt);
    free = elim (cases_Bool (any_joins links (draw (k + 1) x) (k + 1))) [
      | inl e ↦ absurd (omega (arith, linked_below (k + 1) links (draw (k + 1) x) (k + 1) (are.low (omega (arith, lt))) e))
      | inr e ↦ e
    ];
    low = λ _. refl;
  }
  | inr le ↦ (
      let place = draw (pair_count n) x in
      let found = some_free n n links place are.graph (omega (arith, are.count, room)) in
      let fits = found_free links (drop place (pairs n) ++ take place (pairs n)) found.0 n (All-append (IsPair n) (drop place (pairs n)) (take place (pairs n)) (All-drop (IsPair n) place (pairs n) (pairs_are n)) (All-take (IsPair n) place (pairs n) (pairs_are n))) found.1 in
      record {
        link = found.0;
        is = free_link n k x links le ∙ found.1;
        fits = fits.0;
        free = fits.1;
        low = λ lt. absurd (omega (arith, lt, le));
      })
]

-- one link more
pub links_more : (seed n k : ℕ) (p : Link) → next_link n k (state seed k) (drawn_links seed n k) ≡ Some p → drawn_links seed n (suc k) ≡ drawn_links seed n k ++ p ∷ []
unfolding drawn_links
links_more seed n k p is = ap (λ o. drawn_links seed n k ++ cons_option o []) is

-- the first k links are drawn as said
pub links_are : (seed n k : ℕ) → 3 ≤ n → k ≤ pair_count n → AreDrawn n k (drawn_links seed n k)
unfolding drawn_links
links_are seed n zero some room = record { graph = tt; count = refl; low = λ _. tt }
links_are seed n (suc k) some room =
    let before = links_are seed n k some (omega (arith, room)) in
    let next = next_is n k (state seed k) (drawn_links seed n k) some (omega (arith, room)) before in
    rw (links_more seed n k next.link next.is) (record {
      graph = AreLinks-push n (drawn_links seed n k) next.link before.graph next.fits.0 next.fits.1 next.free;
      count = length_push (drawn_links seed n k) next.link ∙ omega (arith, before.count);
      low = λ lt. AreLinks-push (suc k + 1) (drawn_links seed n k) next.link (AreLinks-more (k + 1) (suc k + 1) (drawn_links seed n k) (omega arith) (before.low (omega (arith, lt)))) next.fits.0 (omega (arith, next.low (omega (arith, lt)))) next.free;
    })

-- what is found from a drawn place on is link k, where it joins a free pair
pub pair_link : (n k x place : ℕ) (ps links : List Link) → n ≤ k + 1 → ps ≡ pairs n → place ≡ draw (length ps) x → find (is_free links) (drop place ps ++ take place ps) ≡ next_link n k x links
pair_link n k x place ps links le is at =
    let count : length ps ≡ pair_count n = ap (λ xs. length xs) is ∙ length-pairs n in
    let there : place ≡ draw (pair_count n) x = at ∙ ap (λ m. draw m x) count in
    rw (is, there) (sym (free_link n k x links le))

-- one link more of a drawn network
pub record IsGrown (seed n k : ℕ) (g : Network) (l : Link) : Type 0 where
  pub lower : l.a < l.b
  pub node : l.b < g.nodes
  pub free : any_joins g.links l.a l.b ≡ false
  pub more : (h : Network) → h ≡ record g { links = g.links ++ l ∷ [] } → h ≡ generated seed n (k + 1)

-- there is one
pub grown : (seed n k x : ℕ) (g : Network) (o : Option Link) → 3 ≤ n → k < pair_count n → x ≡ state seed k → g ≡ generated seed n k → o ≡ next_link n k x g.links → (l : Link) × (o ≡ Some l) × IsGrown seed n k g l
grown seed n k x g o some room at is next =
    let links : g.links ≡ drawn_links seed n k = ap (λ (h : Network). h.links) is in
    let found = next_is n k (state seed k) (drawn_links seed n k) some room (links_are seed n k some (omega (arith, room))) in
    let suc_k : suc k ≡ k + 1 = omega arith in (
      found.link,
      next ∙ (ap₂ (λ y ls. next_link n k y ls) at links ∙ found.is),
      record {
        lower = found.fits.0;
        node = rw is found.fits.1;
        free = rw is found.free;
        more = λ h e. e ∙ (ap (λ (f : Network). with_links f (f.links ++ found.link ∷ [])) is ∙ (ap (with_links (generated seed n k)) (sym (links_more seed n k found.link found.is)) ∙ ap (λ j. generated seed n j) suc_k));
      },
    )
  where
    with_links : Network → List Link → Network
    with_links f ls = record f { links = ls }

-- it is the one that was found
pub grown_by : (seed n k x : ℕ) (g : Network) (o : Option Link) (l : Link) → 3 ≤ n → k < pair_count n → x ≡ state seed k → g ≡ generated seed n k → o ≡ next_link n k x g.links → o ≡ Some l → IsGrown seed n k g l
grown_by seed n k x g o l some room at is next found =
    let one = grown seed n k x g o some room at is next in
    subst (IsGrown seed n k g) (same (sym one.1 ∙ found)) one.2
  where
    same : {p q : Link} → Some p ≡ Some q → p ≡ q
    same e = cc

pub never_none : (seed n k x : ℕ) (g : Network) (o : Option Link) → 3 ≤ n → k < pair_count n → x ≡ state seed k → g ≡ generated seed n k → o ≡ next_link n k x g.links → o ≡ None → ⊥
never_none seed n k x g o some room at is next none =
    let one = grown seed n k x g o some room at is next in
    impossible (sym one.1 ∙ none)
  where
    impossible : {p : Link} → Some p ≡ None → ⊥
    impossible e = cc

-- and the generator has made one draw more
pub state_more : (seed k x : ℕ) → x ≡ state seed k → state x 1 ≡ state seed (k + 1)
unfolding state
state_more seed k x is =
    let suc_k : suc k ≡ k + 1 = omega arith in
    subst (λ j. state x 1 ≡ state seed j) suc_k (ap (λ y. next (next y)) is)

-- a drawn network has so many links
pub drawn_count : (seed n k : ℕ) (g : Network) → 3 ≤ n → k ≤ pair_count n → g ≡ generated seed n k → length g.links ≡ k
drawn_count seed n k g some room is = ap (λ (h : Network). length h.links) is ∙ (links_are seed n k some room).count

-- ---- they join all nodes

-- links that are added take no link away
joined_before : (ls ms : List Link) (a b : ℕ) → any_joins ls a b ≡ true → any_joins (ls ++ ms) a b ≡ true
unfolding any_joins
joined_before [] ms a b e = absurd (false≢true e)
joined_before (l ∷ ls) ms a b e = elim (or_cases (joins l a b) (any_joins ls a b) e) [
  | inl here ↦ or_left (joins l a b) (any_joins (ls ++ ms) a b) here
  | inr later ↦ or_right (joins l a b) (any_joins (ls ++ ms) a b) (joined_before ls ms a b later)
]

joined_still : (seed n k m a b : ℕ) → k ≤ m → any_joins (drawn_links seed n k) a b ≡ true → any_joins (drawn_links seed n m) a b ≡ true
unfolding drawn_links
joined_still seed n k zero a b le e = let none : k ≡ zero = omega (arith, le) in subst (λ j. any_joins (drawn_links seed n j) a b ≡ true) none e
joined_still seed n k (suc m) a b le e = elim (cases_eq k (suc m)) [
  | inl same ↦ subst (λ j. any_joins (drawn_links seed n j) a b ≡ true) same e
  | inr other ↦ joined_before (drawn_links seed n m) (cons_option (next_link n m (state seed m) (drawn_links seed n m)) []) a b (joined_still seed n k m a b (omega (arith, le, other)) e)
]

-- node k + 1 is joined to a drawn node below it
joined_below : (seed n m k : ℕ) → k + 1 < n → k < m → any_joins (drawn_links seed n m) (draw (k + 1) (state seed k)) (k + 1) ≡ true
unfolding any_joins joins
joined_below seed n m k node lt = joined_still seed n (suc k) m a (k + 1) (omega (arith, lt))
    (rw (links_more seed n k (pair a (k + 1)) (tree_link n k (state seed k) (drawn_links seed n k) node), any_joins-push (drawn_links seed n k) (pair a (k + 1)) a (k + 1)) (or_right (any_joins (drawn_links seed n k) a (k + 1)) (joins (pair a (k + 1)) a (k + 1)) (joins_its_ends (pair a (k + 1)))))
  where
    a : ℕ
    a = draw (k + 1) (state seed k)

-- so a walk leads to each node below k
reached_below : (seed n m k v : ℕ) → n ≤ m + 1 → k ≤ n → v < k → Reaches (generated seed n m) everything 0 v
reached_below seed n m zero v enough le lt = absurd (omega (arith, lt))
reached_below seed n m (suc k) zero enough le lt = ([], tt, tt, refl)
reached_below seed n m (suc k) (suc v) enough le lt =
    let next : v + 1 ≡ suc v = omega arith in
    let a = draw (v + 1) (state seed v) in
    let below : a < k = omega (arith, draw_below (v + 1) (state seed v) (omega arith), lt) in
    Reaches-step (generated seed n m) everything 0 a (suc v) (reached_below seed n m k a enough (omega (arith, le)) below)
    (subst (λ w. any_joins (drawn_links seed n m) a w ≡ true) next (joined_below seed n m v (omega (arith, lt, le)) (omega (arith, lt, le, enough)))) refl

-- and the drawn network is connected
pub drawn_connected : (seed n l : ℕ) → n ≤ l + 1 → IsConnected (generated seed n l)
drawn_connected seed n l enough = connected_from (generated seed n l) 0 (λ v node. reached_below seed n l n v enough (omega arith) node)
