-- The rigid pieces of a split tree are exactly the three-blocks of its block.
use Rattle.std.proofs.Common.{◌≡◌, ℕ, ◌<◌, ◌≤◌, Bool, true, not, ◌&&◌, ◌||◌, ◌==◌, List, [], ◌∷◌, ◌++◌, map, get_or, All, Contains, IsTrue, refl, sym, ap, ◌∙◌, subst, inl, inr, arith, append_assoc}
use Rattle.std.proofs.Props.{props}
use Rattle.std.proofs.Math.Logic.{∥∥₁_elim}
use Rattle.std.proofs.lemmas.Bool.{cases_lt, both_ways, and_parts, and_from, or_cases, or_left, or_right, eqb-true, eq-eqb, false_from_ne_true}
use Rattle.std.proofs.lemmas.List.{append-nil, map-append}
use Rattle.std.proofs.lemmas.List.Elements.{All-push, All-append, All-contains, All-contains_itself}
use Rattle.tomo_base.specs.declared.graph.Link.{Link}
use Rattle.tomo_base.specs.Network.{Network, linked, IsGraph}
use Rattle.tomo_base.specs.Sets.{has, size, members, minus, Within}
use Rattle.tomo_base.specs.Blocks.{IsUnparted, IsThreeBlockOf}
use Rattle.tomo_base.specs.SetLists.{IsSetBelow, AreSetsWith}
use Rattle.tomo_base.proofs.Members.{has-members, members_below}
use Rattle.tomo_base.proofs.Ascending.{All-has, same_list, members_ascend}
use Rattle.tomo_base.proofs.Counts.{count-same}
use Rattle.tomo_base.specs.Parting.{without_two, IsJoinedWithoutOne, IsJoinedWithoutTwo}
use Rattle.tomo_base.proofs.Parting.{without_two-from, without_two-in, without_two-ne, without-from, without-parts, minus-in, minus-out, flip, joined-same}
use Rattle.tomo_base.proofs.Reaching.{is_node, nodes_in, is_node-from, is_node_below, joined-or, Reaches-joined, joined-Reaches, connected-joined}
use Rattle.tomo_base.proofs.Picks.{two-at-most}
use Rattle.tomo_base.specs.Parting.{IsThreeConnectedIn}
use Rattle.blocks.proofs.Unparted.{Pairwise}
use Rattle.blocks.proofs.Working.{like-from, each_at, some_at}
use Rattle.tomo_base.proofs.Lists.{same_test}
use Rattle.split_tree.specs.declared.piece.Piece.{Piece}
use Rattle.split_tree.specs.declared.tree.Tree.{Tree, Small, Rigid, Split', Row_of-Tree-Split-2-1, end_of-Tree-Split-2-1, more_of-Tree-Split-2-1, Row_of-Tree, end_of-Tree, more_of-Tree}
use Rattle.split_tree.specs.Pieces.{net, IsPiece, IsPieceOf}
use Rattle.split_tree.specs.Trees.{piece_of, box_pieces, row_pieces, IsSplit, Facts, BoxFacts, RowFacts, rigids_of, box_rigids, row_rigids, IsSplitTree}
use Rattle.split_tree.proofs.Rigid.{Owned}
use Rattle.split_tree.proofs.Sound.{Sound, ThreeBlockIn, small-sound, rigid-sound, split-sound, three-blocks}
use Rattle.split_tree.proofs.Halving.{size_of, inner, outer, half_of}
use Rattle.split_tree.proofs.Pairs.{unparted-pairs}

-- nodes of a piece are below n
pub piece_below : (n : ℕ) (p : Piece) → IsPiece n p → (v : ℕ) → IsTrue (has p.nodes v) → v < n
piece_below n p is v h = All-has (λ u. u < n) p.nodes is.set.below v h

-- three-connected, by closed sets
pub firm_without_two : (g : Network) (P : ℕ → Bool) → ((v : ℕ) → IsTrue (P v) → v < g.nodes) → IsThreeConnectedIn g P → IsJoinedWithoutTwo g P
firm_without_two g P below three c d =
    let two : ℕ → Bool = λ v. (v == c) || (v == d) in
    let few : size g two ≤ 2 = two-at-most g.nodes two c d (λ v l h. elim (or_cases (v == c) (v == d) h) [ inl e ↦ inl (eqb-true v c e) | inr e ↦ inr (eqb-true v d e) ]) in
    joined-same g (minus P two) (without_two P c d)
    (λ v m. let p = minus-out P two v m in without_two-from P c d v p.0
    (λ e. both_ways (two v) p.1 (or_left (v == c) (v == d) (eq-eqb v c e))) (λ e. both_ways (two v) p.1 (or_right (v == c) (v == d) (eq-eqb v d e))))
    (λ v m. let ne = without_two-ne P c d v m in minus-in P two v (without_two-in P c d v m)
    (false_from_ne_true (two v) (λ h. elim (or_cases (v == c) (v == d) h) [ inl e ↦ ne.0 (eqb-true v c e) | inr e ↦ ne.1 (eqb-true v d e) ])))
    (connected-joined g (minus P two) (λ v m. below v (minus-out P two v m).0) (three.whole two few))

-- what holds for a fact that is kept by its existence alone
firm_without_two_prop : (g : Network) (P : ℕ → Bool) → IsProp (IsJoinedWithoutTwo g P)
firm_without_two_prop g P = hlevel props

firm_without_one_prop : (g : Network) (P : ℕ → Bool) → IsProp (IsJoinedWithoutOne g P)
firm_without_one_prop g P = hlevel props

four_prop : (g : Network) (P : ℕ → Bool) → IsProp (4 ≤ size g P)
four_prop g P = hlevel props

-- ---- the rigid pieces of the levels

-- the pieces are sound, each with its part of the list of rigid pieces
abbrev pub Sounds : ℕ → List Piece → List (List ℕ) → Type 0
Sounds n [] all = all ≡ []
Sounds n (p ∷ ps) all = (xs : List (List ℕ)) × (ys : List (List ℕ)) × (all ≡ xs ++ ys) × IsPiece n p × Sound n (net n p) (has p.nodes) (map has xs) × Sounds n ps ys

-- two lists of sound pieces, joined
sounds-join : (n : ℕ) (ps qs : List Piece) (xs ys : List (List ℕ)) → Sounds n ps xs → Sounds n qs ys → Sounds n (ps ++ qs) (xs ++ ys)
sounds-join n [] qs xs ys h k = subst (λ z. Sounds n qs (z ++ ys)) (sym h) k
sounds-join n (p ∷ ps) qs xs ys h k = (h.0, h.1 ++ ys, subst (λ z. z ++ ys ≡ h.0 ++ (h.1 ++ ys)) (sym h.2) (append_assoc h.0 h.1 ys), h.3, h.4, sounds-join n ps qs h.1 ys h.5 k)

-- a piece that is split into sound parts is sound
split_from : (n : ℕ) (p : Piece) (pair : Link) (ps : List Piece) (all : List (List ℕ)) → IsPiece n p → IsSplit p pair ps → Sounds n ps all → Sound n (net n p) (has p.nodes) (map has all)
split_from n p pair [] all is s h = absurd s
split_from n p pair (l ∷ []) all is s h = absurd s
split_from n p pair (l ∷ (r ∷ [])) all is s h =
    let xs = h.0 in
    let t = h.5 in
    let e : all ≡ xs ++ t.0 = h.2 ∙ ap (λ z. xs ++ z) (t.2 ∙ (ap (λ z. t.0 ++ z) t.5 ∙ append-nil t.0)) in
    let turned : (v : ℕ) → IsTrue (has r.nodes v) → IsTrue (has l.nodes v) → IsTrue ((v == pair.a) || (v == pair.b)) = λ v a b. s.shared v b a in
    let far = outer n p l r pair t.3 s.other s.shared in
    let near = outer n p r l pair h.3 s.one turned in
    let first = half_of n p l pair is h.3 s.one far.0 far.1 far.2 in
    let second = half_of n p r pair is t.3 s.other near.0 near.1 near.2 in
    let A : ℕ → Bool = has l.nodes in
    let B : ℕ → Bool = has r.nodes in
    subst (λ z. Sound n (net n p) (has p.nodes) z) (sym (ap (map has) e ∙ map-append has xs t.0))
    (split-sound n (net n p) (net n l) (net n r) (has p.nodes) A B (inner l pair) (inner r pair) pair.a pair.b (map has xs) (map has t.0) (λ same. omega (arith, s.ordered, same)) first second
    (λ v m va vb. elim (or_cases (A v) (B v) (s.cover v m)) [ inl i ↦ inl (without_two-from A pair.a pair.b v i va vb) | inr i ↦ inr (without_two-from B pair.a pair.b v i va vb) ])
    (λ v k1 k2.
    let ne = without_two-ne A pair.a pair.b v k1 in
    elim (or_cases (v == pair.a) (v == pair.b) (s.shared v (without_two-in A pair.a pair.b v k1) (without_two-in B pair.a pair.b v k2))) [ inl i ↦ ne.0 (eqb-true v pair.a i) | inr i ↦ ne.1 (eqb-true v pair.b i) ])
    h.4 t.4)
split_from n p pair (l ∷ (r ∷ (x ∷ xs))) all is s h = absurd s

-- the topmost piece of a tree with its facts is a piece
pub piece_is : (n : ℕ) (t : Tree) → Facts n t → IsPiece n (piece_of t)
piece_is n (Small p) h = h.0
piece_is n (Rigid p) h = h.0
piece_is n (Split' p pair shape all) h = h.0

mutual
  -- a tree with its facts is sound
  pub sound : (n : ℕ) (t : Tree) → Facts n t → Sound n (net n (piece_of t)) (has (piece_of t).nodes) (map has (rigids_of t))
  sound n (Small p) h = small-sound n (net n p) (has p.nodes) (omega (arith, size_of n p.nodes h.0.set, h.1))
  sound n (Rigid p) h = rigid-sound n (net n p) (has p.nodes)
      (∥∥₁_elim h.1 (four_prop (net n p) (has p.nodes)) (λ three. three.four))
      (∥∥₁_elim h.1 (firm_without_two_prop (net n p) (has p.nodes)) (firm_without_two (net n p) (has p.nodes) (piece_below n p h.0)))
  sound n (Split' p pair shape all) h = split_from n p pair (row_pieces all) (row_rigids all) h.0 h.1 (row_sound n all h.2)

  -- the trees of a box are
  box_sound : {m : _} (n : ℕ) (r : Row_of-Tree m) → BoxFacts n r → Sounds n (box_pieces r) (box_rigids r)
  box_sound n end_of-Tree h = refl
  box_sound n (more_of-Tree t rest) h = (rigids_of t, box_rigids rest, refl, piece_is n t h.0, sound n t h.0, box_sound n rest h.1)

  -- the trees of the parts are
  row_sound : {m : _} (n : ℕ) (r : Row_of-Tree-Split-2-1 m) → RowFacts n r → Sounds n (row_pieces r) (row_rigids r)
  row_sound n end_of-Tree-Split-2-1 h = refl
  row_sound n (more_of-Tree-Split-2-1 p t rest) h = sounds-join n (box_pieces t) (row_pieces rest) (box_rigids t) (row_rigids rest) (box_sound n t h.0) (row_sound n rest h.1)

mutual
  -- the rigid pieces of a tree have nodes below n
  pub rigid_sets : (n : ℕ) (t : Tree) → Facts n t → All (IsSetBelow n) (rigids_of t)
  rigid_sets n (Small p) h = λ k d l. absurd (omega (arith, l))
  rigid_sets n (Rigid p) h = All-push (IsSetBelow n) [] p.nodes (λ k d l. absurd (omega (arith, l))) h.0.set
  rigid_sets n (Split' p pair shape all) h = row_sets n all h.2

  box_sets : {m : _} (n : ℕ) (r : Row_of-Tree m) → BoxFacts n r → All (IsSetBelow n) (box_rigids r)
  box_sets n end_of-Tree h = λ k d l. absurd (omega (arith, l))
  box_sets n (more_of-Tree t rest) h = All-append (IsSetBelow n) (rigids_of t) (box_rigids rest) (rigid_sets n t h.0) (box_sets n rest h.1)

  row_sets : {m : _} (n : ℕ) (r : Row_of-Tree-Split-2-1 m) → RowFacts n r → All (IsSetBelow n) (row_rigids r)
  row_sets n end_of-Tree-Split-2-1 h = λ k d l. absurd (omega (arith, l))
  row_sets n (more_of-Tree-Split-2-1 p t rest) h = All-append (IsSetBelow n) (box_rigids t) (row_rigids rest) (box_sets n t h.0) (row_sets n rest h.1)

-- ---- three-blocks of the graph

module _ (g : Network) (nodes : List ℕ) (graph : IsGraph g) (below : (v : ℕ) → IsTrue (has nodes v) → v < g.nodes) (firm : IsJoinedWithoutOne g (has nodes)) where
  abbrev B : ℕ → Bool
  B v = has nodes v

  -- sets in which no two nodes are parted, by closed sets
  pairwise_from : (S : ℕ → Bool) → ((v : ℕ) → IsTrue (S v) → IsTrue (B v)) → IsUnparted g B S → Pairwise g B S
  pairwise_from S sub unparted x y mx my xy = unparted-pairs g B firm x y (sub x mx) (sub y my) (λ c d bc bd cd cx cy dx dy.
      elim (joined-or g (without_two B c d) g.nodes (λ v m. below v (without_two-in B c d v m)) x y (without_two-from B c d x (sub x mx) (flip cx) (flip dx))) [
        | inl together ↦ together
        | inr cut ↦ absurd (unparted x y c d (below x (sub x mx)) (below y (sub y my)) mx my xy (below c bc) (below d bd) (record {
          first = bc;
          second = bd;
          differ = cd;
          first_other = (cx, cy);
          second_other = (dx, dy);
          no_walk = λ walk. both_ways (cut.0 y) cut.4 (Reaches-joined g (without_two B c d) x y walk cut.0 cut.2 cut.3);
        }))
      ])

  -- and by walks
  unparted_from : (S : ℕ → Bool) → ((v : ℕ) → IsTrue (S v) → IsTrue (B v)) → Pairwise g B S → IsUnparted g B S
  unparted_from S sub pairwise x y c d lx ly mx my xy lc ld parted = parted.no_walk
      (joined-Reaches g (without_two B c d) graph x y lx (without_two-from B c d x (sub x mx) (flip parted.first_other.0) (flip parted.second_other.0))
      (pairwise x y mx my xy c d parted.first_other.0 parted.first_other.1 parted.second_other.0 parted.second_other.1))

  -- a three-block by closed sets is a three-block
  pub three_block_to : (T : ℕ → Bool) → ThreeBlockIn g.nodes g B T → IsThreeBlockOf g B T
  three_block_to T t = record {
    inside = λ v l h. t.inside v h;
    four = t.four;
    unparted = unparted_from T t.inside t.joined;
    largest = λ s inside unparted sub v l h.
        let S : ℕ → Bool = nodes_in g s in
        let low : (u : ℕ) → IsTrue (S u) → (u < g.nodes) × IsTrue (s u) = λ u m. let p = and_parts (is_node g u) (s u) m in (is_node_below g u p.0, p.1) in
        let inB : (u : ℕ) → IsTrue (S u) → IsTrue (B u) = λ u m. inside u (low u m).0 (low u m).1 in
        t.largest S (λ u m. and_from (is_node g u) (s u) (is_node-from g u (below u (t.inside u m))) (sub u (below u (t.inside u m)) m)) inB
        (pairwise_from S inB (λ x y c d lx ly mx my xy lc ld parted. unparted x y c d lx ly (low x mx).1 (low y my).1 xy lc ld parted))
        v (and_from (is_node g v) (s v) (is_node-from g v l) h);
  }

  -- and the other way round
  pub three_block_from : (q : ℕ → Bool) → IsThreeBlockOf g B q → ThreeBlockIn g.nodes g B (nodes_in g q)
  three_block_from q is =
      let T : ℕ → Bool = nodes_in g q in
      let low : (u : ℕ) → IsTrue (T u) → (u < g.nodes) × IsTrue (q u) = λ u m. let p = and_parts (is_node g u) (q u) m in (is_node_below g u p.0, p.1) in
      let inB : (u : ℕ) → IsTrue (T u) → IsTrue (B u) = λ u m. is.inside u (low u m).0 (low u m).1 in
      record {
        inside = inB;
        four = subst (λ k. 4 ≤ k) (sym (count-same g.nodes T q (λ v l. ap (λ b. b && q v) (is_node-from g v l)))) is.four;
        joined = pairwise_from T inB (λ x y c d lx ly mx my xy lc ld parted. is.unparted x y c d lx ly (low x mx).1 (low y my).1 xy lc ld parted);
        largest = λ S ts sb pairwise v m.
            let l = below v (sb v m) in
            and_from (is_node g v) (q v) (is_node-from g v l)
            (is.largest S (λ u lu h. sb u h) (unparted_from S sb pairwise) (λ u lu h. ts u (and_from (is_node g u) (q u) (is_node-from g u lu) h)) v l m);
      }

-- the nodes without one
abbrev without_one : List ℕ → ℕ → ℕ → Bool
without_one nodes c v = has nodes v && not (v == c)

-- the rigid pieces of a split tree are the three-blocks of its block
pub tree_three_blocks : (n : ℕ) (t : Tree) (g : Network) → IsSplitTree n t → IsGraph g → g.nodes ≡ n → IsPieceOf g (piece_of t).nodes (piece_of t)
    → AreSetsWith n (IsThreeBlockOf g (has (piece_of t).nodes)) (rigids_of t)
tree_three_blocks n t g tree graph same whole =
    let p = piece_of t in
    let nodes = p.nodes in
    let N = net n p in
    let is = piece_is n t tree.facts in
    let below : (v : ℕ) → IsTrue (has nodes v) → v < n = piece_below n p is in
    let firm : IsJoinedWithoutOne N (has nodes) = ∥∥₁_elim tree.nonseparable (firm_without_one_prop N (has nodes)) (λ k c x y ix iy.
    let like = like-from N (has nodes) is.links k in
    let up : Within (without_one nodes c) (λ v. nodes_in N (has nodes) v && not (v == c)) = λ v m. let q = without-parts (has nodes) c v m in
    without-from (nodes_in N (has nodes)) c v (and_from (is_node N v) (has nodes v) (is_node-from N v (below v q.0)) q.0) q.1 in
    let down : Within (λ v. nodes_in N (has nodes) v && not (v == c)) (without_one nodes c) = λ v m. let q = without-parts (nodes_in N (has nodes)) c v m in
    without-from (has nodes) c v (and_parts (is_node N v) (has nodes v) q.0).1 q.1 in
    joined-same N (λ v. nodes_in N (has nodes) v && not (v == c)) (without_one nodes c) down up (like.firm c) x y ix iy) in
    let links : (u v : ℕ) → linked N u v ≡ true → linked g u v ≡ true = λ u v l. (and_parts (linked g u v) (has nodes u && has nodes v) (sym (whole.links_are u v) ∙ l)).0 in
    let own : Owned g N (has nodes) (has nodes) (λ d. d) (λ d. d) = record {
      inside = λ v i. i;
      kept = λ u v iu iv l. whole.links_are u v ∙ and_from (linked g u v) (has nodes u && has nodes v) l (and_from (has nodes u) (has nodes v) iu iv);
      here = λ u v l. and_parts (has nodes u) (has nodes v) (is.ends u v l);
      owner = λ d i o. absurd (both_ways (has nodes d) o i);
      same = λ d e i o j q l. absurd (both_ways (has nodes d) o i);
      touch = λ d x i o j l. absurd (both_ways (has nodes d) o i);
      stand = λ u v l no. absurd (both_ways (linked g u v) no (links u v l));
    } in
    let firm_g : IsJoinedWithoutOne g (has nodes) = λ c x y ix iy X h mx. firm c x y ix iy X (λ u v m l iv. h u v m (links u v l) iv) mx in
    let low : (v : ℕ) → IsTrue (has nodes v) → v < g.nodes = λ v h. omega (arith, below v h, same) in
    let s = sound n t tree.facts in
    let all = three-blocks n g N (has nodes) (map has (rigids_of t)) s own firm in
    let set : (xs : List ℕ) → Contains (rigids_of t) xs → IsThreeBlockOf g (has nodes) (has xs) = λ xs h.
    three_block_to g nodes graph low firm_g (has xs) (subst (λ k. ThreeBlockIn k g (has nodes) (has xs)) (sym same) (each_at has (ThreeBlockIn n g (has nodes)) (rigids_of t) xs all.0 h)) in
    let sets : All (IsSetBelow n) (rigids_of t) = rigid_sets n t tree.facts in
    record {
      nodes = sets;
      each = λ k d l. set (get_or (rigids_of t) k d) (All-contains_itself (rigids_of t) k d l);
      every = λ q block.
          let at = some_at has (λ L. Within (nodes_in g q) L × Within L (nodes_in g q)) (rigids_of t)
          (all.1 (nodes_in g q) (subst (λ k. ThreeBlockIn k g (has nodes) (nodes_in g q)) same (three_block_from g nodes graph low firm_g q block))) in
          let is : IsSetBelow n at.0 = All-contains (IsSetBelow n) (rigids_of t) at.0 sets at.1 in
          let equal : at.0 ≡ members n q = same_list at.0 (members n q) is.ascending (members_ascend n q) (λ v. elim (cases_lt v n) [
            | inl l ↦ same_test (has at.0 v) (q v) (λ h. (and_parts (is_node g v) (q v) (at.2.1 v h)).1) (λ h. at.2.0 v (and_from (is_node g v) (q v) (is_node-from g v (omega (arith, l, same))) h)) ∙ sym (has-members n q v l)
            | inr ge ↦ false_from_ne_true (has at.0 v) (λ h. let l : v < n = All-has (λ u. u < n) at.0 is.below v h in omega (arith, l, ge)) ∙ sym (members_below n q v ge)
          ]) in
          subst (Contains (rigids_of t)) equal at.1;
    }
