-- Two nodes that part a piece that no single node cuts, and the two parts that marks make of it.
use Rattle.std.proofs.Common.{◌≡◌, ◌≢◌, ℕ, zero, suc, ◌<◌, ◌≤◌, ◌⊎◌, min, max, Bool, true, false, not, ◌&&◌, ◌||◌, ◌==◌, List, [], ◌∷◌, length, get_or, IsTrue, refl, sym, ap, ap₂, ◌∙◌, subst, inl, inr, arith}
use Rattle.std.specs.List.{filter}
use Rattle.std.proofs.lemmas.Bool.{cases_eq, cases_lt, cases_Bool, both_ways, and_parts, and_from, and_left, and_right, or_cases, or_left, or_right, or_from, eqb-true, eq-eqb, false_from_ne_true}
use Rattle.tomo_base.specs.declared.graph.Link.{Link}
use Rattle.tomo_base.specs.Network.{joins, any_joins}
use Rattle.tomo_base.specs.Sets.{has, minus}
use Rattle.tomo_base.specs.Search.{mark_of}
use Rattle.tomo_base.specs.Blocks.{IsNonseparable}
use Rattle.tomo_base.proofs.Counts.{count-same}
use Rattle.tomo_base.proofs.Links.{linked_comm, joins_gives}
use Rattle.tomo_base.proofs.Ascending.{place_in}
use Rattle.tomo_base.proofs.Walks.{connected_inside}
use Rattle.tomo_base.specs.Parting.{without_two, IsJoinedWithoutOne}
use Rattle.tomo_base.proofs.Parting.{without_two-from, without_two-in, without_two-ne, without-from, without-parts, minus-in, minus-out, joined-same}
use Rattle.tomo_base.proofs.Reaching.{is_node, nodes_in, is_node-from}
use Rattle.tomo_base.proofs.Picks.{three-count}
use Rattle.tomo_base.specs.Parting.{IsThreeConnectedIn}
use Rattle.three_conn.specs.Parting.{IsParted, IsParting}
use Rattle.three_conn.specs.declared.known.Parting.{Parting}
use Rattle.blocks.proofs.Filtering.{has-filter, IsSetBelow-filter}
use Rattle.blocks.proofs.Working.{like-from, like-to}
use Rattle.split_tree.specs.declared.piece.Piece.{Piece}
use Rattle.split_tree.specs.Pieces.{net, IsPiece, IsPartAt}
use Rattle.split_tree.specs.Parts.{is_inside, IsMarkedPart}
use Rattle.split_tree.specs.Stages.{IsStage, IsHalved, IsPairCut}
use Rattle.split_tree.proofs.Halving.{size_of, half_of}
use Rattle.split_tree.proofs.Pass.{part-like, cut-is-pair}
use Rattle.split_tree.proofs.Sounding.{piece_below}
use Rattle.split_tree.proofs.MarkedLinks.{any_filter, filter_less}

-- a piece that no single node cuts, by closed sets
pub firm_of : (n : ℕ) (p : Piece) → IsPiece n p → IsNonseparable (net n p) (has p.nodes) → IsJoinedWithoutOne (net n p) (has p.nodes)
firm_of n p is whole c =
    let N = net n p in
    let P : ℕ → Bool = has p.nodes in
    let like = like-from N P is.links whole in
    joined-same N (λ v. nodes_in N P v && not (v == c)) (λ v. P v && not (v == c))
    (λ v m. let q = without-parts (nodes_in N P) c v m in without-from P c v (and_parts (is_node N v) (P v) q.0).1 q.1)
    (λ v m. let q = without-parts P c v m in without-from (nodes_in N P) c v (and_from (is_node N v) (P v) (is_node-from N v (piece_below n p is v q.0)) q.0) q.1)
    (like.firm c)

-- ---- what the search answers, for marks on the nodes of the piece

-- three-connected
pub three_connected_marks : (n : ℕ) (p : Piece) (marks : List Bool) → IsPiece n p → ((v : ℕ) → mark_of marks v ≡ has p.nodes v) → IsThreeConnectedIn (net n p) (mark_of marks) → IsThreeConnectedIn (net n p) (has p.nodes)
three_connected_marks n p marks is same three = record {
  four = subst (λ k. 4 ≤ k) (count-same n (mark_of marks) (has p.nodes) (λ v l. same v)) three.four;
  whole = λ c few. connected_inside (net n p) (minus (mark_of marks) c) (minus (has p.nodes) c) is.links
      (λ v l m. let q = minus-out (mark_of marks) c v m in minus-in (has p.nodes) c v (sym (same v) ∙ q.0) q.1)
      (λ v l m. let q = minus-out (has p.nodes) c v m in minus-in (mark_of marks) c v (same v ∙ q.0) q.1) (three.whole c few);
}

-- what parts it is two nodes of it
pub pair_cut : (n : ℕ) (p : Piece) (cut : Parting) → IsStage n p → IsParted (net n p) (has p.nodes) (has cut.side.items) cut.first cut.second → IsPairCut n p cut
pair_cut n p cut stage parted =
    let P : ℕ → Bool = has p.nodes in
    let K : ℕ → Bool = has cut.side.items in
    let c = cut.first in
    let d = cut.second in
    let far = without_two-ne P c d parted.rest.0 parted.rest.2 in
    let pair = cut-is-pair (net n p) P K c d (firm_of n p stage.is stage.nonseparable) (λ v m. without_two-in P c d v (parted.inside v m)) (λ u v m l iv. parted.shut u v m l iv)
    (false_from_ne_true (K c) (λ m. (without_two-ne P c d c (parted.inside c m)).0 refl)) (false_from_ne_true (K d) (λ m. (without_two-ne P c d d (parted.inside d m)).1 refl))
    parted.some.0 parted.some.2 parted.rest.0 (without_two-in P c d parted.rest.0 parted.rest.2) parted.rest.3 far.0 far.1 in
    record { differ = pair.0; first = pair.1; second = pair.2; parted = parted }

-- two nodes that part it
pub pair_cut_of : (n : ℕ) (p : Piece) (marks : List Bool) (cut : Parting) → IsStage n p → ((v : ℕ) → mark_of marks v ≡ has p.nodes v)
    → IsParting (net n p) (mark_of marks) cut → IsPairCut n p cut
pair_cut_of n p marks cut stage same parting =
    let P : ℕ → Bool = has p.nodes in
    let c = cut.first in
    let d = cut.second in
    let old = parting.parted in
    let to : (v : ℕ) → IsTrue (without_two (mark_of marks) c d v) → IsTrue (without_two P c d v) = λ v m. let ne = without_two-ne (mark_of marks) c d v m in
    without_two-from P c d v (sym (same v) ∙ without_two-in (mark_of marks) c d v m) ne.0 ne.1 in
    let back : (v : ℕ) → IsTrue (without_two P c d v) → IsTrue (without_two (mark_of marks) c d v) = λ v m. let ne = without_two-ne P c d v m in
    without_two-from (mark_of marks) c d v (same v ∙ without_two-in P c d v m) ne.0 ne.1 in
    pair_cut n p cut stage (record {
      inside = λ v m. to v (old.inside v m);
      shut = λ u v m l iv. old.shut u v m l (back v iv);
      some = old.some;
      rest = (old.rest.0, old.rest.1, to old.rest.0 old.rest.2, old.rest.3);
    })

-- ---- the two nodes in order

-- a side of a piece at two nodes, the lower first
pub record IsSide (n : ℕ) (p : Piece) (pair : Link) (K : ℕ → Bool) : Type 0 where
  pub ordered : pair.a < pair.b
  pub first : IsTrue (has p.nodes pair.a)
  pub second : IsTrue (has p.nodes pair.b)
  pub inside : (v : ℕ) → IsTrue (K v) → IsTrue (has p.nodes v) × (v ≢ pair.a) × (v ≢ pair.b)
  pub shut : (u v : ℕ) → IsTrue (K u) → IsTrue (any_joins p.links u v) → IsTrue (has p.nodes v) → v ≢ pair.a → v ≢ pair.b → IsTrue (K v)
  pub some : (v : ℕ) × IsTrue (K v)
  pub rest : (v : ℕ) × IsTrue (has p.nodes v) × (v ≢ pair.a) × (v ≢ pair.b) × (K v ≡ false)

pub side_of : (n : ℕ) (p : Piece) (cut : Parting) (a b : ℕ) → a ≡ min cut.first cut.second → b ≡ max cut.first cut.second → IsPairCut n p cut → IsSide n p (record { a = a; b = b }) (has cut.side.items)
side_of n p cut a b low high pc = elim (cases_lt cut.first cut.second) [
  | inl lt ↦ (
      let e : a ≡ cut.first = omega (arith, low, lt) in
      let f : b ≡ cut.second = omega (arith, high, lt) in
      rw (e, f) (between cut.first cut.second lt pc.first pc.second (λ v ne. ne) (λ v c d. (c, d))))
  | inr ge ↦ (
      let e : a ≡ cut.second = omega (arith, low, ge) in
      let f : b ≡ cut.first = omega (arith, high, ge) in
      rw (e, f) (between cut.second cut.first (omega (arith, ge, pc.differ)) pc.second pc.first (λ v ne. (ne.1, ne.0)) (λ v d c. (c, d))))
]
  where
    P : ℕ → Bool
    P v = has p.nodes v

    -- the two nodes in either order
    between : (x y : ℕ) → x < y → IsTrue (has p.nodes x) → IsTrue (has p.nodes y) → ((v : ℕ) → (v ≢ cut.first) × (v ≢ cut.second) → (v ≢ x) × (v ≢ y))
        → ((v : ℕ) → v ≢ x → v ≢ y → (v ≢ cut.first) × (v ≢ cut.second)) → IsSide n p (record { a = x; b = y }) (has cut.side.items)
    between x y lt first second there back = record {
      ordered = lt;
      first = first;
      second = second;
      inside = λ v m. let i = pc.parted.inside v m in let ne = there v (without_two-ne P cut.first cut.second v i) in (without_two-in P cut.first cut.second v i, ne.0, ne.1);
      shut = λ u v m l pv vx vy. let ne = back v vx vy in pc.parted.shut u v m l (without_two-from P cut.first cut.second v pv ne.0 ne.1);
      some = (pc.parted.some.0, pc.parted.some.2);
      rest = (let i = pc.parted.rest.2 in let ne = there pc.parted.rest.0 (without_two-ne P cut.first cut.second pc.parted.rest.0 i) in (pc.parted.rest.0, without_two-in P cut.first cut.second pc.parted.rest.0 i, ne.0, ne.1, pc.parted.rest.3));
    }

-- ---- a marked part

-- a link of the list ends at y, or no link leads from it
ends_at : (ls : List Link) (y : ℕ) → ((k : ℕ) × (k < length ls) × ((d : Link) → ((get_or ls k d).a ≡ y) ⊎ ((get_or ls k d).b ≡ y))) ⊎ ((v : ℕ) → any_joins ls y v ≡ false)
unfolding any_joins
ends_at [] y = inr (λ v. refl)
ends_at (l ∷ ls) y = elim (cases_eq l.a y) [
  | inl e ↦ inl (zero, omega arith, λ d. inl e)
  | inr na ↦ elim (cases_eq l.b y) [
    | inl e ↦ inl (zero, omega arith, λ d. inr e)
    | inr nb ↦ elim (ends_at ls y) [
      | inl r ↦ inl (suc r.0, omega (arith, r.1), r.2)
      | inr none ↦ inr (λ v. or_from (joins l y v) (any_joins ls y v) (false_from_ne_true (joins l y v) (λ j. elim (joins_gives l y v j) [ inl e ↦ na e.0 | inr e ↦ nb e.1 ])) (none v))
    ]
  ]
]

-- a node of a piece that no single node cuts has a link
has_an_end : (n : ℕ) (p : Piece) (y z : ℕ) → IsPiece n p → IsJoinedWithoutOne (net n p) (has p.nodes) → IsTrue (has p.nodes y) → IsTrue (has p.nodes z) → z ≢ y
    → (k : ℕ) × (k < length p.links) × ((d : Link) → ((get_or p.links k d).a ≡ y) ⊎ ((get_or p.links k d).b ≡ y))
has_an_end n p y z is firm py pz zy = elim (ends_at p.links y) [
  | inl r ↦ r
  | inr none ↦ absurd (zy (eqb-true z y (firm n y z
      (without-from (has p.nodes) n y py (λ e. omega (arith, e, piece_below n p is y py))) (without-from (has p.nodes) n z pz (λ e. omega (arith, e, piece_below n p is z pz)))
      (λ v. v == y) (λ u v m l iv. absurd (both_ways (any_joins p.links y v) (none v) (subst (λ w. any_joins p.links w v ≡ true) (eqb-true u y m) l))) (eq-eqb y y refl))))
]

module _ (n : ℕ) (p : Piece) (pair : Link) (marks : List Bool) (part : Piece) (is : IsPiece n p) (marked : IsMarkedPart n p marks pair part)
    (pa : IsTrue (has p.nodes pair.a)) (pb : IsTrue (has p.nodes pair.b)) (ma : mark_of marks pair.a ≡ true) (mb : mark_of marks pair.b ≡ true) where
  -- the nodes of the part
  pub in_part : (v : ℕ) → has part.nodes v ≡ (has p.nodes v && mark_of marks v)
  in_part v = ap (λ xs. has xs v) marked.nodes_are ∙ has-filter (mark_of marks) p.nodes v

  pub part_in : (v : ℕ) → IsTrue (has p.nodes v) → mark_of marks v ≡ true → IsTrue (has part.nodes v)
  part_in v pv mv = in_part v ∙ and_from (has p.nodes v) (mark_of marks v) pv mv

  pub part_out : (v : ℕ) → IsTrue (has part.nodes v) → IsTrue (has p.nodes v) × (mark_of marks v ≡ true)
  part_out v h = and_parts (has p.nodes v) (mark_of marks v) (sym (in_part v) ∙ h)

  -- its links
  links_are : (u v : ℕ) → any_joins part.links u v ≡ ((any_joins p.links u v && (has part.nodes u && has part.nodes v)) || joins pair u v)
  links_are u v = marked.links_are u v ∙ ap (λ b. b || joins pair u v) (any_filter marks p.links u v ∙ (same (any_joins p.links u v) (mark_of marks u) (mark_of marks v) (has p.nodes u) (has p.nodes v) (is.ends u v)
      ∙ ap₂ (λ x y. any_joins p.links u v && (x && y)) (sym (in_part u)) (sym (in_part v))))
    where
      same : (w m k x y : Bool) → (w ≡ true → (x && y) ≡ true) → (w && (m && k)) ≡ (w && ((x && m) && (y && k)))
      same false m k x y h = refl
      same true m k x y h = let both = and_parts x y (h refl) in rw (both.0, both.1) refl

  -- it is a piece
  pub part_is : IsPiece n part
  part_is = record {
    set = rw marked.nodes_are (IsSetBelow-filter n (mark_of marks) p.nodes is.set);
    links = marked.graph;
    ends = λ u v l. elim (or_cases (any_joins p.links u v && (has part.nodes u && has part.nodes v)) (joins pair u v) (sym (links_are u v) ∙ l)) [
      | inl e ↦ (and_parts (any_joins p.links u v) (has part.nodes u && has part.nodes v) e).1
      | inr j ↦ elim (joins_gives pair u v j) [
        | inl e ↦ and_from (has part.nodes u) (has part.nodes v) (subst (λ z. IsTrue (has part.nodes z)) e.0 (part_in pair.a pa ma)) (subst (λ z. IsTrue (has part.nodes z)) e.1 (part_in pair.b pb mb))
        | inr e ↦ and_from (has part.nodes u) (has part.nodes v) (subst (λ z. IsTrue (has part.nodes z)) e.1 (part_in pair.b pb mb)) (subst (λ z. IsTrue (has part.nodes z)) e.0 (part_in pair.a pa ma))
      ]
    ];
  }

  -- a part at the pair, where no link leads out but at the two, and it has a further node
  pub is_part : pair.a ≢ pair.b → (k : ℕ) → IsTrue (has part.nodes k) → k ≢ pair.a → k ≢ pair.b
      → ((u v : ℕ) → IsTrue (has part.nodes u) → u ≢ pair.a → u ≢ pair.b → IsTrue (any_joins p.links u v) → IsTrue (has part.nodes v)) → IsPartAt p pair part
  is_part ab k kin ka kb shut =
      let low : (v : ℕ) → IsTrue (has part.nodes v) → v < n = λ v h. piece_below n p is v (part_out v h).0 in
      let a_in = part_in pair.a pa ma in
      let b_in = part_in pair.b pb mb in
      record {
        inside = λ v h. (part_out v h).0;
        first = a_in;
        second = b_in;
        more = omega (arith, three-count n (has part.nodes) k pair.a pair.b (low k kin) (low pair.a a_in) (low pair.b b_in) kin a_in b_in ka kb ab, size_of n part.nodes part_is.set);
        shut = shut;
        links = links_are;
      }

  -- a part that lacks a node is to be cut in its turn
  pub stage_of : IsStage n p → IsPartAt p pair part → (y : ℕ) → IsTrue (has p.nodes y) → mark_of marks y ≡ false → y ≢ pair.a → IsStage n part × (length part.nodes < length p.nodes)
  stage_of stage at y py my ya =
      let firm = firm_of n p stage.is stage.nonseparable in
      let out : has part.nodes y ≡ false = in_part y ∙ and_right (has p.nodes y) (mark_of marks y) my in
      let half = half_of n p part pair is part_is at y py out in
      let firm' : IsJoinedWithoutOne (net n part) (has part.nodes) = part-like (net n p) (net n part) (has p.nodes) (has part.nodes) pair.a pair.b half.part firm in
      let low : (v : ℕ) → IsTrue (has part.nodes v) → v < n = λ v h. piece_below n part part_is v h in
      let link = has_an_end n p y pair.a is firm py pa (λ e. ya (sym e)) in
      let none : Link = record { a = 0; b = 0 } in
      let unmarked : is_inside marks (get_or p.links link.0 none) ≡ false = elim (link.2 none) [
        | inl e ↦ and_left (mark_of marks (get_or p.links link.0 none).a) (mark_of marks (get_or p.links link.0 none).b) (subst (λ z. mark_of marks z ≡ false) (sym e) my)
        | inr e ↦ and_right (mark_of marks (get_or p.links link.0 none).a) (mark_of marks (get_or p.links link.0 none).b) (subst (λ z. mark_of marks z ≡ false) (sym e) my)
      ] in
      let fewer_links : length (filter (is_inside marks) p.links) < length p.links = filter_less (is_inside marks) p.links link.0 none link.1 unmarked in
      let place = place_in p.nodes y py in
      let fewer_nodes : length (filter (mark_of marks) p.nodes) < length p.nodes = filter_less (mark_of marks) p.nodes place.0 0 place.1 (ap (mark_of marks) place.2 ∙ my) in (
        record {
          is = part_is;
          nonseparable = like-to (net n part) (has part.nodes) part_is.links low (record { two = omega (arith, size_of n part.nodes part_is.set, at.more); firm = firm' });
          few = omega (arith, marked.few, fewer_links, stage.few);
        },
        omega (arith, fewer_nodes, ap length marked.nodes_are),
      )

-- the two parts of a piece
pub halved : (n : ℕ) (p : Piece) (pair : Link) (side : List ℕ) (near far : List Bool) (left right : Piece) → IsStage n p → IsSide n p pair (has side)
    → ((v : ℕ) → mark_of near v ≡ (has side v || ((v == pair.a) || (v == pair.b)))) → ((v : ℕ) → mark_of far v ≡ minus (has p.nodes) (has side) v)
    → IsMarkedPart n p near pair left → IsMarkedPart n p far pair right → IsHalved n p (record { pair = pair; left = left; right = right })
halved n p pair side near far left right stage s nears fars lm rm =
    let is = stage.is in
    let P : ℕ → Bool = has p.nodes in
    let K : ℕ → Bool = has side in
    let a = pair.a in
    let b = pair.b in
    let ab : a ≢ b = λ e. omega (arith, s.ordered, e) in
    let ka : K a ≡ false = false_from_ne_true (K a) (λ m. (s.inside a m).1 refl) in
    let kb : K b ≡ false = false_from_ne_true (K b) (λ m. (s.inside b m).2 refl) in
    let na : mark_of near a ≡ true = nears a ∙ or_right (K a) ((a == a) || (a == b)) (or_left (a == a) (a == b) (eq-eqb a a refl)) in
    let nb : mark_of near b ≡ true = nears b ∙ or_right (K b) ((b == a) || (b == b)) (or_right (b == a) (b == b) (eq-eqb b b refl)) in
    let fa : mark_of far a ≡ true = fars a ∙ minus-in P K a s.first ka in
    let fb : mark_of far b ≡ true = fars b ∙ minus-in P K b s.second kb in
    let l_in = part_in n p pair near left is lm s.first s.second na nb in
    let l_out = part_out n p pair near left is lm s.first s.second na nb in
    let r_in = part_in n p pair far right is rm s.first s.second fa fb in
    let r_out = part_out n p pair far right is rm s.first s.second fa fb in
    -- the nodes of the two parts
    let k_left : (v : ℕ) → IsTrue (K v) → IsTrue (has left.nodes v) = λ v m. l_in v (s.inside v m).0 (nears v ∙ or_left (K v) ((v == a) || (v == b)) m) in
    let left_k : (v : ℕ) → IsTrue (has left.nodes v) → IsTrue (K v) ⊎ IsTrue ((v == a) || (v == b)) = λ v h. or_cases (K v) ((v == a) || (v == b)) (sym (nears v) ∙ (l_out v h).1) in
    let to_right : (v : ℕ) → IsTrue (P v) → K v ≡ false → IsTrue (has right.nodes v) = λ v pv out. r_in v pv (fars v ∙ minus-in P K v pv out) in
    let right_off : (v : ℕ) → IsTrue (has right.nodes v) → K v ≡ false = λ v h. (minus-out P K v (sym (fars v) ∙ (r_out v h).1)).1 in
    let l_at : IsPartAt p pair left = is_part n p pair near left is lm s.first s.second na nb ab s.some.0 (k_left s.some.0 s.some.1) (s.inside s.some.0 s.some.1).1 (s.inside s.some.0 s.some.1).2
    (λ u v lu ua ub link.
    let ku : IsTrue (K u) = elim (left_k u lu) [ inl m ↦ m | inr e ↦ elim (or_cases (u == a) (u == b) e) [ inl i ↦ absurd (ua (eqb-true u a i)) | inr i ↦ absurd (ub (eqb-true u b i)) ] ] in
    let pv = (and_parts (P u) (P v) (is.ends u v link)).1 in
    elim (cases_eq v a) [
      | inl e ↦ subst (λ z. IsTrue (has left.nodes z)) (sym e) (l_in a s.first na)
      | inr va ↦ elim (cases_eq v b) [
        | inl e ↦ subst (λ z. IsTrue (has left.nodes z)) (sym e) (l_in b s.second nb)
        | inr vb ↦ k_left v (s.shut u v ku link pv va vb)
      ]
    ]) in
    let r_at : IsPartAt p pair right = is_part n p pair far right is rm s.first s.second fa fb ab s.rest.0 (to_right s.rest.0 s.rest.1 s.rest.4) s.rest.2 s.rest.3
    (λ u v ru ua ub link.
    let pv = (and_parts (P u) (P v) (is.ends u v link)).1 in
    to_right v pv (false_from_ne_true (K v) (λ m. both_ways (K u) (right_off u ru) (s.shut v u m (linked_comm (net n p) u v link) (r_out u ru).0 ua ub)))) in
    let y = s.rest.0 in
    let x = s.some.0 in
    let l_stage = stage_of n p pair near left is lm s.first s.second na nb stage l_at y s.rest.1
    (nears y ∙ false_from_ne_true (K y || ((y == a) || (y == b))) (λ m. elim (or_cases (K y) ((y == a) || (y == b)) m) [
      | inl k ↦ both_ways (K y) s.rest.4 k
      | inr e ↦ elim (or_cases (y == a) (y == b) e) [ inl i ↦ s.rest.2 (eqb-true y a i) | inr i ↦ s.rest.3 (eqb-true y b i) ]
    ])) s.rest.2 in
    let r_stage = stage_of n p pair far right is rm s.first s.second fa fb stage r_at x (s.inside x s.some.1).0
    (fars x ∙ false_from_ne_true (minus P K x) (λ m. both_ways (K x) (minus-out P K x m).1 s.some.1)) (s.inside x s.some.1).1 in
    record {
      cut = record {
        ordered = s.ordered;
        one = l_at;
        other = r_at;
        cover = λ v pv. elim (cases_Bool (K v)) [ inl m ↦ or_left (has left.nodes v) (has right.nodes v) (k_left v m) | inr out ↦ or_right (has left.nodes v) (has right.nodes v) (to_right v pv out) ];
        shared = λ v lv rv. elim (left_k v lv) [ inl m ↦ absurd (both_ways (K v) (right_off v rv) m) | inr e ↦ e ];
      };
      left = l_stage.0;
      right = r_stage.0;
      left_fewer = l_stage.1;
      right_fewer = r_stage.1;
    }
