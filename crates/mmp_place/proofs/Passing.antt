-- A set passes the tests of the rule exactly where it leaves no bad part.
use Rattle.std.proofs.Common.{◌≡◌, ◌≢◌, ℕ, zero, suc, ◌<◌, ◌≤◌, nat_lt, Bool, false, ◌&&◌, ◌||◌, ◌==◌, IsTrue, sym, ◌∙◌, subst, arith, inl, inr, ◌⊎◌, lt-ltb}
use Rattle.std.proofs.lemmas.Bool.{cases_Bool, cases_eq, both_ways, and_parts, and_from, or_cases, false_from_ne_true}
use Rattle.tomo_base.specs.Network.{Network, IsGraph, linked}
use Rattle.tomo_base.specs.Sets.{size, degree, minus, without}
use Rattle.tomo_base.specs.BadParts.{NoBadPart}
use Rattle.tomo_base.proofs.Counts.{find, count-less}
use Rattle.tomo_base.specs.Parting.{IsJoinedIn, IsJoinedWithoutTwo}
use Rattle.tomo_base.proofs.Parting.{without-from, without-parts, without_two-in, without_two-from, without_two-ne, minus-in, minus-out, flip, closed-rest}
use Rattle.tomo_base.proofs.Picks.{without-off, pick3, two-at-most, four-count}
use Rattle.tomo_base.proofs.Reaching.{is_node, is_node_below, is_node-from, joined-or, nodes_in}
use Rattle.blocks.specs.Cutting.{BlockLike}
use Rattle.blocks.proofs.Cutting.{block-over}
use Rattle.blocks.proofs.Working.{block-to}
use Rattle.blocks.proofs.Unparted.{unparted-block, unparted-graph}
use Rattle.mmp_place.specs.Rule.{counting, IsShortSet, PassesRule}
use Rattle.mmp_place.proofs.Nodes.{ends_are, differ, size_every_node}
use Rattle.mmp_place.proofs.Parts.{three_block_gives}
use Rattle.mmp_place.proofs.Short.{leaves, leaves_gives, HasGates, bad_gates, short_bad, narrow_bad}
use Rattle.mmp_place.proofs.Smallest.{with_link, with_two, IsBetween, HasNoSmaller, part_in, a_in, b_in, part_or, part_nodes, near_part, three_joined, joined_without_link, unparted, further_nodes}

-- a bad part of which no two outside neighbours are a and b would be smaller
module _ (g : Network) (m q : ℕ → Bool) (graph : IsGraph g) (whole : IsJoinedIn g (is_node g)) (pass : PassesRule g m) (bad : HasGates g m q) (none : HasNoSmaller g q) where
  -- a single node has degree below three
  alone : ((v : ℕ) → IsTrue (q v) → v ≡ bad.node) → ⊥
  alone only =
      let u = bad.node in
      let l = is_node_below g u (bad.inside u bad.node_in) in
      let few : degree g u ≤ 2 = two-at-most g.nodes (linked g u) bad.c bad.d (λ v lv h. elim (cases_eq v bad.c) [
        | inl e ↦ inl e
        | inr nc ↦ elim (cases_eq v bad.d) [
          | inl e ↦ inr e
          | inr nd ↦ absurd (differ g graph u v h (sym (only v (bad.shut u v bad.node_in h (without_two-from (is_node g) bad.c bad.d v (is_node-from g v lv) nc nd)))))
        ]
      ]) in
      both_ways (m u) (bad.free u bad.node_in) (pass.narrow_nodes u l (and_from (is_node g u) (nat_lt (degree g u) 3) (is_node-from g u l) (lt-ltb (degree g u) 3 (omega (arith, few)))))

  -- two nodes or more and at most one neighbour: without a node it is smaller
  one_gate : (p : ℕ) → IsTrue (q p) → p ≢ bad.node → (e : ℕ) → q e ≡ false
      → ((u v : ℕ) → IsTrue (q u) → IsTrue (linked g u v) → IsTrue (is_node g v) → v ≢ e → IsTrue (q v)) → ⊥
  one_gate p ip pq e qe gate =
      none (without q p) (λ v h. (without-parts q p v h).0) bad.node p (without-from q p bad.node bad.node_in (flip pq)) ip (without-off q p)
      p e (without-off q p) (false_from_ne_true (without q p e) (λ h. both_ways (q e) qe (without-parts q p e h).0))
      (λ u v h l iv. let k = without_two-ne (is_node g) p e v iv in without-from q p v (gate u v (without-parts q p u h).0 l (without_two-in (is_node g) p e v iv) k.1) k.0)

  -- just two neighbours
  module _ (p : ℕ) (ip : IsTrue (q p)) (p_other : p ≢ bad.node) (a b : ℕ) (is : IsBetween g q a b) where
    -- a number that is not in the part is another than those in it
    out : (e : ℕ) → q e ≡ false → (v : ℕ) → IsTrue (q v) → v ≢ e
    out e n v h k = both_ways (q e) n (subst (λ z. IsTrue (q z)) k h)

    four : 4 ≤ size g (with_two q a b)
    four =
        let u = bad.node in
        let iu = bad.node_in in
        let qp = part_in g q a b is in
        let below = λ (v : ℕ) (h : IsTrue (with_two q a b v)). is_node_below g v (part_nodes g q a b is v h) in
        four-count g.nodes (with_two q a b) u p a b (below u (qp u iu)) (below p (qp p ip)) (below a (a_in g q a b is)) (below b (b_in g q a b is))
        (qp u iu) (qp p ip) (a_in g q a b is) (b_in g q a b is) (flip p_other) (out a is.a_off u iu) (out b is.b_off u iu) (out a is.a_off p ip) (out b is.b_off p ip) is.differ

    -- only the two neighbours count
    short : IsShortSet g m (with_two q a b)
    short = omega (
      arith,
      two-at-most g.nodes (counting g (with_two q a b) m) a b (λ v l h.
          let k = and_parts (with_two q a b v) (m v || leaves g (with_two q a b) v) h in
          elim (part_or g q a b is v k.0) [
            | inr e ↦ e
            | inl qv ↦ absurd (elim (or_cases (m v) (leaves g (with_two q a b) v) k.1) [
              | inl mv ↦ both_ways (m v) (bad.free v qv) mv
              | inr lv ↦
                  let r = leaves_gives g (with_two q a b) v lv in
                  both_ways (with_two q a b r.0) r.2 (near_part g q a b is v r.0 qv r.1 (ends_are g graph v r.0 r.1).1)
            ])
          ]),
    )

    rigid : IsJoinedWithoutTwo (with_link g a b) (with_two q a b)
    rigid = three_joined g q a b is none

    like : BlockLike g g.nodes (with_two q a b)
    like = record { two = omega (arith, four); firm = joined_without_link g (with_two q a b) a b is.differ (pick3 g.nodes (with_two q a b) four) rigid }

    -- a node that is not in the set is another than those in it
    other : (z e : ℕ) → with_two q a b z ≡ false → IsTrue (with_two q a b e) → z ≢ e
    other z e n pe k = both_ways (with_two q a b z) n (subst (λ t. IsTrue (with_two q a b t)) (sym k) pe)

    below : (v : ℕ) → IsTrue (is_node g v) → v < g.nodes
    below v h = is_node_below g v h

    two_gates : ⊥
    two_gates =
        let v = is_node g in
        let s = with_two q a b in
        let u = bad.node in
        let iu = bad.node_in in
        let pv = part_nodes g q a b is in
        let qp = part_in g q a b is in
        let pa = a_in g q a b is in
        let pb = b_in g q a b is in
        let aside = minus-in v q a is.a_node is.a_off in
        elim (joined-or g (minus v q) g.nodes (λ z h. below z (minus-out v q z h).0) a b aside) [
          | inl beside ↦
              -- a way leads from a to b beside the part: it is a three-block
              let c = block-over g g.nodes v below whole s like pv in
              pass.three_blocks s (three_block_gives g s graph (record {
                block = c.0;
                is_block = c.1;
                within = record {
                  inside = c.2;
                  four = four;
                  joined = λ x y px py xy. unparted-block g g.nodes v below whole c.0 c.1 x y (c.2 x px) (c.2 y py) (unparted g q a b is rigid like.firm beside x y px py xy);
                  largest = λ t st tc pairwise z tz. elim (cases_Bool (s z)) [
                    | inl h ↦ h
                    | inr n ↦ absurd (both_ways (s z) n (qp z (unparted-graph g g.nodes v c.0 c.1 u z
                        (pairwise u z (st u (qp u iu)) tz (flip (other z u n (qp u iu)))) a b (flip (out a is.a_off u iu)) (flip (other z a n pa)) (flip (out b is.b_off u iu)) (flip (other z b n pb)) q is.shut iu)))
                  ];
                };
              })) short
          | inr apart ↦
              -- none does: it is a block
              let r = apart.0 in
              let o = minus v q in
              pass.blocks s (
                block-to g s graph (record {
                  inside = pv;
                  like = like;
                  largest = λ t tl tv pt z tz. elim (cases_Bool (s z)) [
                    | inl h ↦ h
                    | inr n ↦ absurd (both_ways (r z)
                        (minus-out o r z (further_nodes g q a b is t tv pt b a (tl.firm a) (λ w e na. elim e [ inr k ↦ k | inl k ↦ absurd (na k) ]) u iu (out a is.a_off u iu)
                        (minus o r) (closed-rest g o r apart.2) (minus-in o r b (minus-in v q b is.b_node is.b_off) apart.4) z tz n (other z a n pa))).1
                        (further_nodes g q a b is t tv pt a b (tl.firm b) (λ w e nb. elim e [ inl k ↦ k | inr k ↦ absurd (nb k) ]) u iu (out b is.b_off u iu)
                        r apart.2 apart.3 z tz n (other z b n pb)))
                  ];
                }),
                omega (arith, four),
              ) short
        ]

  -- a node that q is linked to, or none
  near : (e : ℕ) → ((u : ℕ) × IsTrue (q u) × IsTrue (linked g u e)) ⊎ ((u : ℕ) → IsTrue (q u) → IsTrue (linked g u e) → ⊥)
  near e = elim (find g.nodes (λ u. q u && linked g u e)) [
    | inl r ↦ let k = and_parts (q r.0) (linked g r.0 e) r.2 in inl (r.0, k.0, k.1)
    | inr f ↦ inr (λ u h l. both_ways (q u && linked g u e) (f u (is_node_below g u (bad.inside u h))) (and_from (q u) (linked g u e) h l))
  ]

  -- there is no such bad part
  smallest_none : ⊥
  smallest_none =
      let c = bad.c in
      let d = bad.d in
      let v = is_node g in
      elim (find g.nodes (without q bad.node)) [
        | inr f ↦ alone (λ z h. elim (cases_eq z bad.node) [
          | inl e ↦ e
          | inr ne ↦ absurd (both_ways (without q bad.node z) (f z (is_node_below g z (bad.inside z h))) (without-from q bad.node z h ne))
        ])
        | inl r ↦
            let p = without-parts q bad.node r.0 r.2 in
            elim (near c) [
              | inr nc ↦ one_gate r.0 p.0 p.1 d bad.d_off (λ u z h l iz zd. bad.shut u z h l
                  (without_two-from v c d z iz (λ e. nc u h (subst (λ t. IsTrue (linked g u t)) e l)) zd))
              | inl to_c ↦ elim (near d) [
                | inr nd ↦ one_gate r.0 p.0 p.1 c bad.c_off (λ u z h l iz zc. bad.shut u z h l
                    (without_two-from v c d z iz zc (λ e. nd u h (subst (λ t. IsTrue (linked g u t)) e l))))
                | inl to_d ↦ elim (cases_eq c d) [
                  | inl cd ↦ one_gate r.0 p.0 p.1 c bad.c_off (λ u z h l iz zc. bad.shut u z h l (without_two-from v c d z iz zc (λ e. zc (e ∙ sym cd))))
                  | inr cd ↦ two_gates r.0 p.0 p.1 c d (record {
                    differ = cd;
                    inside = bad.inside;
                    a_node = (ends_are g graph to_c.0 c to_c.2).1;
                    b_node = (ends_are g graph to_d.0 d to_d.2).1;
                    a_off = bad.c_off;
                    b_off = bad.d_off;
                    shut = bad.shut;
                    to_a = to_c;
                    to_b = to_d;
                  })
                ]
              ]
            ]
      ]

-- a set that passes leaves no bad part with fewer than f nodes
none_below : (g : Network) (m : ℕ → Bool) → IsGraph g → IsJoinedIn g (is_node g) → PassesRule g m → (f : ℕ) (q : ℕ → Bool) → size g q < f → HasGates g m q → ⊥
none_below g m graph whole pass zero q l bad = omega (arith, l)
none_below g m graph whole pass (suc f) q l bad = smallest_none g m q graph whole pass bad (λ y sub s t ys qt nt c d yc yd shut.
    none_below g m graph whole pass f y (omega (arith, l, count-less g.nodes y q t (is_node_below g t (bad.inside t qt)) nt qt (λ v k h. sub v h))) (record {
      inside = λ v h. bad.inside v (sub v h);
      node = s;
      node_in = ys;
      free = λ v h. bad.free v (sub v h);
      c = c;
      d = d;
      c_off = yc;
      d_off = yd;
      shut = shut;
    }))

-- a set that passes leaves no bad part
pub passing_is_good : (g : Network) (m : ℕ → Bool) → IsGraph g → IsJoinedIn g (is_node g) → PassesRule g m → NoBadPart g m
passing_is_good g m graph whole pass q bad =
    let w : ℕ → Bool = nodes_in g q in
    none_below g m graph whole pass (suc (size g w)) w (omega arith) (bad_gates g m q graph bad)

-- a set without a bad part passes
pub good_passes : (g : Network) (m : ℕ → Bool) → IsGraph g → 3 ≤ g.nodes → NoBadPart g m → PassesRule g m
good_passes g m graph three good = record {
  narrow_nodes = λ v l few. elim (cases_Bool (m v)) [ inl h ↦ h | inr n ↦ absurd (good (λ w. w == v) (narrow_bad g m v l few n)) ];
  three_blocks = λ t is short. good _ (short_bad g m t graph (omega (arith, is.2.four)) short);
  blocks = λ b is short. good _ (short_bad g m b graph is.1 short);
  all_nodes = λ short. good _ (short_bad g m (is_node g) graph (omega (arith, three, size_every_node g)) short);
}
