-- cutting a connected graph at its cut vertices until nothing is left to cut gives exactly the blocks
use Rattle.std.proofs.Common.{◌≢◌, ℕ, zero, suc, ◌+◌, ◌≤◌, ◌<◌, Bool, ◌||◌, ◌⊎◌, List, [], ◌∷◌, IsTrue, sym, subst, ◌∙◌, inl, inr, arith}
use Rattle.std.proofs.lemmas.Bool.{cases_Bool, both_ways, or_cases, or_left, or_right, cases_eq}
use Rattle.tomo_base.specs.Network.{Network}
use Rattle.tomo_base.specs.Sets.{count, without, Within}
use Rattle.tomo_base.specs.Parting.{with_one, IsJoinedIn, IsJoinedWithoutOne}
use Rattle.tomo_base.proofs.Parting.{without-from, without-parts, joined-more, joined-at, joined-each}
use Rattle.tomo_base.proofs.Reaching.{cut-or-joined}
use Rattle.tomo_base.proofs.Picks.{count-within, pick1}
use Rattle.blocks.specs.Cutting.{Each, Some, Pairs, BlockLike, OneOwner, MeetOne, Rough, Ready, Cutting, weight}
use Rattle.blocks.proofs.SetLists.{each-map, each-both, each-every, some-with, some-each, pairs-each, at-home}
use Rattle.gate_search.proofs.Cutting.{Cut}
use Rattle.blocks.proofs.CutSets.{Block, meet-one, meet-sym, rest, cut-other, side-in, cut-firm, cut-two, cut-count, like-in-part, sides-meet, owner-part, owner-ext}

-- at first all nodes are to be cut
pub cutting-start : (N : Network) (n : ℕ) (V : ℕ → Bool) → 2 ≤ count n V → IsJoinedIn N V → Cutting N n V (V ∷ []) []
cutting-start N n V two firm = record {
  rough = (
    record {
      inside = λ v m. m;
      two = two;
      firm = firm;
      owner = record {
        own = λ d. d;
        lands = λ d vd nd. vd;
        same = λ d e vd nd ve ne l. absurd (both_ways (V d) nd vd);
        touch = λ d x vd nd vx l. absurd (both_ways (V d) nd vd);
      };
    },
    tt,
  );
  ready = tt;
  cover = λ T like tv. inl (inl tv);
  apart = (tt, tt);
  apart_out = tt;
  across = (tt, tt);
}

-- a set that no node cuts is ready
pub cutting-ready : (N : Network) (n : ℕ) (V S : ℕ → Bool) (todo out : List (ℕ → Bool)) → Cutting N n V (S ∷ todo) out → IsJoinedWithoutOne N S → Cutting N n V todo (S ∷ out)
cutting-ready N n V S todo out c firm = record {
  rough = c.rough.1;
  ready = (record { inside = c.rough.0.inside; like = record { two = c.rough.0.two; firm = firm }; owner = c.rough.0.owner }, c.ready);
  cover = λ T like tv. elim (c.cover T like tv) [
    | inr r ↦ inr (inr r)
    | inl h ↦ elim h [ inl s ↦ inr (inl s) | inr r ↦ inl r ]
  ];
  apart = c.apart.1;
  apart_out = (c.across.0, c.apart_out);
  across = each-both (λ A. MeetOne A S) (λ A. Each (MeetOne A) out) todo (each-map (MeetOne S) (λ A. MeetOne A S) (λ A h. meet-sym S A h) todo c.apart.0) c.across.1;
}

-- a set that a node cuts gives way to its two sides
pub cutting-cut : (N : Network) (n : ℕ) (V : ℕ → Bool) → ((v : ℕ) → IsTrue (V v) → v < n) → (S : ℕ → Bool) (w : ℕ) (K : ℕ → Bool) (todo out : List (ℕ → Bool))
    → Cutting N n V (S ∷ todo) out → Cut N S w K → Cutting N n V (with_one K w ∷ (with_one (rest S w K) w ∷ todo)) out
cutting-cut N n V bound S w K todo out c cut =
    let R : ℕ → Bool = rest S w K in
    let s = c.rough.0 in
    let low = λ (v : ℕ) (m : IsTrue (S v)). bound v (s.inside v m) in
    let side = λ (J : ℕ → Bool) (j : Cut N S w J). let h : Rough N n V (with_one J w) = record {
      inside = λ v m. s.inside v (side-in N S w J j v m);
      two = cut-two N S w J n low j;
      firm = cut-firm N S w J s.firm j;
      owner = owner-part N V S w J s.owner j;
    } in h in
    let fewer = λ (J : ℕ → Bool) (j : Cut N S w J) (xs : List (ℕ → Bool)) (h : Each (MeetOne S) xs).
    each-map (MeetOne S) (MeetOne (with_one J w)) (λ A k. meet-one S A (with_one J w) A (side-in N S w J j) (λ v m. m) k) xs h in
    let other = cut-other N S w K cut in
    record {
      rough = (side K cut, (side R other, c.rough.1));
      ready = c.ready;
      cover = λ T like tv. elim (c.cover T like tv) [
        | inr r ↦ inr r
        | inl h ↦ elim h [
          | inr r ↦ inl (inr (inr r))
          | inl ts ↦ elim (like-in-part N S w K n cut T like ts (λ v m. bound v (tv v m))) [ inl k ↦ inl (inl k) | inr k ↦ inl (inr (inl k)) ]
        ]
      ];
      apart = ((sides-meet S w K, fewer K cut todo c.apart.0), (fewer R other todo c.apart.0, c.apart.1));
      apart_out = c.apart_out;
      across = (fewer K cut out c.across.0, (fewer R other out c.across.0, c.across.1));
    }

-- two sets that share at most one node: no set of two nodes lies in both
clash : (n : ℕ) (A B X : ℕ → Bool) → MeetOne A B → 2 ≤ count n X → Within X A → Within X B → ⊥
clash n A B X h two xa xb =
    let u = pick1 n X two n in
    let v = pick1 n X two u.0 in
    v.3 (h v.0 u.0 (xa v.0 v.2) (xb v.0 v.2) (xa u.0 u.2) (xb u.0 u.2))

-- at the end the sets are blocks, every block is one of them, and none stands twice
pub cutting-end : (N : Network) (n : ℕ) (V : ℕ → Bool) (out : List (ℕ → Bool)) → Cutting N n V [] out
    → Each (Block N n V) out × ((B : ℕ → Bool) → Block N n V B → Some (λ L. Within B L × Within L B) out) × Pairs (λ A B. Within A B → ⊥) out
cutting-end N n V out c =
    let covers : (T : ℕ → Bool) → BlockLike N n T → Within T V → Some (Within T) out = λ T like tv. elim (c.cover T like tv) [ inl none ↦ absurd none | inr h ↦ h ] in
    let Big : Type 0 = (S : ℕ → Bool) × BlockLike N n S × Within S V in
    let homes = each-every Big (λ s L. (2 ≤ count n L) × Within L s.0 → Within s.0 L) out (λ s.
    at-home MeetOne (λ L. (2 ≤ count n L) × Within L s.0) (λ L. Within s.0 L)
    (λ x y r g h. clash n x y x r g.0 (λ v m. m) (λ v m. h v (g.1 v m)))
    (λ x y r h g. clash n x y y r g.0 (λ v m. h v (g.1 v m)) (λ v m. m))
    out c.apart_out (covers s.0 s.1 s.2)) in
    let blocks = each-map (λ L. Ready N n V L × ((s : Big) → (2 ≤ count n L) × Within L s.0 → Within s.0 L)) (Block N n V)
    (λ L h. record {
      inside = h.0.inside;
      like = h.0.like;
      largest = λ T like tv lt. h.1 (T, like, tv) (h.0.like.two, lt);
    }) out
    (each-both (Ready N n V) (λ L. (s : Big) → (2 ≤ count n L) × Within L s.0 → Within s.0 L) out c.ready homes) in (
      blocks,
      (λ B b. some-with (Within B) (Block N n V) (λ L. Within B L × Within L B) (λ L bl k. (bl, b.largest L k.like k.inside bl)) out (covers B b.like b.inside) blocks),
      pairs-each MeetOne (Ready N n V) (λ A B. Within A B → ⊥) (λ A B r k ab. clash n A B A r k.like.two (λ v m. m) ab) out c.apart_out c.ready,
    )

-- a node of S below k that cuts it, or none
pub find-cut : (N : Network) (S : ℕ → Bool) (n : ℕ) → ((v : ℕ) → IsTrue (S v) → v < n) → 2 ≤ count n S → (k : ℕ)
    → ((w : ℕ) × (K : ℕ → Bool) × Cut N S w K) ⊎ ((w : ℕ) → w < k → IsTrue (S w) → IsJoinedIn N (without S w))
find-cut N S n bound two zero = inr (λ w l. absurd (omega (arith, l)))
find-cut N S n bound two (suc k) = elim (find-cut N S n bound two k) [
  | inl r ↦ inl r
  | inr f ↦ elim (cases_Bool (S k)) [
    | inr n ↦ inr (λ w l m. elim (cases_eq w k) [
      | inl e ↦ absurd (both_ways (S k) n (subst (λ z. IsTrue (S z)) e m))
      | inr d ↦ f w (omega (arith, l, d)) m
    ])
    | inl sk ↦
        let a = pick1 n S two k in
        let ia = without-from S k a.0 a.2 a.3 in
        elim (cut-or-joined N (without S k) n (λ v m. bound v (without-parts S k v m).0) a.0 ia) [
          | inl g ↦ inr (λ w l m. elim (cases_eq w k) [
            | inl e ↦ subst (λ z. IsJoinedIn N (without S z)) (sym e) g
            | inr d ↦ f w (omega (arith, l, d)) m
          ])
          | inr r ↦ inl (k, r.0, record { at = sk; inner = r.1; shut = r.2; here = a.0; here_in = r.3; there = r.4.0; there_in = r.4.1; there_off = r.4.2 })
        ]
  ]
]

-- cutting comes to an end
pub cut-all : (N : Network) (n : ℕ) (V : ℕ → Bool) → ((v : ℕ) → IsTrue (V v) → v < n) → (f : ℕ) (todo out : List (ℕ → Bool)) → weight n todo < f
    → Cutting N n V todo out → (blocks : List (ℕ → Bool)) × Cutting N n V [] blocks
cut-all N n V bound zero todo out l c = absurd (omega (arith, l))
cut-all N n V bound (suc f) [] out l c = (out, c)
cut-all N n V bound (suc f) (S ∷ todo) out l c =
    let s = c.rough.0 in
    let low = λ (v : ℕ) (m : IsTrue (S v)). bound v (s.inside v m) in
    let two : 2 ≤ count n S = s.two in
    elim (find-cut N S n low two n) [
      | inr none ↦ cut-all N n V bound f todo (S ∷ out) (omega (arith, l, two))
          (cutting-ready N n V S todo out c (joined-each N S s.firm (λ w m. none w (low w m) m)))
      | inl r ↦ cut-all N n V bound f (with_one r.1 r.0 ∷ (with_one (rest S r.0 r.1) r.0 ∷ todo)) out
          (omega (arith, l, two, cut-count N S r.0 r.1 n low r.2, cut-two N S r.0 r.1 n low r.2, cut-two N S r.0 (rest S r.0 r.1) n low (cut-other N S r.0 r.1 r.2)))
          (cutting-cut N n V bound S r.0 r.1 todo out c r.2)
    ]

-- a connected graph of two nodes or more has its list of blocks
pub all-blocks : (N : Network) (n : ℕ) (V : ℕ → Bool) → ((v : ℕ) → IsTrue (V v) → v < n) → 2 ≤ count n V → IsJoinedIn N V
    → (blocks : List (ℕ → Bool)) × Cutting N n V [] blocks
all-blocks N n V bound two firm = cut-all N n V bound (weight n (V ∷ []) + 1) (V ∷ []) [] (omega arith) (cutting-start N n V two firm)

-- every nonseparable set lies in a block
pub block-over : (N : Network) (n : ℕ) (V : ℕ → Bool) → ((v : ℕ) → IsTrue (V v) → v < n) → IsJoinedIn N V → (T : ℕ → Bool) → BlockLike N n T → Within T V
    → (B : ℕ → Bool) × Block N n V B × Within T B
block-over N n V bound firm T like tv =
    let r = all-blocks N n V bound (omega (arith, like.two, count-within n T V tv)) firm in
    let e = cutting-end N n V r.0 r.1 in
    elim (r.1.cover T like tv) [
      | inl none ↦ absurd none
      | inr h ↦ let s = some-each (Within T) (Block N n V) r.0 h e.0 in (s.0, s.2, s.1)
    ]

-- two blocks that share two nodes are one
pub blocks-meet : (N : Network) (n : ℕ) (V B C : ℕ → Bool) → Block N n V B → Block N n V C → (u v : ℕ) → (u ≢ v)
    → IsTrue (B u) → IsTrue (C u) → IsTrue (B v) → IsTrue (C v) → Within B C × Within C B
blocks-meet N n V B C b c u v uv bu cu bv cv =
    let W : ℕ → Bool = λ x. B x || C x in
    let bw : Within B W = λ x m. or_left (B x) (C x) m in
    let cw : Within C W = λ x m. or_right (B x) (C x) m in
    let wv : Within W V = λ x m. elim (or_cases (B x) (C x) m) [ inl k ↦ b.inside x k | inr k ↦ c.inside x k ] in
    let at : (d z : ℕ) → IsTrue (B z) → IsTrue (C z) → (z ≢ d) → IsJoinedIn N (without W d) = λ d z bz cz zd.
    joined-at N (without W d) z (without-from W d z (bw z bz) zd) (λ x m.
    let p = without-parts W d x m in
    elim (or_cases (B x) (C x) p.0) [
      | inl k ↦ joined-more N (without B d) (without W d) (λ y i. let q = without-parts B d y i in without-from W d y (bw y q.0) q.1) z x
          (b.like.firm d z x (without-from B d z bz zd) (without-from B d x k p.1))
      | inr k ↦ joined-more N (without C d) (without W d) (λ y i. let q = without-parts C d y i in without-from W d y (cw y q.0) q.1) z x
          (c.like.firm d z x (without-from C d z cz zd) (without-from C d x k p.1))
    ]) in
    let like : BlockLike N n W = record {
      two = omega (arith, b.like.two, count-within n B W bw);
      firm = λ d. elim (cases_eq u d) [
        | inr ud ↦ at d u bu cu ud
        | inl e ↦ at d v bv cv (λ k. uv (e ∙ sym k))
      ];
    } in
    ((λ x m. c.largest W like wv cw x (bw x m)), (λ x m. b.largest W like wv bw x (cw x m)))

-- every node outside a block has one owner in it
pub block-owner : (N : Network) (n : ℕ) (V : ℕ → Bool) → ((v : ℕ) → IsTrue (V v) → v < n) → IsJoinedIn N V → (B : ℕ → Bool) → Block N n V B → OneOwner N V B
block-owner N n V bound firm B b =
    let r = all-blocks N n V bound (omega (arith, b.like.two, count-within n B V b.inside)) firm in
    let e = cutting-end N n V r.0 r.1 in
    let s = some-each (λ L. Within B L × Within L B) (Ready N n V) r.0 (e.1 B b) r.1.ready in
    owner-ext N V s.0 B s.1.1 s.1.0 s.2.owner
