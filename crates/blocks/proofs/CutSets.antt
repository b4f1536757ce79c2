-- A set of nodes that one of its nodes cuts into two; blocks, by closed sets; and who owns the nodes outside a block.
use Rattle.std.proofs.Common.{◌≡◌, ℕ, ◌+◌, ◌≤◌, ◌<◌, Bool, true, false, cond, not, ◌&&◌, ◌==◌, ◌⊎◌, IsTrue, refl, sym, ap, subst, ◌∙◌, inl, inr, arith}
use Rattle.std.proofs.lemmas.Bool.{cases_Bool, both_ways, and_parts, and_from, and_left, and_right, eqb-true, eq-eqb, or_cases, or_left, or_right, cases_eq}
use Rattle.tomo_base.specs.Network.{Network}
use Rattle.tomo_base.specs.Sets.{count, without, minus, meet, Within}
use Rattle.tomo_base.proofs.Links.{linked_comm}
use Rattle.tomo_base.proofs.Counts.{find}
use Rattle.tomo_base.specs.Parting.{with_one, IsJoinedIn}
use Rattle.tomo_base.proofs.Parting.{without-from, without-parts, minus-in, minus-out, closed-rest, joined-at}
use Rattle.tomo_base.proofs.Picks.{count-split, count-within, count-without, count-removed, two-count}
use Rattle.gate_search.proofs.Cutting.{Cut}
use Rattle.blocks.specs.Cutting.{BlockLike, OneOwner, MeetOne}
use Rattle.blocks.proofs.OneSide.{side-firm, one-side}

-- the first where the test holds
pub cond-on : {b : Bool} (x y : ℕ) → b ≡ true → cond b x y ≡ x
cond-on {b} x y e = subst (λ z. cond z x y ≡ x) (sym e) refl

-- the second where it does not
pub cond-off : {b : Bool} (x y : ℕ) → b ≡ false → cond b x y ≡ y
cond-off {b} x y e = subst (λ z. cond z x y ≡ y) (sym e) refl

-- a largest nonseparable set of nodes of V
pub record Block (N : Network) (n : ℕ) (V B : ℕ → Bool) : Type 0 where
  pub inside : Within B V
  pub like : BlockLike N n B
  pub largest : (T : ℕ → Bool) → BlockLike N n T → Within T V → Within B T → Within T B

-- smaller sets share no more
pub meet-one : (A B A' B' : ℕ → Bool) → Within A' A → Within B' B → MeetOne A B → MeetOne A' B'
meet-one A B A' B' sa sb h u v au bu av bv = h u v (sa u au) (sb u bu) (sa v av) (sb v bv)

-- sharing is the same in either order
pub meet-sym : (A B : ℕ → Bool) → MeetOne A B → MeetOne B A
meet-sym A B h u v bu au bv av = h u v au bu av bv

-- the other side of a cut
abbrev pub rest : (ℕ → Bool) → ℕ → (ℕ → Bool) → ℕ → Bool
rest S w K v = minus (without S w) K v

-- the other side cuts too
pub cut-other : (N : Network) (S : ℕ → Bool) (w : ℕ) (K : ℕ → Bool) → Cut N S w K → Cut N S w (rest S w K)
cut-other N S w K cut = record {
  at = cut.at;
  inner = λ v m. (minus-out (without S w) K v m).0;
  shut = closed-rest N (without S w) K cut.shut;
  here = cut.there;
  here_in = minus-in (without S w) K cut.there cut.there_in cut.there_off;
  there = cut.here;
  there_in = cut.inner cut.here cut.here_in;
  there_off = and_right (without S w cut.here) (not (K cut.here)) (ap not cut.here_in);
}

-- a side with the cut vertex lies in the set
pub side-in : (N : Network) (S : ℕ → Bool) (w : ℕ) (K : ℕ → Bool) → Cut N S w K → Within (with_one K w) S
side-in N S w K cut v m = elim (or_cases (K v) (v == w) m) [
  | inl k ↦ (without-parts S w v (cut.inner v k)).0
  | inr e ↦ subst (λ z. IsTrue (S z)) (sym (eqb-true v w e)) cut.at
]

-- a side with the cut vertex is connected
pub cut-firm : (N : Network) (S : ℕ → Bool) (w : ℕ) (K : ℕ → Bool) → IsJoinedIn N S → Cut N S w K → IsJoinedIn N (with_one K w)
cut-firm N S w K firm cut = joined-at N (with_one K w) w (or_right (K w) (w == w) (eq-eqb w w refl)) (side-firm N S K w firm cut.at cut.inner cut.shut)

-- a side with the cut vertex has two nodes
pub cut-two : (N : Network) (S : ℕ → Bool) (w : ℕ) (K : ℕ → Bool) (n : ℕ) → ((v : ℕ) → IsTrue (S v) → v < n) → Cut N S w K → 2 ≤ count n (with_one K w)
cut-two N S w K n bound cut =
    let i = without-parts S w cut.here (cut.inner cut.here cut.here_in) in
    two-count n (with_one K w) cut.here w (bound cut.here i.0) (bound w cut.at) (or_left (K cut.here) (cut.here == w) cut.here_in) (or_right (K w) (w == w) (eq-eqb w w refl)) i.1

-- one more node counts at most one more
pub plus-count : (k : ℕ) (K : ℕ → Bool) (w : ℕ) → count k (with_one K w) ≤ count k K + 1
plus-count k K w = omega (
  arith,
  count-without k (with_one K w) w,
  count-within k (without (with_one K w) w) K (λ v m. let p = without-parts (with_one K w) w v m in
      elim (or_cases (K v) (v == w) p.0) [ inl i ↦ i | inr e ↦ absurd (p.1 (eqb-true v w e)) ]),
)

-- both sides of a cut together count one node twice
pub cut-count : (N : Network) (S : ℕ → Bool) (w : ℕ) (K : ℕ → Bool) (n : ℕ) → ((v : ℕ) → IsTrue (S v) → v < n) → Cut N S w K
    → count n (with_one K w) + count n (with_one (rest S w K) w) ≤ count n S + 1
cut-count N S w K n bound cut = omega (
  arith,
  plus-count n K w,
  plus-count n (rest S w K) w,
  count-split n (without S w) K,
  count-within n K (meet (without S w) K) (λ v m. and_from (without S w v) (K v) (cut.inner v m) m),
  count-removed n S w (bound w cut.at) cut.at,
)

-- a nonseparable set lies on one side
pub like-in-part : (N : Network) (S : ℕ → Bool) (w : ℕ) (K : ℕ → Bool) (n : ℕ) → Cut N S w K → (T : ℕ → Bool) → BlockLike N n T → Within T S
    → ((v : ℕ) → IsTrue (T v) → v < n) → Within T (with_one K w) ⊎ Within T (with_one (rest S w K) w)
like-in-part N S w K n cut T like ts bound = elim (find n (meet T K)) [
  | inl r ↦ inl (λ q m. elim (cases_eq q w) [
    | inl e ↦ or_right (K q) (q == w) (eq-eqb q w e)
    | inr ne ↦
        let k = and_parts (T r.0) (K r.0) r.2 in
        or_left (K q) (q == w) (one-side N S T K w (like.firm w) ts cut.shut r.0 q k.0 k.1 (without-parts S w r.0 (cut.inner r.0 k.1)).1 m ne)
  ])
  | inr none ↦ inr (λ q m. elim (cases_eq q w) [
    | inl e ↦ or_right (rest S w K q) (q == w) (eq-eqb q w e)
    | inr ne ↦ or_left (rest S w K q) (q == w) (minus-in (without S w) K q (without-from S w q (ts q m) ne) (elim (cases_Bool (K q)) [
      | inl k ↦ absurd (both_ways (meet T K q) (none q (bound q m)) (and_from (T q) (K q) m k))
      | inr n ↦ n
    ]))
  ])
]

-- the two sides share the cut vertex alone
pub sides-meet : (S : ℕ → Bool) (w : ℕ) (K : ℕ → Bool) → MeetOne (with_one K w) (with_one (rest S w K) w)
sides-meet S w K u v au bu av bv =
    let only : (x : ℕ) → IsTrue (with_one K w x) → IsTrue (with_one (rest S w K) w x) → x ≡ w = λ x p q. elim (or_cases (rest S w K x) (x == w) q) [
      | inr e ↦ eqb-true x w e
      | inl r ↦ elim (or_cases (K x) (x == w) p) [
        | inr e ↦ eqb-true x w e
        | inl k ↦ absurd (both_ways (K x) (minus-out (without S w) K x r).1 k)
      ]
    ] in
    only u au bu ∙ sym (only v av bv)

-- owners of the nodes outside a set give owners of the nodes outside a side
pub owner-part : (N : Network) (V S : ℕ → Bool) (w : ℕ) (K : ℕ → Bool) → OneOwner N V S → Cut N S w K → OneOwner N V (with_one K w)
owner-part N V S w K o cut =
    let P : ℕ → Bool = with_one K w in
    let t : ℕ → Bool = λ d. not (S d) && P (o.own d) in
    let n : ℕ → ℕ = λ d. cond (t d) (o.own d) w in
    let atw : IsTrue (P w) = or_right (K w) (w == w) (eq-eqb w w refl) in
    let inS : (d : ℕ) → IsTrue (S d) → n d ≡ w = λ d m. cond-off (o.own d) w (and_left (not (S d)) (P (o.own d)) (ap not m)) in
    let outS : (d : ℕ) → P (o.own d) ≡ false → n d ≡ w = λ d m. cond-off (o.own d) w (and_right (not (S d)) (P (o.own d)) m) in
    let keep : (d : ℕ) → S d ≡ false → IsTrue (P (o.own d)) → n d ≡ o.own d = λ d m i. cond-on (o.own d) w (and_from (not (S d)) (P (o.own d)) (ap not m) i) in
    record {
      own = n;
      lands = λ d vd nd. elim (cases_Bool (t d)) [
        | inl y ↦ subst (λ z. IsTrue (P z)) (sym (cond-on (o.own d) w y)) (and_parts (not (S d)) (P (o.own d)) y).1
        | inr y ↦ subst (λ z. IsTrue (P z)) (sym (cond-off (o.own d) w y)) atw
      ];
      same = λ d e vd nd ve ne l. elim (cases_Bool (S d)) [
        | inl sd ↦ elim (cases_Bool (S e)) [
          | inl se ↦ inS d sd ∙ sym (inS e se)
          | inr se ↦ inS d sd ∙ sym (outS e (subst (λ z. P z ≡ false) (sym (o.touch e d ve se sd (linked_comm N d e l))) nd))
        ]
        | inr sd ↦ elim (cases_Bool (S e)) [
          | inl se ↦ outS d (subst (λ z. P z ≡ false) (sym (o.touch d e vd sd se l)) ne) ∙ sym (inS e se)
          | inr se ↦
              let k = o.same d e vd sd ve se l in
              elim (cases_Bool (P (o.own d))) [
                | inl y ↦ keep d sd y ∙ (k ∙ sym (keep e se (subst (λ z. IsTrue (P z)) k y)))
                | inr y ↦ outS d y ∙ sym (outS e (subst (λ z. P z ≡ false) k y))
              ]
        ]
      ];
      touch = λ d x vd nd px l. elim (cases_Bool (S d)) [
        | inr sd ↦
            let k = o.touch d x vd sd (side-in N S w K cut x px) l in
            keep d sd (subst (λ z. IsTrue (P z)) (sym k) px) ∙ k
        | inl sd ↦ inS d sd ∙ sym (elim (or_cases (K x) (x == w) px) [
          | inr e ↦ eqb-true x w e
          | inl kx ↦ absurd (both_ways (P d) nd (or_left (K d) (d == w) (cut.shut x d kx (linked_comm N d x l)
              (without-from S w d sd (λ q. both_ways (P d) nd (or_right (K d) (d == w) (eq-eqb d w q)))))))
        ])
      ];
    }

-- owners for a set are owners for a set with the same nodes
pub owner-ext : (N : Network) (V A B : ℕ → Bool) → Within A B → Within B A → OneOwner N V A → OneOwner N V B
owner-ext N V A B ab ba o =
    let off : (d : ℕ) → B d ≡ false → A d ≡ false = λ d n. elim (cases_Bool (A d)) [ inl m ↦ absurd (both_ways (B d) n (ab d m)) | inr k ↦ k ] in
    record {
      own = o.own;
      lands = λ d vd nd. ab (o.own d) (o.lands d vd (off d nd));
      same = λ d e vd nd ve ne l. o.same d e vd (off d nd) ve (off e ne) l;
      touch = λ d x vd nd bx l. o.touch d x vd (off d nd) (ba x bx) l;
    }
