-- the rigid pieces of a split tree are exactly the three-blocks: kept from the parts to the piece, and read off at the n
use Rattle.std.proofs.Common.{◌≡◌, ◌≢◌, ℕ, ◌≤◌, Bool, true, false, ◌⊎◌, List, [], ◌∷◌, ◌++◌, IsTrue, sym, subst, inl, inr, arith}
use Rattle.std.proofs.lemmas.Bool.{cases_Bool, both_ways, cases_eq}
use Rattle.tomo_base.specs.Network.{Network, linked}
use Rattle.tomo_base.specs.Sets.{count, Within}
use Rattle.tomo_base.specs.Parting.{without_two, IsClosedIn, IsJoinedWithoutOne, IsJoinedWithoutTwo}
use Rattle.tomo_base.proofs.Parting.{flip}
use Rattle.tomo_base.proofs.Picks.{count-within, pick2, pick3, two-at-most}
use Rattle.blocks.specs.Cutting.{Each, Some, Pairs}
use Rattle.blocks.proofs.SetLists.{each-map, each-both, each-every, each-join, some-left, some-right, some-with, pairs-each, pairs-join, at-home}
use Rattle.blocks.proofs.Unparted.{Pairwise}
use Rattle.split_tree.proofs.Part.{Part}
use Rattle.split_tree.proofs.Rigid.{Ends, Owned, rigid-unparted}
use Rattle.split_tree.proofs.Owner.{owned-part}
use Rattle.split_tree.proofs.PartsParted.{parts-parted}
use Rattle.split_tree.proofs.Pass.{part-like}

-- two sets that share at most two nodes
abbrev pub SharesPair : (ℕ → Bool) → (ℕ → Bool) → Type 0
SharesPair A B = (c d : ℕ) × ((v : ℕ) → IsTrue (A v) → IsTrue (B v) → (v ≡ c) ⊎ (v ≡ d))

-- the rigid pieces below a piece: for any owners of the nodes outside it they are pairwise unparted, and hold each such set
pub record Sound (n : ℕ) (N : Network) (P : ℕ → Bool) (rigids : List (ℕ → Bool)) : Type 0 where
  pub apart : Pairs SharesPair rigids
  pub inside : Each (λ L. Within L P) rigids
  pub four : Each (λ L. 4 ≤ count n L) rigids
  pub joined : (G : Network) (B : ℕ → Bool) (o1 o2 : ℕ → ℕ) → Owned G N B P o1 o2 → IsJoinedWithoutOne N P → Each (Pairwise G B) rigids
  pub covers : (G : Network) (B : ℕ → Bool) (o1 o2 : ℕ → ℕ) → Owned G N B P o1 o2 → IsJoinedWithoutOne N P
      → (T : ℕ → Bool) → Within T P → 4 ≤ count n T → Pairwise G B T → Some (Within T) rigids

-- a piece of at most three nodes has no rigid piece
pub small-sound : (n : ℕ) (N : Network) (P : ℕ → Bool) → count n P ≤ 3 → Sound n N P []
small-sound n N P few = record {
  apart = tt;
  inside = tt;
  four = tt;
  joined = λ G B o1 o2 own firm. tt;
  covers = λ G B o1 o2 own firm T tp four pairwise. absurd (omega (arith, few, four, count-within n T P tp));
}

-- a rigid piece is the one rigid piece
pub rigid-sound : (n : ℕ) (N : Network) (P : ℕ → Bool) → 4 ≤ count n P → IsJoinedWithoutTwo N P → Sound n N P (P ∷ [])
rigid-sound n N P four rigid = record {
  apart = (tt, tt);
  inside = ((λ v m. m), tt);
  four = (four, tt);
  joined = λ G B o1 o2 own firm. ((λ x y px py xy c d cx cy dx dy. rigid-unparted G N B P o1 o2 own (pick3 n P four) rigid x y c d px py cx cy dx dy), tt);
  covers = λ G B o1 o2 own firm T tp few pairwise. inl tp;
}

-- one part of a split: the nodes K, closed without the pair a b, with the pair and its link
pub record Half (N : Network) (P K : ℕ → Bool) (a b : ℕ) (N' : Network) (P' : ℕ → Bool) : Type 0 where
  pub part : Part N N' P P' a b
  pub here : (u v : ℕ) → linked N' u v ≡ true → (IsTrue (P' u)) × (IsTrue (P' v))
  pub old : (u v : ℕ) → linked N' u v ≡ true → (linked N u v ≡ true) ⊎ Ends u v a b
  pub inner : Within K P
  pub has : Within K P'
  pub nodes : (v : ℕ) → IsTrue (P' v) → IsTrue (K v) ⊎ ((v ≡ a) ⊎ (v ≡ b))
  pub a_off : K a ≡ false
  pub b_off : K b ≡ false
  pub shut : IsClosedIn N (without_two P a b) K
  pub out : ℕ
  pub out_in : IsTrue (P out)
  pub out_off : P' out ≡ false

-- a pairwise unparted set with a node of K lies in the part of K
pub lies-in-half : (G N N' : Network) (B P P' K : ℕ → Bool) (o1 o2 : ℕ → ℕ) (a b : ℕ) → Owned G N B P o1 o2 → Half N P K a b N' P'
    → (T : ℕ → Bool) → Within T P → Pairwise G B T → (x : ℕ) → IsTrue (T x) → IsTrue (K x) → Within T P'
lies-in-half G N N' B P P' K o1 o2 a b own half T tp pairwise x tx kx y ty = elim (cases_eq y a) [
  | inl e ↦ subst (λ z. IsTrue (P' z)) (sym e) half.part.at_a
  | inr ya ↦ elim (cases_eq y b) [
    | inl e ↦ subst (λ z. IsTrue (P' z)) (sym e) half.part.at_b
    | inr yb ↦ elim (cases_Bool (K y)) [
      | inl ky ↦ half.has y ky
      | inr ny ↦
          let off : (e : ℕ) → K e ≡ false → (e ≢ x) = λ e n q. both_ways (K e) n (subst (λ z. IsTrue (K z)) (sym q) kx) in
          absurd (parts-parted G N B P o1 o2 own a b K half.inner half.shut x y kx (tp y ty) ny
          (pairwise x y tx ty (λ q. both_ways (K y) ny (subst (λ z. IsTrue (K z)) q kx)) a b (off a half.a_off) (flip ya) (off b half.b_off) (flip yb)))
    ]
  ]
]

-- a piece split into two parts has the rigid pieces of both
pub split-sound : (n : ℕ) (N N1 N2 : Network) (P P1 P2 K1 K2 : ℕ → Bool) (a b : ℕ) (xs ys : List (ℕ → Bool)) → (a ≢ b)
    → Half N P K1 a b N1 P1 → Half N P K2 a b N2 P2
    → ((v : ℕ) → IsTrue (P v) → (v ≢ a) → (v ≢ b) → IsTrue (K1 v) ⊎ IsTrue (K2 v)) → ((v : ℕ) → IsTrue (K1 v) → IsTrue (K2 v) → ⊥)
    → Sound n N1 P1 xs → Sound n N2 P2 ys → Sound n N P (xs ++ ys)
split-sound n N N1 N2 P P1 P2 K1 K2 a b xs ys ab h1 h2 cover apart s1 s2 =
    let owned = λ (G : Network) (B : ℕ → Bool) (o1 o2 : ℕ → ℕ) (own : Owned G N B P o1 o2) (firm : IsJoinedWithoutOne N P) (N' : Network) (P' K : ℕ → Bool) (h : Half N P K a b N' P').
    owned-part G N N' B P P' o1 o2 a b own h.part ab h.here h.old firm h.out h.out_in h.out_off in
    record {
      apart = pairs-join SharesPair xs ys s1.apart s2.apart
          (each-map (λ L. Within L P1) (λ L. Each (SharesPair L) ys) (λ L lp. each-map (λ M. Within M P2) (SharesPair L) (λ M mp. (
            a,
            b,
            λ v vl vm.
                elim (h1.nodes v (lp v vl)) [
                  | inr e ↦ e
                  | inl k1 ↦ elim (h2.nodes v (mp v vm)) [ inr e ↦ e | inl k2 ↦ absurd (apart v k1 k2) ]
                ],
          )) ys s2.inside) xs s1.inside);
      inside = each-join (λ L. Within L P) xs ys (each-map (λ L. Within L P1) (λ L. Within L P) (λ L i v m. h1.part.sub v (i v m)) xs s1.inside)
          (each-map (λ L. Within L P2) (λ L. Within L P) (λ L i v m. h2.part.sub v (i v m)) ys s2.inside);
      four = each-join (λ L. 4 ≤ count n L) xs ys s1.four s2.four;
      joined = λ G B o1 o2 own firm. each-join (Pairwise G B) xs ys
          (s1.joined G B _ _ (owned G B o1 o2 own firm N1 P1 K1 h1) (part-like N N1 P P1 a b h1.part firm))
          (s2.joined G B _ _ (owned G B o1 o2 own firm N2 P2 K2 h2) (part-like N N2 P P2 a b h2.part firm));
      covers = λ G B o1 o2 own firm T tp four pairwise.
          let x = pick2 n T (omega (arith, four)) a b in
          elim (cover x.0 (tp x.0 x.2) x.3 x.4) [
            | inl k ↦ some-left (Within T) xs ys (s1.covers G B _ _ (owned G B o1 o2 own firm N1 P1 K1 h1) (part-like N N1 P P1 a b h1.part firm) T
                (lies-in-half G N N1 B P P1 K1 o1 o2 a b own h1 T tp pairwise x.0 x.2 k) four pairwise)
            | inr k ↦ some-right (Within T) xs ys (s2.covers G B _ _ (owned G B o1 o2 own firm N2 P2 K2 h2) (part-like N N2 P P2 a b h2.part firm) T
                (lies-in-half G N N2 B P P2 K2 o1 o2 a b own h2 T tp pairwise x.0 x.2 k) four pairwise)
          ];
    }

-- at the topmost piece nothing is outside
pub owned-top : (G : Network) (B : ℕ → Bool) (o1 o2 : ℕ → ℕ) → ((u v : ℕ) → linked G u v ≡ true → (IsTrue (B u)) × (IsTrue (B v))) → Owned G G B B o1 o2
owned-top G B o1 o2 here = record {
  inside = λ v m. m;
  kept = λ u v mu mv l. l;
  here = here;
  owner = λ d m n. absurd (both_ways (B d) n m);
  same = λ d e md nd me ne l. absurd (both_ways (B d) nd md);
  touch = λ d x md nd mx l. absurd (both_ways (B d) nd md);
  stand = λ p q l n. absurd (both_ways (linked G p q) n l);
}

-- a largest pairwise unparted set of four nodes or more in B
pub record ThreeBlockIn (n : ℕ) (G : Network) (B T : ℕ → Bool) : Type 0 where
  pub inside : Within T B
  pub four : 4 ≤ count n T
  pub joined : Pairwise G B T
  pub largest : (S : ℕ → Bool) → Within T S → Within S B → Pairwise G B S → Within S T

-- two sets that share at most two nodes: none of four nodes lies in both
clash : (n : ℕ) (A B X : ℕ → Bool) → SharesPair A B → 4 ≤ count n X → Within X A → Within X B → ⊥
clash n A B X s four xa xb = omega (arith, four, two-at-most n X s.0 s.1 (λ v l m. s.2 v (xa v m) (xb v m)))

-- the rigid pieces are three-blocks, every three-block is one of them, and none stands twice
pub three-blocks : (n : ℕ) (G N : Network) (B : ℕ → Bool) (rigids : List (ℕ → Bool)) → Sound n N B rigids → Owned G N B B (λ d. d) (λ d. d) → IsJoinedWithoutOne N B
    → Each (ThreeBlockIn n G B) rigids
    × ((T : ℕ → Bool) → ThreeBlockIn n G B T → Some (λ L. Within T L × Within L T) rigids)
    × Pairs (λ L M. Within L M → ⊥) rigids
three-blocks n G N B rigids sound own firm =
    let joined = sound.joined G B (λ d. d) (λ d. d) own firm in
    let covers = sound.covers G B (λ d. d) (λ d. d) own firm in
    let Big : Type 0 = (S : ℕ → Bool) × Within S B × (4 ≤ count n S) × Pairwise G B S in
    let homes = each-every Big (λ s L. (4 ≤ count n L) × Within L s.0 → Within s.0 L) rigids (λ s.
    at-home SharesPair (λ L. (4 ≤ count n L) × Within L s.0) (λ L. Within s.0 L)
    (λ x y r g h. clash n x y x r g.0 (λ v m. m) (λ v m. h v (g.1 v m)))
    (λ x y r h g. clash n x y y r g.0 (λ v m. h v (g.1 v m)) (λ v m. m))
    rigids sound.apart (covers s.0 s.1 s.2 s.3)) in
    let all = each-both (λ L. Within L B) (λ L. 4 ≤ count n L) rigids sound.inside sound.four in
    let more = each-both (λ L. Within L B × (4 ≤ count n L)) (Pairwise G B) rigids all joined in
    let blocks = each-map (λ L. ((Within L B × (4 ≤ count n L)) × Pairwise G B L) × ((s : Big) → (4 ≤ count n L) × Within L s.0 → Within s.0 L)) (ThreeBlockIn n G B)
    (λ L h. record {
      inside = h.0.0.0;
      four = h.0.0.1;
      joined = h.0.1;
      largest = λ S ls sb pairwise. h.1 (S, sb, omega (arith, h.0.0.1, count-within n L S ls), pairwise) (h.0.0.1, ls);
    }) rigids
    (each-both (λ L. (Within L B × (4 ≤ count n L)) × Pairwise G B L) (λ L. (s : Big) → (4 ≤ count n L) × Within L s.0 → Within s.0 L) rigids more homes) in (
      blocks,
      (λ T t.
          some-with (Within T) (ThreeBlockIn n G B) (λ L. Within T L × Within L T) (λ L tl b. (tl, t.largest L tl b.inside b.joined)) rigids (covers T t.inside t.four t.joined) blocks),
      pairs-each SharesPair (λ L. 4 ≤ count n L) (λ L M. Within L M → ⊥) (λ L M r four lm. clash n L M L r four (λ v m. m) lm) rigids sound.apart sound.four,
    )
