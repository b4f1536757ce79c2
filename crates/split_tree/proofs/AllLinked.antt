-- A piece with as many links as its nodes have pairs is three-connected: each two of its nodes are linked.
use Rattle.std.proofs.Common.{◌≡◌, ◌≢◌, ℕ, zero, suc, ◌+◌, ◌*◌, ◌<◌, ◌≤◌, Bool, true, false, ◌&&◌, ◌||◌, ◌==◌, nat_lt, List, [], ◌∷◌, length, IsTrue, refl, subst, ap, ◌∙◌, inl, inr, arith}
use Rattle.std.proofs.lemmas.Bool.{cases_Bool, cases_eq, cases_lt, both_ways, and_parts, and_from, or_cases, or_left, or_right, eq-eqb, ne_eqb, false_from_ne_true}
use Rattle.std.proofs.lemmas.Bool.Decides.{nat_tests}
use Rattle.tomo_base.specs.declared.graph.Link.{Link}
use Rattle.tomo_base.specs.Network.{joins, any_joins, AreLinks}
use Rattle.tomo_base.specs.Sets.{has, count, one_if}
use Rattle.tomo_base.specs.Parting.{IsThreeConnectedIn}
use Rattle.tomo_base.proofs.Parting.{minus-out}
use Rattle.tomo_base.proofs.Counts.{count-mono, count-none, count-less}
use Rattle.tomo_base.proofs.Entering.{joins_its_ends}
use Rattle.tomo_base.proofs.Links.{joins_gives, any_joins_comm}
use Rattle.split_tree.specs.declared.piece.Piece.{Piece}
use Rattle.split_tree.specs.Pieces.{net, IsPiece}
use Rattle.split_tree.proofs.Halving.{size_of}
use Rattle.split_tree.proofs.Sounding.{piece_below}

-- how many pairs so many nodes have
unfoldable pairs_of : ℕ → ℕ
pairs_of zero = 0
pairs_of (suc k) = k + pairs_of k

-- how many links have both ends below m
unfoldable links_below : ℕ → List Link → ℕ
links_below m [] = 0
links_below m (l ∷ ls) = one_if (nat_lt l.b m) + links_below m ls

-- how many links have the upper end m
unfoldable links_under : ℕ → List Link → ℕ
links_under m [] = 0
links_under m (l ∷ ls) = one_if (l.b == m) + links_under m ls

-- one node more makes a pair with each of the others
pairs_more : (c d : ℕ) → d ≡ c + 1 → pairs_of d ≡ c + pairs_of c
unfolding pairs_of
pairs_more c zero e = absurd (omega arith)
pairs_more c (suc k) e = let same : k ≡ c = omega arith in rw same refl

-- twice the pairs
twice_pairs : (k : ℕ) → 2 * pairs_of k + k ≡ k * k
unfolding pairs_of
twice_pairs zero = refl
twice_pairs (suc k) = omega (arith, twice_pairs k)

-- the upper end is below m + 1 where it is below m, or m
below_more : (b m : ℕ) → one_if (nat_lt b (suc m)) ≡ one_if (nat_lt b m) + one_if (b == m)
below_more b m = grind (arith, nat_tests)

-- the links below m + 1
links_more : (m : ℕ) (ls : List Link) → links_below (suc m) ls ≡ links_below m ls + links_under m ls
unfolding links_below links_under
links_more m [] = refl
links_more m (l ∷ ls) = omega (arith, below_more l.b m, links_more m ls)

-- all links are below n
links_all : (n : ℕ) (ls : List Link) → AreLinks n ls → links_below n ls ≡ length ls
unfolding links_below
links_all n [] are = refl
links_all n (l ∷ ls) are = omega (arith, here l.b are.1, links_all n ls are.3)
  where
    here : (b : ℕ) → b < n → one_if (nat_lt b n) ≡ 1
    here b lt = grind (arith, nat_tests)

-- no link is below 0
none_below : (ls : List Link) → links_below 0 ls ≡ 0
unfolding links_below
none_below [] = refl
none_below (l ∷ ls) = omega (arith, here l.b, none_below ls)
  where
    here : (b : ℕ) → one_if (nat_lt b 0) ≡ 0
    here b = grind (arith, nat_tests)

-- different links have different lower ends where the upper end is the same
under_le : (n m : ℕ) (ls : List Link) → AreLinks n ls → links_under m ls ≤ count m (λ v. any_joins ls v m)
unfolding links_under any_joins
under_le n m [] are = omega arith
under_le n m (l ∷ ls) are =
    let rest = under_le n m ls are.3 in
    let more : count m (λ v. any_joins ls v m) ≤ count m (λ v. joins l v m || any_joins ls v m) =
    count-mono m (λ v. any_joins ls v m) (λ v. joins l v m || any_joins ls v m) (λ v lt h. or_right (joins l v m) (any_joins ls v m) h) in
    elim (cases_eq l.b m) [
      | inl e ↦ (
          let new : any_joins ls l.a m ≡ false = subst (λ z. any_joins ls l.a z ≡ false) e are.2 in
          let met : joins l l.a m ≡ true = subst (λ z. joins l l.a z ≡ true) e (joins_its_ends l) in
          let less = count-less m (λ v. any_joins ls v m) (λ v. joins l v m || any_joins ls v m) l.a (omega (arith, are.0, e)) new (or_left (joins l l.a m) (any_joins ls l.a m) met)
          (λ v lt h. or_right (joins l v m) (any_joins ls v m) h) in
          rw (eq-eqb l.b m e) (omega (arith, less, rest)))
      | inr ne ↦ rw (ne_eqb l.b m ne) (omega (arith, more, rest))
    ]

-- one number more
counted : (m : ℕ) (q : ℕ → Bool) (b : Bool) → q m ≡ b → count (suc m) q ≡ one_if b + count m q
unfolding count
counted m q b e = ap (λ x. one_if x + count m q) e

-- no more links than pairs of nodes
links_few : (n : ℕ) (ls : List Link) (q : ℕ → Bool) → AreLinks n ls → ((u v : ℕ) → IsTrue (any_joins ls u v) → IsTrue (q u && q v)) → (m : ℕ) → links_below m ls ≤ pairs_of (count m q)
links_few n ls q are ends zero = omega (arith, none_below ls)
links_few n ls q are ends (suc m) =
    let before = links_few n ls q are ends m in
    let under = under_le n m ls are in
    elim (cases_Bool (q m)) [
      | inl e ↦ (
          let some : count m (λ v. any_joins ls v m) ≤ count m q = count-mono m (λ v. any_joins ls v m) q (λ v lt h. (and_parts (q v) (q m) (ends v m h)).0) in
          omega (arith, links_more m ls, before, under, some, pairs_more (count m q) (count (suc m) q) (omega (arith, counted m q true e))))
      | inr off ↦ (
          let none : count m (λ v. any_joins ls v m) ≡ 0 = count-none m (λ v. any_joins ls v m) (λ v lt. false_from_ne_true (any_joins ls v m) (λ h. both_ways (q m) off (and_parts (q v) (q m) (ends v m h)).1)) in
          let same : count (suc m) q ≡ count m q = omega (arith, counted m q false off) in
          rw same (omega (arith, links_more m ls, before, under, none)))
    ]

module _ (n : ℕ) (p : Piece) (is : IsPiece n p) (many : 2 * length p.links + length p.nodes ≡ length p.nodes * length p.nodes) where
  -- no link is missing between two nodes, the lower first
  none_missing : (a b : ℕ) → a < b → IsTrue (has p.nodes a) → IsTrue (has p.nodes b) → any_joins p.links a b ≡ false → ⊥
  unfolding any_joins
  none_missing a b lt pa pb off =
      let pair : Link = record { a = a; b = b } in
      let are : AreLinks n (pair ∷ p.links) = (lt, piece_below n p is b pb, off, is.links) in
      let few = links_few n (pair ∷ p.links) (has p.nodes) are (λ u v h. elim (or_cases (joins pair u v) (any_joins p.links u v) h) [
        | inl j ↦ elim (joins_gives pair u v j) [
          | inl e ↦ and_from (has p.nodes u) (has p.nodes v) (subst (λ z. IsTrue (has p.nodes z)) e.0 pa) (subst (λ z. IsTrue (has p.nodes z)) e.1 pb)
          | inr e ↦ and_from (has p.nodes u) (has p.nodes v) (subst (λ z. IsTrue (has p.nodes z)) e.1 pb) (subst (λ z. IsTrue (has p.nodes z)) e.0 pa)
        ]
        | inr r ↦ is.ends u v r
      ]) n in
      let all : length p.links + 1 ≤ pairs_of (count n (has p.nodes)) = omega (arith, few, links_all n (pair ∷ p.links) are) in
      let pairs : length p.links + 1 ≤ pairs_of (length p.nodes) = rw (size_of n p.nodes is.set) at all in
      omega (arith, pairs, twice_pairs (length p.nodes), many)

  -- each two nodes are linked
  each_linked : (a b : ℕ) → a ≢ b → IsTrue (has p.nodes a) → IsTrue (has p.nodes b) → any_joins p.links a b ≡ true
  each_linked a b ne pa pb = elim (cases_Bool (any_joins p.links a b)) [
    | inl e ↦ e
    | inr off ↦ elim (cases_lt a b) [
      | inl lt ↦ absurd (none_missing a b lt pa pb off)
      | inr ge ↦ absurd (none_missing b a (omega (arith, ge, ne)) pb pa (any_joins_comm p.links b a ∙ off))
    ]
  ]

  -- so it is three-connected
  pub complete_is_rigid : 4 ≤ length p.nodes → IsThreeConnectedIn (net n p) (has p.nodes)
  complete_is_rigid four = record {
    four = omega (arith, four, size_of n p.nodes is.set);
    whole = λ c few a b la lb ia ib. elim (cases_eq a b) [
      | inl e ↦ ([], tt, tt, e)
      | inr ne ↦ (b ∷ [], (each_linked a b ne (minus-out (has p.nodes) c a ia).0 (minus-out (has p.nodes) c b ib).0, tt), (ib, tt), refl)
    ];
  }
