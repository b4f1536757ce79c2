-- The monitor paths that the three kinds of links have, as recipes.
use Rattle.std.proofs.Common.{ℕ, ◌+◌, ◌*◌, ◌≡◌, ◌≢◌, Bool, true, false, ◌==◌, List, [], ◌∷◌, ℤ, pos, negsuc, All, AllPairs, slice_get, Some, IsTrue, refl, sym, ap, ◌∙◌, arith, inl, inr, if◌then◌else◌}
use Rattle.std.proofs.lemmas.Bool.{both_ways, false_from_ne_true}
use Rattle.std.proofs.lemmas.List.Elements.{All-nil, All-cons}
use Rattle.std.proofs.lemmas.List.Kept.{AllPairs-cons}
use Rattle.tomo_base.specs.declared.graph.Link.{Link}
use Rattle.tomo_base.specs.Network.{Network, joins, linked}
use Rattle.tomo_base.specs.Sets.{one_if, has, Apart}
use Rattle.tomo_base.specs.Walks.{end_of}
use Rattle.tomo_base.specs.Identify.{sum_from, IsMonitorPath}
use Rattle.tomo_base.specs.Recipes.{weighted, gains, losses, uses_of}
use Rattle.tomo_base.proofs.Links.{joins_comm, linked_comm}
use Rattle.cross_links.specs.CrossRecipe.{IsCrossCoefficient, Differ, IsCrossRecipe}
use Rattle.cross_links.specs.Joining.{turned_onto, one_term, three_terms, four_terms}
use Rattle.cross_links.proofs.Arms.{TwoArms, FourArms}
use Rattle.tomo_base.proofs.Members.{off_rest, has_none, has_first, has_later, has_cases, has_not}
use Rattle.tomo_base.proofs.Paths.{has_end, not_first}
use Rattle.cross_links.proofs.Turned.{sum_across, sum_through, turned_left, turned_right, turned_neither, across, through, IsArm}

-- the ones of a link, as a weight
abbrev ones : Link → ℕ → ℕ → ℕ
ones l x y = one_if (joins l x y)

-- the weight does not mind the direction
ones_comm : (l : Link) (x y : ℕ) → ones l x y ≡ ones l y x
ones_comm l x y = ap one_if (joins_comm l x y)

-- twice a one, by the test
twice_if : (c : Bool) → 2 * one_if c ≡ (if c then 2 else 0)
twice_if true = refl
twice_if false = refl

-- each of one, three or four terms has what each of them has
all_one : (P : ℤ × List ℕ → Type 0) (a : ℤ × List ℕ) → P a → All P (a ∷ [])
all_one P a pa = All-cons P a [] pa (All-nil P)

-- two terms
all_two : (P : ℤ × List ℕ → Type 0) (a b : ℤ × List ℕ) → P a → P b → All P (a ∷ b ∷ [])
all_two P a b pa pb = All-cons P a (b ∷ []) pa (all_one P b pb)

-- three terms
all_three : (P : ℤ × List ℕ → Type 0) (a b c : ℤ × List ℕ) → P a → P b → P c → All P (a ∷ b ∷ c ∷ [])
all_three P a b c pa pb pc = All-cons P a (b ∷ c ∷ []) pa (all_two P b c pb pc)

-- four terms
all_four : (P : ℤ × List ℕ → Type 0) (a b c d : ℤ × List ℕ) → P a → P b → P c → P d → All P (a ∷ b ∷ c ∷ d ∷ [])
all_four P a b c d pa pb pc pd = All-cons P a (b ∷ c ∷ d ∷ []) pa (all_three P b c d pb pc pd)

-- no pairs in one term
pairs_one : (a : ℤ × List ℕ) → AllPairs Differ (a ∷ [])
pairs_one a = AllPairs-cons Differ a [] (All-nil (Differ a)) (λ i j d h k. absurd (omega arith))

-- the three pairs of three terms
pairs_three : (a b c : ℤ × List ℕ) → Differ a b → Differ a c → Differ b c → AllPairs Differ (a ∷ b ∷ c ∷ [])
pairs_three a b c ab ac bc = AllPairs-cons Differ a (b ∷ c ∷ []) (all_two (Differ a) b c ab ac) (AllPairs-cons Differ b (c ∷ []) (all_one (Differ b) c bc) (pairs_one c))

-- the six pairs of four terms
pairs_four : (a b c d : ℤ × List ℕ) → Differ a b → Differ a c → Differ a d → Differ b c → Differ b d → Differ c d → AllPairs Differ (a ∷ b ∷ c ∷ d ∷ [])
pairs_four a b c d ab ac ad bc bd cd = AllPairs-cons Differ a (b ∷ c ∷ d ∷ []) (all_three (Differ a) b c d ab ac ad) (pairs_three b c d bc bd cd)

-- a node that the one path has and the other has not tells two terms apart
tells : (x y : ℤ) (p q : List ℕ) (v : ℕ) → has p v ≡ true → has q v ≡ false → Differ (x, p) (y, q)
tells x y p q v h k = (v, λ e. both_ways (has p v) (e ∙ k) h)

-- what is in one list is off a list that shares no node with it
off : (a b : List ℕ) (v : ℕ) → Apart (has a) (has b) → has a v ≡ true → has b v ≡ false
off a b v apart h = false_from_ne_true (has b v) (λ k. apart v h k)

-- the end of an arm whose node is no monitor is a later node
end_later : (g : Network) (m : ℕ → Bool) (x : ℕ) (a : List ℕ) → IsArm g m x a → m x ≡ false → has a (end_of x a) ≡ true
end_later g m x [] arm plain = absurd (both_ways (m x) plain arm.ends)
end_later g m x (y ∷ a) arm plain = has_end y a

-- the node w alone shares none with the paths of two arms that avoid it
alone : (d : List ℕ) (w : ℕ) → has d w ≡ false → Apart (has (w ∷ [])) (has d)
alone d w out z h k = elim (has_cases w [] z h) [ inl e ↦ both_ways (has d w) out (ap (has d) e ∙ k) | inr e ↦ both_ways (has [] z) (has_none z) e ]

module _ (g : Network) (m : ℕ → Bool) (v w : ℕ) (l : IsTrue (linked g v w)) (v_w : v ≢ w) where
  -- a monitor is an arm of its own
  own : (x : ℕ) → m x ≡ true → IsArm g m x []
  own x is = record { steps = tt; once = (has_none x, tt); ends = is }

  -- the path over a link between monitors
  paths_one : m v ≡ true → m w ≡ true → All (λ t. IsMonitorPath g m t.1) (one_term v w)
  paths_one tv tw = all_one (λ t. IsMonitorPath g m t.1) (pos 2, turned_onto (v ∷ []) (w ∷ [])) (across g m v [] w [] (own v tv) (own w tw) l (alone (w ∷ []) v (has_not w [] v (λ e. v_w (sym e)) (has_none v))))

  -- the three paths of a link to a monitor
  pub paths_three : (a b : List ℕ) → m v ≡ false → m w ≡ true → TwoArms g m v w a b → All (λ t. IsMonitorPath g m t.1) (three_terms w (v ∷ a) (v ∷ b))
  paths_three a b plain tw k =
      all_three (λ t. IsMonitorPath g m t.1) (pos 1, turned_onto (w ∷ []) (v ∷ a)) (pos 1, turned_onto (w ∷ []) (v ∷ b)) (negsuc 0, turned_onto a (v ∷ b))
      (across g m w [] v a (own w tw) k.arm_a (linked_comm g v w l) (alone (v ∷ a) w k.off_a))
      (across g m w [] v b (own w tw) k.arm_b (linked_comm g v w l) (alone (v ∷ b) w k.off_b))
      (through g m v a b k.arm_a k.arm_b plain k.a_b)

  -- the four paths of a link between two other nodes
  pub paths_four : (a b c d : List ℕ) → m v ≡ false → m w ≡ false → FourArms g m v w a b c d → All (λ t. IsMonitorPath g m t.1) (four_terms (v ∷ a) (v ∷ b) (w ∷ c) (w ∷ d))
  paths_four a b c d plain_v plain_w k =
      all_four (λ t. IsMonitorPath g m t.1) (pos 1, turned_onto (w ∷ c) (v ∷ a)) (pos 1, turned_onto (v ∷ b) (w ∷ d)) (negsuc 0, turned_onto a (v ∷ b)) (negsuc 0, turned_onto c (w ∷ d))
      (across g m w c v a k.arm_c k.arm_a (linked_comm g v w l) k.c_a)
      (across g m v b w d k.arm_b k.arm_d l (λ z h j. k.d_b z j h))
      (through g m v a b k.arm_a k.arm_b plain_v k.a_b)
      (through g m w c d k.arm_c k.arm_d plain_w k.c_d)

  module _ (i : ℕ) (only : (k : ℕ) (x : Link) → slice_get g.links k ≡ Some x → joins x v w ≡ (k == i)) where
    -- the link between v and w, counted twice
    counted : (k : ℕ) (x : Link) → slice_get g.links k ≡ Some x → 2 * ones x v w ≡ (if k == i then 2 else 0)
    counted k x e = ap (λ c. 2 * one_if c) (only k x e) ∙ twice_if (k == i)

    -- counted with the coefficients, one term gives twice the link
    sums_one : (x : Link) (n : ℕ) → 2 * ones x v w ≡ n → gains x (one_term v w) ≡ losses x (one_term v w) + n
    unfolding weighted uses_of sum_from
    sums_one x n h = omega (arith, h)

    -- so do three
    sums_three : (a b : List ℕ) (x : Link) (n : ℕ) → 2 * ones x v w ≡ n → gains x (three_terms w (v ∷ a) (v ∷ b)) ≡ losses x (three_terms w (v ∷ a) (v ∷ b)) + n
    unfolding weighted uses_of sum_from
    sums_three a b x n h = omega (arith, h, ones_comm x v w, sum_through (ones x) (ones_comm x) v a b)

    -- and four
    sums_four : (a b c d : List ℕ) (x : Link) (n : ℕ) → 2 * ones x v w ≡ n → gains x (four_terms (v ∷ a) (v ∷ b) (w ∷ c) (w ∷ d)) ≡ losses x (four_terms (v ∷ a) (v ∷ b) (w ∷ c) (w ∷ d)) + n
    unfolding weighted uses_of
    sums_four a b c d x n h = omega (
      arith,
      h,
      ones_comm x v w,
      sum_across (ones x) (ones_comm x) w c v a,
      sum_across (ones x) (ones_comm x) v b w d,
      sum_through (ones x) (ones_comm x) v a b,
      sum_through (ones x) (ones_comm x) w c d,
    )

    -- a link between two monitors
    pub by_one : m v ≡ true → m w ≡ true → IsCrossRecipe g m i (one_term v w)
    by_one tv tw =
        let p = turned_onto (v ∷ []) (w ∷ []) in record {
          some = omega arith;
          few = omega arith;
          paths = paths_one tv tw;
          coefficients = all_one (λ t. IsCrossCoefficient t.0) (pos 2, p) (inl refl);
          different = pairs_one (pos 2, p);
          recipe = λ k x e. sums_one x (if k == i then 2 else 0) (counted k x e);
        }

    -- a link to a monitor w, from two arms of v that avoid w
    pub by_three : (a b : List ℕ) → m v ≡ false → m w ≡ true → TwoArms g m v w a b → IsCrossRecipe g m i (three_terms w (v ∷ a) (v ∷ b))
    by_three a b plain tw k =
        let p = turned_onto (w ∷ []) (v ∷ a) in
        let q = turned_onto (w ∷ []) (v ∷ b) in
        let r = turned_onto a (v ∷ b) in
        let e = end_of v a in
        let e_a : has a e ≡ true = end_later g m v a k.arm_a plain in
        let w_not_e : has (w ∷ []) e ≡ false = off (v ∷ a) (w ∷ []) e (λ z h j. alone (v ∷ a) w k.off_a z j h) (has_later v a e e_a) in
        let r_w : has r w ≡ false = turned_neither a (v ∷ b) w (off_rest v a w k.off_a) k.off_b in
        let q_e : has q e ≡ false = turned_neither (w ∷ []) (v ∷ b) e w_not_e (has_not v b e (not_first v a e k.arm_a.once e_a) (off a b e k.a_b e_a)) in record {
          some = omega arith;
          few = omega arith;
          paths = paths_three a b plain tw k;
          coefficients = all_three (λ t. IsCrossCoefficient t.0) (pos 1, p) (pos 1, q) (negsuc 0, r) (inr (inl refl)) (inr (inl refl)) (inr (inr refl));
          different = pairs_three (pos 1, p) (pos 1, q) (negsuc 0, r)
              (tells (pos 1) (pos 1) p q e (turned_right (w ∷ []) (v ∷ a) e (has_end v a)) q_e)
              (tells (pos 1) (negsuc 0) p r w (turned_left (w ∷ []) (v ∷ a) w (has_first w [])) r_w)
              (tells (pos 1) (negsuc 0) q r w (turned_left (w ∷ []) (v ∷ b) w (has_first w [])) r_w);
          recipe = λ z x h. sums_three a b x (if z == i then 2 else 0) (counted z x h);
        }

    -- a link between two nodes that are no monitors, from two arms of each
    pub by_four : (a b c d : List ℕ) → m v ≡ false → m w ≡ false → FourArms g m v w a b c d → IsCrossRecipe g m i (four_terms (v ∷ a) (v ∷ b) (w ∷ c) (w ∷ d))
    by_four a b c d plain_v plain_w k =
        let p = turned_onto (w ∷ c) (v ∷ a) in
        let q = turned_onto (v ∷ b) (w ∷ d) in
        let r = turned_onto a (v ∷ b) in
        let s = turned_onto c (w ∷ d) in
        let e = end_of w c in
        let e_c : has c e ≡ true = end_later g m w c k.arm_c plain_w in
        let w_a : has (v ∷ a) w ≡ false = off (w ∷ c) (v ∷ a) w k.c_a (has_first w c) in
        let w_b : has (v ∷ b) w ≡ false = off (w ∷ c) (v ∷ b) w k.c_b (has_first w c) in
        let v_c : has (w ∷ c) v ≡ false = off (v ∷ b) (w ∷ c) v (λ z h j. k.c_b z j h) (has_first v b) in
        let v_d : has (w ∷ d) v ≡ false = off (v ∷ b) (w ∷ d) v (λ z h j. k.d_b z j h) (has_first v b) in
        let q_e : has q e ≡ false = turned_neither (v ∷ b) (w ∷ d) e (off (w ∷ c) (v ∷ b) e k.c_b (has_end w c)) (has_not w d e (not_first w c e k.arm_c.once e_c) (off c d e k.c_d e_c)) in
        let r_w : has r w ≡ false = turned_neither a (v ∷ b) w (off_rest v a w w_a) w_b in
        let s_v : has s v ≡ false = turned_neither c (w ∷ d) v (off_rest w c v v_c) v_d in record {
          some = omega arith;
          few = omega arith;
          paths = paths_four a b c d plain_v plain_w k;
          coefficients = all_four (λ t. IsCrossCoefficient t.0) (pos 1, p) (pos 1, q) (negsuc 0, r) (negsuc 0, s) (inr (inl refl)) (inr (inl refl)) (inr (inr refl)) (inr (inr refl));
          different = pairs_four (pos 1, p) (pos 1, q) (negsuc 0, r) (negsuc 0, s)
              (tells (pos 1) (pos 1) p q e (turned_left (w ∷ c) (v ∷ a) e (has_end w c)) q_e)
              (tells (pos 1) (negsuc 0) p r w (turned_left (w ∷ c) (v ∷ a) w (has_first w c)) r_w)
              (tells (pos 1) (negsuc 0) p s v (turned_right (w ∷ c) (v ∷ a) v (has_first v a)) s_v)
              (tells (pos 1) (negsuc 0) q r w (turned_right (v ∷ b) (w ∷ d) w (has_first w d)) r_w)
              (tells (pos 1) (negsuc 0) q s v (turned_left (v ∷ b) (w ∷ d) v (has_first v b)) s_v)
              (tells (negsuc 0) (negsuc 0) r s v (turned_right a (v ∷ b) v (has_first v b)) s_v);
          recipe = λ z x h. sums_four a b c d x (if z == i then 2 else 0) (counted z x h);
        }
