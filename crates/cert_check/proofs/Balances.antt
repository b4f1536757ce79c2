-- Counts of gains and losses.
use Rattle.std.proofs.Common.{if◌then◌else◌, Result, Ok, Err, OnOk, refl, ◌≡◌, ◌≤◌, ◌<◌, ◌+◌, ◌*◌, ◌^◌, ◌⊎◌, ◌==◌, Bool, not, ◌++◌, ◌∷◌, [], ℕ, zero, suc, ℤ, pos, negsuc, true, false, List, length, take, get_or, slice_get, Some, All, Contains, sym, ap, subst, ◌∙◌, inl, inr, arith}
use Rattle.std.proofs.lemmas.Bool.{cases_eq, cases_lt, both_ways, ne_eqb, lt-ltb}
use Rattle.std.proofs.lemmas.List.{get_or_past, get_or_default, length-replicate, length-take}
use Rattle.std.proofs.Common.{replicate}
use Rattle.std.proofs.lemmas.List.Elements.{All-tail, All-cons, All-take}
use Rattle.std.proofs.Common.{le_refl, mul-le-mul, nat_abs}
use lib.Signed.{lt_z}
use mir.Syntax.{w8}
use mir.Val.{to_z, of_z}
use Rattle.std.proofs.lemmas.Int.{to_z-of_z}
use Rattle.tomo_base.specs.declared.graph.Link.{Link}
use Rattle.tomo_base.specs.Search.{entry_at}
use Rattle.tomo_base.specs.Recipes.{uses_of, gain_of, loss_of, weighted, IsRecipe}
use Rattle.std.proofs.lemmas.Option.{slice_get-get_or}
use Rattle.simple_path.specs.declared.recipe.Term.{Term}
use Rattle.simple_path.specs.Terms.{path_terms}
use Rattle.simple_path.specs.Pools.{nodes_in}
use Rattle.plan_form.specs.Parts.{IsCoefficient}
use Rattle.cert_check.specs.declared.counts.Counts.{Counts}
use Rattle.cert_check.specs.Counting.{times, AreSteps, HasCounts, IsCounted}
use Rattle.cert_check.proofs.Uses.{uses_few}
use Rattle.simple_path.proofs.Pools.{length-path_terms, path_within}

-- the weights of one term more
weighted-push : (w : ℤ → ℕ) (f : List ℕ → ℕ) (ts : List (ℤ × List ℕ)) (t : ℤ × List ℕ) → weighted w f (ts ++ t ∷ []) ≡ weighted w f ts + w t.0 * f t.1
unfolding weighted
weighted-push w f [] t = omega arith
weighted-push w f (s ∷ ts) t = omega (arith, weighted-push w f ts t)

-- a coefficient above zero gains as much as it is
pub gain_is : (z : ℤ) (n : ℕ) → lt_z (pos 0) z ≡ true → n ≡ nat_abs z → (gain_of z ≡ n) × (loss_of z ≡ 0)
gain_is (pos m) n above is = (sym is, refl)
gain_is (negsuc m) n above is = absurd (both_ways false refl above)

-- one below zero loses as much
pub loss_is : (z : ℤ) (n : ℕ) → IsCoefficient z → lt_z (pos 0) z ≡ false → n ≡ nat_abs z → (loss_of z ≡ n) × (gain_of z ≡ 0)
loss_is (pos m) n some below is = absurd (both_ways _ below (lt-ltb 0 m some.0))
loss_is (negsuc m) n some below is = (omega (arith, is), refl)

-- each count of a few terms is small
weight_few : (w : ℤ → ℕ) (f : List ℕ → ℕ) (b : ℕ) → ((z : ℤ) → IsCoefficient z → w z ≤ 4) → (ts : List (ℤ × List ℕ)) → All (λ t. IsCoefficient t.0 × (f t.1 ≤ b)) ts → weighted w f ts ≤ length ts * (4 * b)
unfolding weighted
weight_few w f b small [] each = omega arith
weight_few w f b small (t ∷ ts) each =
    let here = each 0 t (omega arith) in
    let most : w t.0 * f t.1 ≤ 4 * b = mul-le-mul (small t.0 here.0) here.1 in
    omega (arith, most, weight_few w f b small ts (All-tail (λ (t : ℤ × List ℕ). IsCoefficient t.0 × (f t.1 ≤ b)) t ts each))

-- the counts of a side: gains, or losses
abbrev pub side : Bool → Counts → List ℕ
side true c = c.gains.items
side false c = c.losses.items

-- what a coefficient adds to a side
abbrev pub added_to : Bool → ℤ → ℕ
added_to true z = gain_of z
added_to false z = loss_of z

-- what holds of a side and of the other one holds of both
of_both : (P : Bool → Type 0) (b : Bool) → P b → P (not b) → (s : Bool) → P s
of_both P true own other true = own
of_both P true own other false = other
of_both P false own other true = other
of_both P false own other false = own

-- each side has a count for each link
each_long : (links : List Link) (c : Counts) (b : Bool) → HasCounts links c → length (side b c) ≡ length links
each_long links c true held = held.gain_each
each_long links c false held = held.loss_each

-- counts after the steps of a path, where those of one side grew by the weight
module _ (c : Counts) (coef : ℤ) (steps : List ℕ) where
  -- both sides grew by what the coefficient adds to them
  both_more : (b : Bool) (c' : Counts) → ((s : Bool) → length (side s c') ≡ length (side s c)) → ((s : Bool) (k : ℕ) → entry_at (side s c') k ≡ entry_at (side s c) k + added_to s coef * times k steps)
      → (All (λ k. k < length (side b c)) c.touched.items → All (λ k. k < length (side b c)) c'.touched.items) → ((k : ℕ) → Contains c.touched.items k → Contains c'.touched.items k)
      → ((k : ℕ) → Contains c'.touched.items k ⊎ ((s : Bool) → entry_at (side s c') k ≡ entry_at (side s c) k))
      → (links : List Link) (terms : List (ℤ × List ℕ)) (path : List ℕ) → AreSteps links path steps → IsCounted links terms c → IsCounted links (terms ++ (coef, path) ∷ []) c'
  both_more b c' size counted inside kept touched links terms path are was =
      let long : length (side b c) ≡ length links = each_long links c b was.has in
      record {
        has = record {
          gain_each = size true ∙ was.has.gain_each;
          loss_each = size false ∙ was.has.loss_each;
          in_links = rw long at (inside (rw long was.has.in_links));
          untouched = λ k. elim (was.has.untouched k) [
            | inl there ↦ inl (kept k there)
            | inr bare ↦ elim (touched k) [ inl there ↦ inl there | inr still ↦ inr (still true ∙ bare.0, still false ∙ bare.1) ]
          ];
        };
        gained = λ k l at. rw weighted-push (omega (arith, counted true k, ap (λ u. gain_of coef * u) (are.often k l at), was.gained k l at));
        lost = λ k l at. rw weighted-push (omega (arith, counted false k, ap (λ u. loss_of coef * u) (are.often k l at), was.lost k l at));
      }

  -- one side grew
  pub counted_more : {U E : Type 0} (r : Result U E) (b : Bool) (weight : ℕ) (c' : Counts) → added_to b coef ≡ weight → added_to (not b) coef ≡ 0 → side (not b) c' ≡ side (not b) c →
      OnOk r (length (side b c') ≡ length (side b c)) → OnOk r ((k : ℕ) → entry_at (side b c') k ≡ entry_at (side b c) k + weight * times k steps) →
      OnOk r (All (λ k. k < length (side b c)) c.touched.items → All (λ k. k < length (side b c)) c'.touched.items) → OnOk r ((k : ℕ) → Contains c.touched.items k → Contains c'.touched.items k) →
      OnOk r ((k : ℕ) → Contains c'.touched.items k ⊎ (entry_at (side b c') k ≡ entry_at (side b c) k)) →
      OnOk r ((links : List Link) (terms : List (ℤ × List ℕ)) (path : List ℕ) → AreSteps links path steps → IsCounted links terms c → IsCounted links (terms ++ (coef, path) ∷ []) c')
  counted_more (Err e) b weight c' own other same size counted inside kept touched = tt
  counted_more (Ok u) b weight c' own other same size counted inside kept touched =
      both_more b c' (of_both (λ s. length (side s c') ≡ length (side s c)) b size (ap (λ xs. length xs) same))
      (of_both (λ s. (k : ℕ) → entry_at (side s c') k ≡ entry_at (side s c) k + added_to s coef * times k steps) b (λ k. rw own (counted k)) (λ k. rw (same, other) (omega arith)))
      inside kept (λ k. elim (touched k) [ inl there ↦ inl there | inr still ↦ inr (of_both (λ s. entry_at (side s c') k ≡ entry_at (side s c) k) b still (rw same refl)) ])

-- link k occurs twice where it is link i, and else zero times
abbrev pub IsRightAt : Counts → ℕ → ℕ → Type 0
IsRightAt c i k = entry_at c.gains.items k ≡ entry_at c.losses.items k + (if k == i then 2 else 0)

-- a recipe is right at each link
pub right_at : (links : List Link) (terms : List (ℤ × List ℕ)) (c : Counts) (i k : ℕ) → k < length links → IsCounted links terms c → IsRecipe links i terms → IsRightAt c i k
right_at links terms c i k l is recipe =
    let at : slice_get links k ≡ Some (get_or links k (record { a = 0; b = 0 })) = slice_get-get_or links k _ l in
    rw (is.gained k _ at, is.lost k _ at) (recipe k _ at)

-- what is right at link i and at the links that were touched is a recipe
pub right_from : (links : List Link) (terms : List (ℤ × List ℕ)) (c : Counts) (i : ℕ) → IsCounted links terms c → IsRightAt c i i → ((j : ℕ) → j < length c.touched.items → IsRightAt c i (entry_at c.touched.items j)) → IsRecipe links i terms
right_from links terms c i is here each k l at = rw (is.gained k l at, is.lost k l at) at (right k)
  where
    right : (k : ℕ) → IsRightAt c i k
    right k = elim (cases_eq k i) [
      | inl same ↦ rw same here
      | inr other ↦ elim (is.has.untouched k) [
        | inl there ↦ subst (IsRightAt c i) (get_or_default c.touched.items there.0 0 k there.1 ∙ there.2) (each there.0 there.1)
        | inr bare ↦ let no : (k == i) ≡ false = ne_eqb k i other in rw no (omega (arith, bare.0, bare.1))
      ]
    ]

-- the counts of the first i links that were touched are 0
pub record IsCleared (links : List Link) (touched : List ℕ) (i : ℕ) (c : Counts) : Type 0 where
  pub same : c.touched.items ≡ touched
  pub gain_each : length c.gains.items ≡ length links
  pub loss_each : length c.losses.items ≡ length links
  pub zero_or_later : (k : ℕ) → ((j : ℕ) × (i ≤ j) × (j < length touched) × (get_or touched j 0 ≡ k)) ⊎ ((entry_at c.gains.items k ≡ 0) × (entry_at c.losses.items k ≡ 0))

-- where all are 0 nothing is counted
nothing_is : (links : List Link) (c : Counts) → c.touched.items ≡ [] → length c.gains.items ≡ length links → length c.losses.items ≡ length links → ((k : ℕ) → (entry_at c.gains.items k ≡ 0) × (entry_at c.losses.items k ≡ 0)) → IsCounted links [] c
unfolding weighted
nothing_is links c bare gain_long loss_long none = record {
  has = record {
    gain_each = gain_long;
    loss_each = loss_long;
    in_links = rw bare (λ k d l. absurd (omega (arith, l)));
    untouched = λ k. inr (none k);
  };
  gained = λ k l at. (none k).0;
  lost = λ k l at. (none k).1;
}

-- so after all counts were cleared
pub all_cleared : (links : List Link) (touched : List ℕ) (i : ℕ) (c c' : Counts) → IsCleared links touched i c → length touched ≤ i → c'.gains ≡ c.gains → c'.losses ≡ c.losses → c'.touched.items ≡ [] → IsCounted links [] c'
all_cleared links touched i c c' cleared all same_gains same_losses bare = nothing_is links c' bare (rw same_gains cleared.gain_each) (rw same_losses cleared.loss_each) (λ k. elim (cleared.zero_or_later k) [
  | inl later ↦ absurd (omega (arith, later.1, later.2, all))
  | inr none ↦ rw (same_gains, same_losses) none
])

-- and so with counts that are 0 from the beginning
pub nothing_counted : (links given : List Link) (c : Counts) → c.gains.items ≡ replicate (length given) 0 → c.losses.items ≡ replicate (length given) 0 → c.touched.items ≡ [] → given ≡ links → IsCounted links [] c
nothing_counted links given c gain_is loss_is bare same =
    let long : length (replicate (length given) 0) ≡ length links = length-replicate (length given) 0 ∙ ap (λ xs. length xs) same in
    nothing_is links c bare (rw gain_is long) (rw loss_is long) (λ k. (rw gain_is (none (length given) k), rw loss_is (none (length given) k)))
  where
    none : (n k : ℕ) → entry_at (replicate n 0) k ≡ 0
    none zero k = refl
    none (suc n) zero = refl
    none (suc n) (suc k) = none n k

-- the paths of terms, with one term more
pub terms_more : (paths : List (List ℕ)) (ts : List Term) (t : Term) → path_terms paths (ts ++ t ∷ []) ≡ path_terms paths ts ++ (t.coef, get_or paths t.path []) ∷ []
terms_more paths [] t = refl
terms_more paths (s ∷ ts) t = ap (λ rest. (s.coef, get_or paths s.path []) ∷ rest) (terms_more paths ts t)

-- terms with small coefficients over paths of a pool
terms_small : (l : Link) (paths : List (List ℕ)) (ts : List Term) → All (λ t. IsCoefficient t.coef) ts → All (λ t. IsCoefficient t.0 × (uses_of l t.1 ≤ nodes_in paths)) (path_terms paths ts)
terms_small l paths [] each = λ k d lt. absurd (omega (arith, lt))
terms_small l paths (t ∷ ts) each =
    All-cons (λ (u : ℤ × List ℕ). IsCoefficient u.0 × (uses_of l u.1 ≤ nodes_in paths)) (t.coef, get_or paths t.path []) (path_terms paths ts)
    (each 0 t (omega arith), omega (arith, uses_few l (get_or paths t.path []), path_within paths t.path)) (terms_small l paths ts (All-tail (λ (u : Term). IsCoefficient u.coef) t ts each))

gain_few : (z : ℤ) → IsCoefficient z → gain_of z ≤ 4
gain_few (pos n) is = is.1
gain_few (negsuc n) is = omega arith

loss_few : (z : ℤ) → IsCoefficient z → loss_of z ≤ 4
loss_few (pos n) is = omega arith
loss_few (negsuc n) is = omega (arith, is)

-- the counts of at most 16 terms over a pool are small
pub counts_small : (links : List Link) (paths : List (List ℕ)) (ts : List Term) (c : Counts) → length ts ≤ 16 → All (λ t. IsCoefficient t.coef) ts → nodes_in paths < 2 ^ 31 → IsCounted links (path_terms paths ts) c →
    (k : ℕ) → (entry_at c.gains.items k < 2 ^ 40) × (entry_at c.losses.items k < 2 ^ 40)
counts_small links paths ts c few each room is k = elim (cases_lt k (length links)) [
  | inl l ↦
      let d : Link = record { a = 0; b = 0 } in
      let h : Link = get_or links k d in
      let at : slice_get links k ≡ Some h = slice_get-get_or links k d l in
      let small = terms_small h paths ts each in
      let long = length-path_terms paths ts in
      let bound : length (path_terms paths ts) * (4 * nodes_in paths) ≤ 16 * (4 * nodes_in paths) = mul-le-mul (omega (arith, long, few)) (le_refl _) in (
        omega (arith, is.gained k h at, weight_few gain_of (uses_of h) (nodes_in paths) gain_few (path_terms paths ts) small, bound, room),
        omega (arith, is.lost k h at, weight_few loss_of (uses_of h) (nodes_in paths) loss_few (path_terms paths ts) small, bound, room),
      )
  | inr past ↦ (omega (arith, get_or_past c.gains.items k 0 (omega (arith, past, is.has.gain_each))), omega (arith, get_or_past c.losses.items k 0 (omega (arith, past, is.has.loss_each))))
]

-- so are those of the first of 16 terms, beside one path more
pub room_left : (links : List Link) (paths : List (List ℕ)) (ts : List Term) (i j : ℕ) (c : Counts) → length ts ≤ 16 → All (λ t. IsCoefficient t.coef) ts → nodes_in paths < 2 ^ 31 → IsCounted links (path_terms paths (take i ts)) c →
    (k : ℕ) → (entry_at c.gains.items k + 4 * length (get_or paths j []) < 2 ^ 63) × (entry_at c.losses.items k + 4 * length (get_or paths j []) < 2 ^ 63)
room_left links paths ts i j c few each room is k =
    let small = counts_small links paths (take i ts) c (omega (arith, length-take i ts, few)) (All-take (λ (t : Term). IsCoefficient t.coef) i ts each) room is k in
    let path = path_within paths j in
    (omega (arith, small.0, path, room), omega (arith, small.1, path, room))

-- the coefficients of well-formed terms
pub coefficients : (ts : List Term) → All (λ t. IsCoefficient t.coef × (t.path < 2 ^ 32)) ts → All (λ t. IsCoefficient t.coef) ts
coefficients ts each = λ k d l. (each k d l).0

-- a coefficient that passes through a byte is the same
pub byte_same : (z : ℤ) → IsCoefficient z → to_z w8 (of_z w8 z) ≡ z
byte_same (pos n) is = to_z-of_z w8 (pos n) (omega (arith, is))
byte_same (negsuc n) is = to_z-of_z w8 (negsuc n) (omega (arith, is))
