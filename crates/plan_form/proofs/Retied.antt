-- A plan that is built of tied recipes is tied, and has as many paths as were given.
use Rattle.std.proofs.Common.{◌≡◌, ℕ, zero, suc, ◌+◌, ◌<◌, ◌≤◌, ◌==◌, true, List, [], ◌∷◌, length, map, get_or, refl, sym, ap, ◌∙◌, subst, inl, inr, arith, All, Contains}
use Rattle.std.specs.Cmp.Lexicographic.{nat_list_cmp_total}
use Rattle.std.specs.List.Sorted.{IsStrictlySortedBy}
use Rattle.std.specs.Ordering.{ordering_reverse}
use Rattle.std.specs.declared.cmp.Ordering.TheVariants.{Less}
use Rattle.std.proofs.lemmas.Bool.{cases_lt, or_cases, eqb-true, false≢true, false_from_ne_true}
use Rattle.std.proofs.lemmas.List.{get_or-map, length-map, get_or_past, get_or_default}
use Rattle.std.proofs.lemmas.List.Elements.{Contains-get_or}
use Rattle.std.proofs.lemmas.Map.Keys.{Less-from_sorted}
use Rattle.tomo_base.specs.declared.graph.Link.{Link}
use Rattle.tomo_base.specs.Sets.{has}
use Rattle.tomo_base.specs.Walks.{NoneTwice}
use Rattle.tomo_base.specs.Identify.{sum_from, sum_over}
use Rattle.tomo_base.specs.Recipes.{gain_of, loss_of}
use Rattle.tomo_base.proofs.Counts.{count-le}
use Rattle.simple_path.specs.declared.recipe.Term.{Term}
use Rattle.simple_path.specs.Terms.{weighted_by}
use Rattle.tomo_base.proofs.Paths.{few_once}
use Rattle.plan_form.specs.Building.{turned, renumbered, IsBuilt}
use Rattle.plan_form.specs.Order.{path_cmp}
use Rattle.plan_form.specs.Tied.{place_between, recipe_between, AreTied}
use Rattle.plan_form.proofs.Merging.{merged_weight}
use Rattle.plan_form.proofs.Built.{renumbered_weight, renumbered_within, rewritten_within}
use Rattle.plan_form.proofs.Tied.{Balances, weighted_along, tied_from_balances, tied_balances, balances_turned, balances_one}

-- ---- paths in order

-- paths in order are different
before_differs : (paths : List (List ℕ)) (i j : ℕ) → IsStrictlySortedBy path_cmp paths → i < j → j < length paths → get_or paths i [] ≡ get_or paths j [] → ⊥
before_differs paths i j up lt l same =
    let q = get_or paths j [] in
    let less : path_cmp q q ≡ Less = subst (λ p. path_cmp p q ≡ Less) same (Less-from_sorted path_cmp paths i j [] up lt l) in
    absurd (cc (sym less ∙ nat_list_cmp_total.antisymm q q ∙ ap ordering_reverse less))

-- so equal ones stand at one place
pub one_place : (paths : List (List ℕ)) (i j : ℕ) → IsStrictlySortedBy path_cmp paths → i < length paths → j < length paths → get_or paths i [] ≡ get_or paths j [] → i ≡ j
one_place paths i j up in_i in_j same = elim (cases_lt i j) [
  | inl lt ↦ absurd (before_differs paths i j up lt in_j same)
  | inr ge ↦ elim (cases_lt j i) [
    | inl gt ↦ absurd (before_differs paths j i up gt in_i (sym same))
    | inr le ↦ omega (arith, ge, le)
  ]
]

-- ---- sums of several weights along a path

-- weights that balance at each step balance along a walk
balanced_from : (a b c d : ℕ → ℕ → ℕ) → ((x y : ℕ) → a x y + b x y ≡ c x y + d x y) → (x : ℕ) (p : List ℕ) → sum_from a x p + sum_from b x p ≡ sum_from c x p + sum_from d x p
unfolding sum_from
balanced_from a b c d each x [] = refl
balanced_from a b c d each x (y ∷ p) = omega (arith, each x y, balanced_from a b c d each y p)

balanced_over : (a b c d : ℕ → ℕ → ℕ) → ((x y : ℕ) → a x y + b x y ≡ c x y + d x y) → (p : List ℕ) → sum_over a p + sum_over b p ≡ sum_over c p + sum_over d p
balanced_over a b c d each [] = refl
balanced_over a b c d each (x ∷ p) = balanced_from a b c d each x p

module _ (links : List Link) (pool : List (List ℕ)) (old : List (List Term)) (paths : List (List ℕ)) (new : List (List Term)) (names : (i : ℕ) → i < length old → All (λ t. t.path < length pool) (get_or old i []))
    (built : IsBuilt pool old paths new) where
  -- where each path of the pool stands in the plan
  stands : (e : ℕ) → (k : ℕ) × (e < length pool → (k < length paths) × (get_or paths k [] ≡ turned (get_or pool e [])))
  stands e = elim (cases_lt e (length pool)) [
    | inl l ↦ (let at = (built.members (turned (get_or pool e []))).1 (in_map e l) in (at.0, λ h. (at.1, get_or_default paths at.0 [] (turned (get_or pool e [])) at.1 ∙ at.2)))
    | inr ge ↦ (0, λ l. absurd (omega (arith, l, ge)))
  ]
    where
      in_map : (e : ℕ) → e < length pool → Contains (map turned pool) (turned (get_or pool e []))
      in_map e l = subst (λ q. Contains (map turned pool) q) (get_or-map turned pool e [] [] l) (Contains-get_or (map turned pool) e [] (omega (arith, l, length-map pool turned)))

  abbrev place : ℕ → ℕ
  place e = (stands e).0

  -- no recipe stands past the last
  past : (recipes : List (List Term)) (i : ℕ) → length recipes ≤ i → get_or recipes i [] ≡ []
  past recipes i l = get_or_past recipes i [] l

  -- the new recipes weigh what the old ones do, for the weights of the paths that they name now
  kept : (f : ℕ → ℕ) (i : ℕ) → weighted_by gain_of f (get_or new i []) + weighted_by loss_of (λ e. f (place e)) (get_or old i []) ≡ weighted_by loss_of f (get_or new i []) + weighted_by gain_of (λ e. f (place e)) (get_or old i [])
  unfolding weighted_by
  kept f i = elim (cases_lt i (length old)) [
    | inl l ↦
        let r = built.recipes i l in
        let ts = get_or old i [] in
        let in_old : All (λ (t : Term). r.number t.path < length paths) ts = λ k d lt. (r.names k d lt).0 in
        let same : All (λ (t : Term). f (r.number t.path) ≡ f (place t.path)) ts = λ k d lt.
        let path = (get_or ts k d).path in
        let there = (stands path).1 (names i l k d lt) in
        ap f (one_place paths (r.number path) (place path) built.ascending (r.names k d lt).0 there.0 ((r.names k d lt).1 ∙ sym there.1)) in
        let balance = merged_weight f (length paths) (renumbered r.number ts) (get_or new i []) (renumbered_within r.number (length paths) ts in_old) (rewritten_within pool paths ts (get_or new i []) r) r.merged.sums in
        omega (arith, balance, renumbered_weight gain_of f (λ e. f (place e)) r.number ts same, renumbered_weight loss_of f (λ e. f (place e)) r.number ts same)
    | inr ge ↦ rw (past old i ge, past new i (omega (arith, ge, built.one_each))) refl
  ]

  -- a balanced path stays balanced
  stays_balanced : (p : List ℕ) (e : ℕ) → Balances links old p e → Balances links new p (place e)
  stays_balanced p e balances f =
      let whole = balanced_over (λ x y. weighted_by gain_of f (recipe_between links new x y)) (λ x y. weighted_by loss_of (λ e. f (place e)) (recipe_between links old x y))
      (λ x y. weighted_by loss_of f (recipe_between links new x y)) (λ x y. weighted_by gain_of (λ e. f (place e)) (recipe_between links old x y)) (λ x y. kept f (place_between links x y)) p in
      omega (
        arith,
        whole,
        balances (λ e. f (place e)),
        weighted_along gain_of f links new p,
        weighted_along loss_of f links new p,
        weighted_along gain_of (λ e. f (place e)) links old p,
        weighted_along loss_of (λ e. f (place e)) links old p,
      )

  module _ (tied : AreTied links pool old) where
    -- the old paths are balanced
    were_balanced : (e : ℕ) → e < length pool → Balances links old (get_or pool e []) e
    were_balanced e l = tied_balances (length pool) links pool old (λ i. elim (cases_lt i (length old)) [ inl lt ↦ names i lt | inr ge ↦ rw (past old i ge) (λ k d h. absurd (omega (arith, h))) ]) tied refl e l

    -- and the path at a new place is an old one, turned
    from_pool : (k : ℕ) → k < length paths → (e : ℕ) × (e < length pool) × (turned (get_or pool e []) ≡ get_or paths k [])
    from_pool k l =
        let at = (built.members (get_or paths k [])).0 (Contains-get_or paths k [] l) in
        let lt : at.0 < length pool = omega (arith, at.1, length-map pool turned) in
        (at.0, lt, sym (get_or-map turned pool at.0 [] (get_or paths k []) lt) ∙ at.2)

    -- so the new paths are tied
    pub built_tied : AreTied links paths new
    built_tied = tied_from_balances links paths new (λ k l.
        let from = from_pool k l in
        let there = (stands from.0).1 from.1 in
        let here : place from.0 ≡ k = one_place paths (place from.0) k built.ascending there.0 l (there.1 ∙ from.2) in
        subst (λ p. Balances links new p k) from.2 (subst (λ n. Balances links new (turned (get_or pool from.0 [])) n) here
        (stays_balanced (turned (get_or pool from.0 [])) from.0 (balances_turned links old (get_or pool from.0 []) from.0 (were_balanced from.0 from.1)))))

    -- two paths of the pool stand at different places
    place_once : (d e : ℕ) → d < length pool → e < length pool → place d ≡ place e → d ≡ e
    place_once d e in_d in_e same =
        let at_d = (stands d).1 in_d in
        let at_e = (stands e).1 in_e in
        let turns : turned (get_or pool d []) ≡ turned (get_or pool e []) = sym at_d.1 ∙ (ap (λ k. get_or paths k []) same ∙ at_e.1) in
        balances_one links old (turned (get_or pool e [])) d e
        (subst (λ p. Balances links old p d) turns (balances_turned links old (get_or pool d []) d (were_balanced d in_d)))
        (balances_turned links old (get_or pool e []) e (were_balanced e in_e))

    -- the places of the first n paths
    places : ℕ → List ℕ
    places zero = []
    places (suc n) = place n ∷ places n

    length-places : (n : ℕ) → length (places n) ≡ n
    unfolding places
    length-places zero = refl
    length-places (suc n) = ap suc (length-places n)

    from_place : (n v : ℕ) → has (places n) v ≡ true → (e : ℕ) × (e < n) × (place e ≡ v)
    unfolding places has
    from_place zero v h = absurd (false≢true h)
    from_place (suc n) v h = elim (or_cases (place n == v) (has (places n) v) h) [
      | inl e ↦ (n, omega arith, eqb-true (place n) v e)
      | inr e ↦ (let k = from_place n v e in (k.0, omega (arith, k.1), k.2))
    ]

    places_once : (n : ℕ) → n ≤ length pool → NoneTwice (places n)
    unfolding places
    places_once zero l = tt
    places_once (suc n) l = (
      false_from_ne_true (has (places n) (place n)) (λ h. let k = from_place n (place n) h in
          let same : k.0 ≡ n = place_once k.0 n (omega (arith, k.1, l)) (omega (arith, l)) k.2 in omega (arith, k.1, same)),
      places_once n (omega (arith, l)),
    )

    -- so the plan has as many paths as the pool, at least
    pub as_many : length pool ≤ length paths
    as_many =
        let n = length pool in
        let below : (v : ℕ) → has (places n) v ≡ true → v < length paths = λ v h. (let k = from_place n v h in subst (λ x. x < length paths) k.2 ((stands k.0).1 k.1).0) in
        omega (arith, length-places n, few_once (length paths) (places n) (places_once n (omega arith)) below, count-le (length paths) (has (places n)))
