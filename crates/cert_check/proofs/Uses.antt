-- How often a path runs over each link.
use Rattle.std.proofs.Common.{refl, ◌≡◌, ◌≤◌, ◌<◌, ◌+◌, ◌-◌, ◌*◌, ◌^◌, ◌⊎◌, ◌==◌, ◌++◌, ◌∷◌, [], ℕ, zero, suc, Bool, true, false, List, Vec, length, take, set, get_or, slice_get, Some, None, All, Contains, sym, ap, subst, ◌∙◌, inl, inr, arith, length-set, get_or-set_same, get_or-set_other}
use Rattle.std.proofs.lemmas.Bool.{cases_eq, both_ways, eq-eqb, ne_eqb, false_from_ne_true, or_parts}
use Rattle.std.proofs.lemmas.Bool.Decides.{nat_tests}
use Rattle.std.proofs.lemmas.List.{get_or_default, get_or-take, length-take, length-append}
use Rattle.std.proofs.lemmas.List.Sums.{sum_by-le, sum_by_more, sum_by_push}
use Rattle.std.proofs.Common.{mul-le-mul, add-zero}
use Rattle.std.proofs.lemmas.List.Elements.{All-push, Contains-push, Contains-append_left}
use Rattle.std.proofs.lemmas.Option.{slice_get-get_or}
use Rattle.std.specs.Global.{Global}
use Rattle.tomo_base.proofs.Lists.{slice_get_push_cases}
use Rattle.tomo_base.specs.declared.graph.Link.{Link}
use Rattle.tomo_base.specs.Network.{Network, joins, any_joins, AreLinks, IsGraph}
use Rattle.tomo_base.specs.Table.{JoinsAt}
use Rattle.tomo_base.specs.Search.{entry_at}
use Rattle.tomo_base.specs.Sets.{one_if}
use Rattle.tomo_base.specs.Identify.{sum_from, sum_over}
use Rattle.tomo_base.specs.Recipes.{uses_of}
use Rattle.cert_check.specs.Counting.{times, AreSteps, AreStepsOfAll}

-- the item at the place
the : (x l : Link) → Some x ≡ Some l → x ≡ l
the x l e = cc

-- what joins the same nodes as an earlier link is no later link
same_ends : (x y : Link) (a b : ℕ) → joins x a b ≡ true → joins y a b ≡ true → joins y x.a x.b ≡ true
unfolding joins
same_ends x y a b h₁ h₂ = grind (arith, nat_tests)

-- no later link joins the ends of the first
apart_later : (xs : List Link) (x : Link) (k : ℕ) (h : Link) (a b : ℕ) → any_joins xs x.a x.b ≡ false → slice_get xs k ≡ Some h → joins x a b ≡ true → joins h a b ≡ false
unfolding any_joins
apart_later [] x k h a b none at j = absurd (gone at)
  where
    gone : None ≡ Some h → ⊥
    gone e = cc
apart_later (y ∷ ys) x zero h a b none at j =
    let e : y ≡ h = the y h at in
    let parts : (joins y x.a x.b ≡ false) × (any_joins ys x.a x.b ≡ false) = or_parts (joins y x.a x.b) (any_joins ys x.a x.b) none in
    false_from_ne_true (joins h a b) (λ t. both_ways (joins y x.a x.b) parts.0 (same_ends x y a b j (subst (λ z. joins z a b ≡ true) (sym e) t)))
apart_later (y ∷ ys) x (suc k) h a b none at j =
    let parts : (joins y x.a x.b ≡ false) × (any_joins ys x.a x.b ≡ false) = or_parts (joins y x.a x.b) (any_joins ys x.a x.b) none in
    apart_later ys x k h a b parts.1 at j

-- a link that joins two nodes is the only one of the list
pub only_link : (n : ℕ) (links : List Link) (i k : ℕ) (l h : Link) (a b : ℕ) → AreLinks n links → slice_get links i ≡ Some l → slice_get links k ≡ Some h → joins l a b ≡ true → one_if (joins h a b) ≡ one_if (k == i)
only_link n [] i k l h a b are at_i at_k j = absurd (none at_i)
  where
    none : None ≡ Some l → ⊥
    none e = cc
only_link n (x ∷ xs) zero zero l h a b are at_i at_k j = ap one_if (subst (λ y. joins y a b ≡ true) (same at_i at_k) j)
  where
    same : Some x ≡ Some l → Some x ≡ Some h → l ≡ h
    same e f = cc
only_link n (x ∷ xs) zero (suc k) l h a b are at_i at_k j =
    let first : joins x a b ≡ true = subst (λ y. joins y a b ≡ true) (sym (the x l at_i)) j in
    ap one_if (apart_later xs x k h a b are.2 at_k first ∙ sym (ne_eqb (suc k) 0 (λ e. absurd (omega (arith, e)))))
only_link n (x ∷ xs) (suc i) zero l h a b are at_i at_k j =
    ap one_if (false_from_ne_true (joins h a b) (λ t. both_ways (joins l a b) (apart_later xs x i l a b are.2 at_i (subst (λ y. joins y a b ≡ true) (sym (the x h at_k)) t)) j) ∙ sym (ne_eqb 0 (suc i) (λ e. absurd (omega (arith, e)))))
only_link n (x ∷ xs) (suc i) (suc k) l h a b are at_i at_k j = only_link n xs i k l h a b are.3 at_i at_k j ∙ ap one_if (after k i)
  where
    after : (k i : ℕ) → (k == i) ≡ (suc k == suc i)
    after k i = grind (arith, nat_tests)

-- one step more
steps_more : (f : ℕ → ℕ → ℕ) (a : ℕ) (q : List ℕ) (i : ℕ) → i < length q → sum_from f a (take (suc i) q) ≡ sum_from f a (take i q) + f (get_or (a ∷ q) i 0) (get_or q i 0)
unfolding sum_from
steps_more f a [] i l = absurd (omega (arith, l))
steps_more f a (b ∷ q) zero l = omega arith
steps_more f a (b ∷ q) (suc i) l = omega (arith, steps_more f b q i (omega (arith, l)))

sum_more : (f : ℕ → ℕ → ℕ) (path : List ℕ) (i : ℕ) → 1 ≤ i → i < length path → sum_over f (take (i + 1) path) ≡ sum_over f (take i path) + f (get_or path (i - 1) 0) (get_or path i 0)
sum_more f [] i some l = absurd (omega (arith, l))
sum_more f (a ∷ q) zero some l = absurd (omega (arith, some))
sum_more f (a ∷ q) (suc i) some l =
    let e : suc i + 1 ≡ suc (suc i) = omega arith in
    let d : suc i - 1 ≡ i = omega arith in
    rw (e, d) (steps_more f a q i (omega (arith, l)))

-- so often does a path run over a link with one step more
uses_more : (l : Link) (path : List ℕ) (i : ℕ) → 1 ≤ i → i < length path → uses_of l (take (i + 1) path) ≡ uses_of l (take i path) + one_if (joins l (get_or path (i - 1) 0) (get_or path i 0))
unfolding uses_of
uses_more l path i some below = sum_more (λ a b. one_if (joins l a b)) path i some below

-- a path runs over a link less often than it has nodes
steps_few : (f : ℕ → ℕ → Bool) (a : ℕ) (q : List ℕ) → sum_from (λ x y. one_if (f x y)) a q ≤ length q
unfolding sum_from
steps_few f a [] = omega arith
steps_few f a (b ∷ q) = omega (arith, steps_few f b q, one (f a b))
  where
    one : (b : Bool) → one_if b ≤ 1
    one true = omega arith
    one false = omega arith

pub uses_few : (l : Link) (path : List ℕ) → uses_of l path ≤ length path - 1
unfolding uses_of
uses_few l [] = omega arith
uses_few l (a ∷ q) = let e : suc (length q) - 1 ≡ length q = omega arith in rw e (steps_few (joins l) a q)

-- a place in the list is below its length
pub place_below : {A : Type 0} (xs : List A) (i : ℕ) (x : A) → slice_get xs i ≡ Some x → i < length xs
place_below [] i x at = absurd (none x at)
  where
    none : {A : Type 0} (x : A) → None ≡ Some x → ⊥
    none x e = cc
place_below (y ∷ xs) zero x at = omega arith
place_below (y ∷ xs) (suc i) x at = omega (arith, place_below xs i x at)

-- at the first node there are no steps
pub no_steps : (links : List Link) (path : List ℕ) → AreSteps links (take 1 path) []
unfolding uses_of sum_from
no_steps links path = record {
  in_links = λ k d l. absurd (omega (arith, l));
  short = omega arith;
  often = λ k l at. sym (none l path);
}
  where
    none : (l : Link) (path : List ℕ) → uses_of l (take 1 path) ≡ 0
    none l [] = refl
    none l (a ∷ q) = refl

-- the link to the next node is one step more
pub step_more : (g : Network) (path : List ℕ) (i link : ℕ) (steps : List ℕ) → IsGraph g → 1 ≤ i → i < length path → JoinsAt g.links link (get_or path (i - 1) 0) (get_or path i 0) →
    AreSteps g.links (take i path) steps → AreSteps g.links (take (i + 1) path) (steps ++ link ∷ [])
step_more g path i link steps graph some l joined are = record {
  in_links = All-push (λ k. k < length g.links) steps link are.in_links (place_below g.links link joined.0 joined.1);
  short = omega (arith, length-append steps (link ∷ []), are.short, length-take i path, length-take (i + 1) path, l);
  often = λ k h at. omega (arith, sum_by_push (λ j. one_if (k == j)) steps link, are.often k h at, uses_more h path i some l, only_link g.nodes g.links link k joined.0 h _ _ graph joined.1 at joined.2);
}

-- the steps of one path more
pub all_more : (links : List Link) (paths : List (List ℕ)) (i : ℕ) (all : List (Vec ℕ Global)) (steps : Vec ℕ Global) → i < length paths → AreStepsOfAll links (take i paths) all → AreSteps links (get_or paths i []) steps.items →
    AreStepsOfAll links (take (i + 1) paths) (all ++ steps ∷ [])
all_more links paths i all steps l are here =
    let count : length all ≡ i = omega (arith, are.one_each, length-take i paths, l) in
    record {
      one_each = omega (arith, length-append all (steps ∷ []), count, length-take (i + 1) paths, l);
      each = λ j s at. elim (slice_get_push_cases all steps s j at) [
        | inl before ↦
            let low : j < i = omega (arith, place_below all j s before, count) in
            rw (get_or-take (i + 1) paths j [] (omega (arith, low))) (rw (get_or-take i paths j [] low) at (are.each j s before))
        | inr last ↦ rw (last.0, count, get_or-take (i + 1) paths i [] (omega arith), ← last.1) here
      ];
    }

-- the steps that are read for a path
pub steps_at : (links : List Link) (paths : List (List ℕ)) (all : List (Vec ℕ Global)) (k : ℕ) (steps d : Vec ℕ Global) → AreStepsOfAll links paths all → k < length paths → steps ≡ get_or all k d → AreSteps links (get_or paths k []) steps.items
steps_at links paths all k steps d are l is = rw is (are.each k _ (slice_get-get_or all k d (omega (arith, l, are.one_each))))

-- the numbers are counted, and each of them is in the list of those touched
pub record IsCountedTo (steps : List ℕ) (weight : ℕ) (old before new after : List ℕ) : Type 0 where
  pub size : length new ≡ length old
  pub counted : (k : ℕ) → entry_at new k ≡ entry_at old k + weight * times k steps
  pub in_links : All (λ k. k < length old) before → All (λ k. k < length old) after
  pub kept : (k : ℕ) → Contains before k → Contains after k
  pub touched : (k : ℕ) → Contains after k ⊎ (entry_at new k ≡ entry_at old k)

-- of no numbers nothing is counted
pub counted_none : (steps : List ℕ) (weight : ℕ) (old before : List ℕ) → IsCountedTo (take 0 steps) weight old before old before
counted_none steps weight old before = record {
  size = refl;
  counted = λ k. omega arith;
  in_links = λ all. all;
  kept = λ k there. there;
  touched = λ k. inr refl;
}

-- one number more is counted
pub counted_more : (steps : List ℕ) (i weight : ℕ) (old before new after : List ℕ) → i < length steps → All (λ k. k < length old) steps → IsCountedTo (take i steps) weight old before new after →
    IsCountedTo (take (i + 1) steps) weight old before (set new (get_or steps i 0) (entry_at new (get_or steps i 0) + weight)) (after ++ get_or steps i 0 ∷ [])
counted_more steps i weight old before new after l within to =
    let room : link < length new = omega (arith, within i 0 l, to.size) in
    record {
      size = length-set new link (entry_at new link + weight) ∙ to.size;
      counted = λ k.
          let more : times k (take (i + 1) steps) ≡ times k (take i steps) + one_if (k == link) = sum_by_more (λ j. one_if (k == j)) steps i 0 l in
          elim (cases_eq k link) [
            | inl same ↦
                let one : one_if (k == link) ≡ 1 = ap one_if (eq-eqb k link same) in
                grown (entry_at (set new link (entry_at new link + weight)) k) (entry_at new k) weight (entry_at old k) (times k (take i steps)) (times k (take (i + 1) steps))
                (rw same (get_or-set_same new link (entry_at new link + weight) 0 room)) (to.counted k) (more ∙ ap (λ u. times k (take i steps) + u) one)
            | inr other ↦
                let none : one_if (k == link) ≡ 0 = ap one_if (ne_eqb k link other) in
                rw (get_or-set_other new link k _ 0 other) (to.counted k ∙ ap (λ u. entry_at old k + weight * u) (sym (more ∙ (ap (λ u. times k (take i steps) + u) none ∙ add-zero _))))
          ];
      in_links = λ all. All-push (λ k. k < length old) after link (to.in_links all) (within i 0 l);
      kept = λ k there. Contains-append_left after (link ∷ []) k (to.kept k there);
      touched = λ k. elim (cases_eq k link) [
        | inl same ↦ inl (subst (Contains (after ++ link ∷ [])) (sym same) (Contains-push after link))
        | inr other ↦ elim (to.touched k) [ inl there ↦ inl (Contains-append_left after (link ∷ []) k there) | inr same ↦ inr (get_or-set_other new link k _ 0 other ∙ same) ]
      ];
    }
  where
    link : ℕ
    link = get_or steps i 0

    grown : (a b w o u v : ℕ) → a ≡ b + w → b ≡ o + w * u → v ≡ u + 1 → a ≡ o + w * v
    grown a b w o u v is was more = let h : w * v ≡ w * (u + 1) = ap (λ x. w * x) more in omega (arith, is, was, h)

-- one number more still fits
pub count_fits : (steps : List ℕ) (i weight : ℕ) (old before new after : List ℕ) → i < length steps → weight ≤ 4 → entry_at old (get_or steps i 0) + 4 * length steps < 2 ^ 63 →
    IsCountedTo (take i steps) weight old before new after → entry_at new (get_or steps i 0) + weight < 2 ^ 63
count_fits steps i weight old before new after l light room to =
    let link : ℕ = get_or steps i 0 in
    let few : times link (take i steps) + 1 ≤ length steps = omega (arith, sum_by-le (λ j. one_if (link == j)) 1 (take i steps) (λ j d below. one (link == get_or (take i steps) j d)), length-take i steps, l) in
    let most : weight * times link (take i steps) + weight ≤ 4 * length steps = product weight (times link (take i steps)) (length steps) light few in
    omega (arith, to.counted link, most, room)
  where
    one : (b : Bool) → one_if b ≤ 1
    one true = omega arith
    one false = omega arith

    product : (w u n : ℕ) → w ≤ 4 → u + 1 ≤ n → w * u + w ≤ 4 * n
    product w u n light few = let h : w * (u + 1) ≤ 4 * n = mul-le-mul light few in omega (arith, h)

-- what was read at a place
pub get_same : (xs : List ℕ) (i x d : ℕ) → i < length xs → x ≡ get_or xs i d → x ≡ entry_at xs i
get_same xs i x d l read = read ∙ get_or_default xs i d 0 l
