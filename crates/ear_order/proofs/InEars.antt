-- The nodes that stand in ears, as marks.
use Rattle.std.proofs.Common.{◌≡◌, ℕ, ◌+◌, ◌<◌, Bool, true, false, ◌||◌, cond, List, [], ◌∷◌, ◌++◌, Vec, map, take, length, get_or, All, refl, sym, subst, ap, ◌∙◌, arith}
use Rattle.std.specs.Global.{Global}
use Rattle.std.proofs.lemmas.List.{get_or-map, length-map, map_more, map-append}
use Rattle.tomo_base.specs.Sets.{has}
use Rattle.tomo_base.specs.Search.{mark_of}
use Rattle.ear_order.specs.Ears.{in_ears}

-- what holds of each list of numbers holds of the one at a place
pub item_of : (P : List ℕ → Type 0) (xs : List (Vec ℕ Global)) (i : ℕ) (x : Vec ℕ Global) → All P (map (λ e. e.items) xs) → i < length xs → x ≡ get_or xs i x → P x.items
item_of P xs i x all l is =
    subst P (get_or-map (λ (e : Vec ℕ Global). e.items) xs i x [] l ∙ ap (λ (e : Vec ℕ Global). e.items) (sym is)) (all i [] (omega (arith, l, length-map xs (λ (e : Vec ℕ Global). e.items))))

-- one ear more
pub in_ears-push : (es : List (List ℕ)) (e : List ℕ) (v : ℕ) → in_ears (es ++ e ∷ []) v ≡ (has e v || in_ears es v)
unfolding in_ears
in_ears-push [] e v = refl
in_ears-push (a ∷ es) e v = ap (λ b. has a v || b) (in_ears-push es e v) ∙ swap (has a v) (has e v) (in_ears es v)
  where
    swap : (a b c : Bool) → (a || (b || c)) ≡ (b || (a || c))
    swap true true c = refl
    swap true false c = refl
    swap false b c = refl

-- its marks
pub marks_ear : (ears : List (Vec ℕ Global)) (i : ℕ) (x : Vec ℕ Global) (slice : List ℕ) (marks marks' : List Bool) (v : ℕ) → i < length ears → x ≡ get_or ears i x → slice ≡ x.items
    → mark_of marks v ≡ in_ears (map (λ e. e.items) (take i ears)) v → mark_of marks' v ≡ cond (has slice v) true (mark_of marks v) → mark_of marks' v ≡ in_ears (map (λ e. e.items) (take (i + 1) ears)) v
marks_ear ears i x slice marks marks' v l is same before now =
    now ∙ (ap (λ b. cond (has slice v) true b) before ∙ (chosen (has slice v) (in_ears (map (λ (e : Vec ℕ Global). e.items) (take i ears)) v)
    ∙ (ap (λ e. has e v || in_ears (map (λ (e : Vec ℕ Global). e.items) (take i ears)) v) (same ∙ ap (λ (e : Vec ℕ Global). e.items) is)
    ∙ (sym (in_ears-push (map (λ (e : Vec ℕ Global). e.items) (take i ears)) (get_or ears i x).items v) ∙ ap (λ es. in_ears es v) (sym (map_more (λ (e : Vec ℕ Global). e.items) ears i x l))))))
  where
    chosen : (p q : Bool) → cond p true q ≡ (p || q)
    chosen true q = refl
    chosen false q = refl

-- no ears
pub marks_no_ear : (v : ℕ) → in_ears [] v ≡ false
unfolding in_ears
marks_no_ear v = refl

-- the items of ears with one ear more
pub map_push : (xs : List (Vec ℕ Global)) (x : Vec ℕ Global) → map (λ e. e.items) (xs ++ x ∷ []) ≡ map (λ e. e.items) xs ++ x.items ∷ []
map_push xs x = map-append (λ (e : Vec ℕ Global). e.items) xs (x ∷ [])
