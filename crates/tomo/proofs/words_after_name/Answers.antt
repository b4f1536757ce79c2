use Rattle.std.proofs.Common.{◌≡◌, ◌↔◌, ◌<◌, ◌++◌, ◌∷◌, [], ℕ, List, Option, Some, None, length, drop, map, string_bytes, refl, sym, ap, ◌∙◌, arith, inl, inr, append_assoc}
use Rattle.std.proofs.lemmas.Bool.{cases_lt, false≢true}
use Rattle.std.proofs.lemmas.List.{append-nil}
use Rattle.std.specs.Option.{IsSome, option_to_list}
use Rattle.std.specs.Vec.Iter.{into_iter_items}
use Rattle.tomo.proofs.words_after_name.Goals as goal

-- a list of no elements
none_of : {X : Type 0} (xs : List X) → length xs ≡ 0 → xs ≡ []
none_of [] none = refl
none_of (x ∷ xs) none = absurd (omega (arith, none))

-- what is left of a list once its first element was taken out, if it has one
after_first : {X : Type 0} (first : Option X) (all rest : List X) (len : ℕ) → all ≡ option_to_list first ++ rest → (IsSome first ↔ (0 < len)) → length all ≡ len → drop 1 all ≡ rest
after_first (Some x) all rest len same some size = ap (drop 1) same
after_first None all rest len same some size = elim (cases_lt 0 len) [
  | inl lt ↦ absurd (false≢true (some.1 lt))
  | inr none ↦ let empty : all ≡ [] = none_of all (omega (arith, none, size)) in ap (drop 1) empty ∙ sym empty ∙ same
]

pub loop-word-init : goal.loop-word-init
loop-word-init c = rw (c.new-words.ensures, c.into_iter-word-iterator.ensures.into_iter_gives) (ap (map string_bytes) (sym (after_first c.next-name.result (into_iter_items c.args.args) (into_iter_items c.next-name.new.self) _ c.next-name.ensures.items c.next-name.ensures.variant (sym c.args.args.rest.ok.0))))

pub loop-word-preserved : goal.loop-word-preserved
loop-word-preserved c =
    rw c.in_ok-push.ensures.ok
    (append_assoc c.loop-word.words (c.as_str.result.now ∷ []) (map string_bytes (into_iter_items c.next.new.self)) ∙ ap (λ word. c.loop-word.words ++ word ∷ map string_bytes (into_iter_items c.next.new.self)) c.as_str.ensures.value
    ∙ ap (λ xs. c.loop-word.words ++ map string_bytes xs) (sym c.in-Some.ensures.steps.0) ∙ c.loop-word.invariant)

pub returns : goal.returns
returns c = let none : into_iter_items c.loop-word.word-iterator ≡ [] = none_of _ (omega (arith, c.in-None.ensures.steps, c.loop-word.word-iterator.rest.ok.0)) in
    sym (append-nil c.loop-word.words) ∙ ap (λ xs. c.loop-word.words ++ map string_bytes xs) (sym none) ∙ c.loop-word.invariant
