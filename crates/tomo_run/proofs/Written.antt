-- One write after another.
use Rattle.std.proofs.Common.{◌≡◌, ◌∙◌, ap, ℕ, ◌+◌, List, ◌++◌, length, take, drop, Option, Some, None, arith, append_assoc, length-drop, ◌-◌}
use Rattle.std.proofs.Math.Seq.{take-add}
use Rattle.std.proofs.lemmas.Grind.{common_steps}
use Rattle.std.specs.Io.KnownBytes.{Appends}

-- two pieces after one another are one piece
appends-two : (a b c : Option (List ℕ)) (xs ys : List ℕ) → Appends a b xs → Appends b c ys → Appends a c (xs ++ ys)
appends-two None b c xs ys first second = tt
appends-two (Some held) None c xs ys first second = absurd first
appends-two (Some held) (Some more) None xs ys first second = absurd second
appends-two (Some held) (Some more) (Some all) xs ys first second = second ∙ ap (λ v. v ++ ys) first ∙ append_assoc held xs ys

-- the rest of a list, as a slice from a place gives it
rest-slice : (bytes : List ℕ) (done : ℕ) → take (length bytes - done) (drop done bytes) ≡ drop done bytes
rest-slice bytes done = grind (arith, common_steps)

-- how many bytes are left
pub rest-length : (bytes : List ℕ) (done : ℕ) → length (take (length bytes - done) (drop done bytes)) ≡ length bytes - done
rest-length bytes done = rw (rest-slice bytes done) (length-drop done bytes)

-- the next bytes of a text after those that were written
pub appends-next : (a b c : Option (List ℕ)) (bytes : List ℕ) (done count : ℕ)
    → Appends a b (take done bytes) → Appends b c (take count (take (length bytes - done) (drop done bytes))) → Appends a c (take (done + count) bytes)
appends-next a b c bytes done count first second = rw (take-add done count bytes) (appends-two a b c _ _ first (rw (rest-slice bytes done) at second))
