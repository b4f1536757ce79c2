-- Which bytes are a name.
use Rattle.std.proofs.Common.{◌≡◌, ℕ, ◌<◌, ◌≤◌, true, false, List, length, IsUtf8, IsTrue, IfSome, IfNone, Result, Ok, Err, Bor}
use Rattle.std.specs.Str.{is_utf8}
use Rattle.std.specs.Result.{MatchResult, result_ok}
use Rattle.std.proofs.lemmas.Bool.{and_left, and_right, and_from, lt-leb, le-leb, false_from_ne_true}
use Rattle.std.proofs.lemmas.Str.{IsUtf8-from_is_utf8, is_utf8-from_IsUtf8}
use Rattle.topology.specs.Names.{is_name}

-- no bytes are no name
pub no_empty_name : (bs : List ℕ) → length bs < 1 → is_name bs ≡ false
unfolding is_name
no_empty_name bs none = and_left _ _ (and_left _ _ (lt-leb 1 (length bs) none))

-- nor are more than 64
pub no_long_name : (bs : List ℕ) → 64 < length bs → is_name bs ≡ false
unfolding is_name
no_long_name bs long = and_left _ _ (and_right _ _ (lt-leb (length bs) 64 long))

-- nor are bytes that are not UTF-8
pub no_other_name : (bs : List ℕ) → ¬ (IsUtf8 bs) → is_name bs ≡ false
unfolding is_name
no_other_name bs other = and_right _ _ (false_from_ne_true (is_utf8 bs) (λ e. other (IsUtf8-from_is_utf8 bs e)))

-- 1 to 64 bytes of UTF-8 are a name
pub name_from : (bs : List ℕ) → 1 ≤ length bs → length bs ≤ 64 → IsUtf8 bs → is_name bs ≡ true
unfolding is_name
name_from bs some few text = and_from _ _ (and_from _ _ (le-leb 1 (length bs) some) (le-leb (length bs) 64 few)) (is_utf8-from_IsUtf8 bs text)

-- what a text made of bytes says of them: they are the name, or are none
pub text_is_name : {E : Type 0} (bs : List ℕ) (P : E → Type 0) (r : Result (Bor (List ℕ)) E) → MatchResult r (λ s. (s.now ≡ bs) × IsUtf8 bs) (λ e. ¬ (IsUtf8 bs) × P e)
    → 1 ≤ length bs → length bs ≤ 64 → IfSome (result_ok r) (λ name. (name.now ≡ bs) × IsTrue (is_name name.now))
text_is_name bs P (Ok s) read some few = (read.0, rw read.0 (name_from bs some few read.1))
text_is_name bs P (Err e) read some few = tt

pub no_text_no_name : {E : Type 0} (bs : List ℕ) (P : E → Type 0) (r : Result (Bor (List ℕ)) E) → MatchResult r (λ s. (s.now ≡ bs) × IsUtf8 bs) (λ e. ¬ (IsUtf8 bs) × P e)
    → IfNone (result_ok r) (is_name bs ≡ false)
no_text_no_name bs P (Ok s) read = tt
no_text_no_name bs P (Err e) read = no_other_name bs read.0
