-- A generator of numbers. Its state is a number below 2^31, at first the seed.
use Rattle.std.specs.Prelude.{ℕ, zero, suc, ◌+◌, ◌*◌, ◌/◌, ◌%◌, ◌^◌, List, [], ◌∷◌, ◌++◌}

-- the state after a step
unfoldable pub next : ℕ → ℕ
next x = (1103515245 * x + 12345) % 2 ^ 31

-- what the step from a state gives: the new state without its last 16 bits
abbrev pub step : ℕ → ℕ
step x = next x / 65536

-- a number below k, drawn in a state by two steps: the first gives its high part, the second its low part
unfoldable pub draw : ℕ → ℕ → ℕ
draw k x = (32768 * step x + step (next x)) % k

-- the state after i draws
unfoldable pub state : ℕ → ℕ → ℕ
state seed zero = seed
state seed (suc i) = next (next (state seed i))

-- the first i draws, as numbers below k
unfoldable pub draws : ℕ → ℕ → ℕ → List ℕ
draws seed k zero = []
draws seed k (suc i) = draws seed k i ++ draw k (state seed i) ∷ []

-- drawn delays are below this; the constant of the same name stands in `src/limits.rt`
abbrev pub drawn_delay_limit : ℕ
drawn_delay_limit = 1000000
