-- Sums of coefficients, one for each path.
use Rattle.std.specs.Prelude.{ℕ, zero, suc, ◌≡◌, List, ℤ, pos, negsuc, ◌+ℤ◌, slice_index_or}
use Rattle.std.specs.List.{sum_by}
use Rattle.simple_path.specs.declared.recipe.Term.{Term}
use Rattle.plan_form.specs.Building.{sum_at}
use Rattle.link_solver.specs.declared.tied.Sum.{Sum}

-- the sum of the path with that number
abbrev pub sum_of : List Sum → ℕ → ℤ
sum_of sums k = (slice_index_or sums k (record { value = pos 0 })).value

-- 1 for a number other than 0
abbrev pub one_other : ℤ → ℕ
one_other (pos zero) = 0
one_other (pos (suc n)) = 1
one_other (negsuc n) = 1

-- 1 for a sum other than 0
abbrev pub other : Sum → ℕ
other sum = one_other sum.value

-- how many sums are not 0
abbrev pub others : List Sum → ℕ
others sums = sum_by other sums

-- the coefficients of the terms were added
abbrev pub GrewBy : List Sum → List Sum → List Term → Type 0
GrewBy old new terms = (k : ℕ) → sum_of new k ≡ sum_of old k +ℤ sum_at terms k
