-- Paths joined of two, as terms, and the terms that name paths added to a pool.
use Rattle.std.specs.Prelude.{ℕ, ◌≡◌, ◌+◌, List, [], ◌∷◌, ◌++◌, map, length, ℤ, pos, negsuc}
use Rattle.simple_path.specs.declared.recipe.Term.{Term}
use Rattle.unit_flow.specs.Flows.{later_of}

-- the first list turned round, and then the second
abbrev pub turned_onto : List ℕ → List ℕ → List ℕ
turned_onto [] b = b
turned_onto (x ∷ a) b = turned_onto a (x ∷ b)

-- of a link between the monitors v and w: the path over it, twice
abbrev pub one_term : ℕ → ℕ → List (ℤ × List ℕ)
one_term v w = (pos 2, turned_onto (v ∷ []) (w ∷ [])) ∷ []

-- of a link from the monitor w to the first node of the paths a and b: each with w in front, less the two joined
abbrev pub three_terms : ℕ → List ℕ → List ℕ → List (ℤ × List ℕ)
three_terms w a b = (pos 1, turned_onto (w ∷ []) a) ∷ (pos 1, turned_onto (w ∷ []) b) ∷ (negsuc 0, turned_onto (later_of a) b) ∷ []

-- of a link from the first node of the paths a and b to that of c and d: c joined with a over the link, and b with d; less a with b, and c with d
abbrev pub four_terms : List ℕ → List ℕ → List ℕ → List ℕ → List (ℤ × List ℕ)
four_terms a b c d = (pos 1, turned_onto c a) ∷ (pos 1, turned_onto b d) ∷ (negsuc 0, turned_onto (later_of a) b) ∷ (negsuc 0, turned_onto (later_of c) d) ∷ []

-- the paths of terms
abbrev pub term_paths : List (ℤ × List ℕ) → List (List ℕ)
term_paths terms = map (λ t. t.1) terms

-- the term that counts the path with the number k so often
abbrev pub term : ℤ → ℕ → Term
term c k = record { coef = c; path = k }

-- terms with these coefficients that name the paths with the numbers k, k + 1, ..
abbrev pub numbered_terms : ℕ → List (ℤ × List ℕ) → List Term
numbered_terms k [] = []
numbered_terms k (t ∷ ts) = term t.0 k ∷ numbered_terms (k + 1) ts

-- the paths of the wanted terms were added to the pool, and the terms name them in this order
pub record Names (old new : List (List ℕ)) (terms : List Term) (wanted : List (ℤ × List ℕ)) : Type 0 where
  pub grown : new ≡ old ++ term_paths wanted
  pub named : terms ≡ numbered_terms (length old) wanted
