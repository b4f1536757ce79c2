-- A set that one node was put into.
use Rattle.std.proofs.Common.{arith, ℕ, Bool, false, ◌≡◌, ◌<◌, ◌==◌, ◌||◌, List, [], All, sym, subst, ◌∙◌}
use Rattle.std.proofs.lemmas.Bool.{eqb-true}
use Rattle.tomo_base.specs.Sets.{has}
use Rattle.tomo_base.proofs.Ascending.{All-from_has}

-- it has that node alone
pub only_one : (alone : List ℕ) (x v : ℕ) → has alone v ≡ ((x == v) || has [] v) → has alone v ≡ (x == v)
unfolding has
only_one alone x v put = put ∙ whole (x == v)
  where
    whole : (b : Bool) → (b || false) ≡ b
    whole b = grind arith

-- so it is a set of nodes where the node is one
pub alone_nodes : (n x : ℕ) (alone : List ℕ) → x < n → ((v : ℕ) → has alone v ≡ (x == v)) → All (λ v. v < n) alone
alone_nodes n x alone l is = All-from_has (λ v. v < n) alone (λ v h. subst (λ w. w < n) (eqb-true x v (sym (is v) ∙ h)) l)
