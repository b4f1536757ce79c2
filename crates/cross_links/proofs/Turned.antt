-- Two lists joined by a link or at a node: what is summed along them, and that they are monitor paths.
use Rattle.std.proofs.Common.{ℕ, ◌+◌, ◌≡◌, Bool, true, false, ◌||◌, List, [], ◌∷◌, ◌++◌, reverse, ap, length, IsTrue, refl, ◌∙◌, inl, inr, arith}
use Rattle.std.proofs.lemmas.List.{reverse-append, append_assoc}
use Rattle.std.proofs.lemmas.Bool.{or_left, or_right, or_from, both_ways, false_from_ne_true}
use Rattle.tomo_base.specs.Network.{Network, linked}
use Rattle.tomo_base.specs.Sets.{has, Apart}
use Rattle.tomo_base.specs.Walks.{StepsFrom, IsWalk, EndsIn, NoneTwice, end_of}
use Rattle.tomo_base.specs.Identify.{sum_from, sum_over, IsMonitorPath}
use Rattle.tomo_base.proofs.Links.{linked_comm}
use Rattle.cross_links.specs.Joining.{turned_onto}
use Rattle.tomo_base.proofs.Members.{has_first, has_later, has_cases}
use Rattle.tomo_base.proofs.Paths.{not_first}

-- it is the reverse of the first, and the second
pub turned_is : (a b : List ℕ) → reverse a ++ b ≡ turned_onto a b
turned_is [] b = refl
turned_is (x ∷ a) b = ap (λ l. l ++ b) (reverse-append (x ∷ []) a) ∙ (append_assoc (reverse a) (x ∷ []) b ∙ turned_is a (x ∷ b))

-- the sum along two lists joined by a link
pub sum_across : (f : ℕ → ℕ → ℕ) → ((x y : ℕ) → f x y ≡ f y x) → (x : ℕ) (a : List ℕ) (y : ℕ) (b : List ℕ) →
    sum_over f (turned_onto (x ∷ a) (y ∷ b)) ≡ sum_from f x a + f x y + sum_from f y b
unfolding sum_from
sum_across f comm x [] y b = omega arith
sum_across f comm x (z ∷ a) y b = omega (arith, sum_across f comm z a x (y ∷ b), comm x z)

-- the sum along two lists joined at a node
pub sum_through : (f : ℕ → ℕ → ℕ) → ((x y : ℕ) → f x y ≡ f y x) → (x : ℕ) (a b : List ℕ) → sum_over f (turned_onto a (x ∷ b)) ≡ sum_from f x a + sum_from f x b
unfolding sum_from
sum_through f comm x [] b = omega arith
sum_through f comm x (z ∷ a) b = omega (arith, sum_across f comm z a x b, comm x z)

-- the joined list has the nodes of both
has-turned_onto : (a b : List ℕ) (v : ℕ) → has (turned_onto a b) v ≡ (has a v || has b v)
unfolding has
has-turned_onto [] b v = refl
has-turned_onto (x ∷ a) b v = has-turned_onto a (x ∷ b) v ∙ grind arith

-- a node of the first
pub turned_left : (a b : List ℕ) (v : ℕ) → has a v ≡ true → has (turned_onto a b) v ≡ true
turned_left a b v h = has-turned_onto a b v ∙ or_left (has a v) (has b v) h

-- a node of the second
pub turned_right : (a b : List ℕ) (v : ℕ) → has b v ≡ true → has (turned_onto a b) v ≡ true
turned_right a b v h = has-turned_onto a b v ∙ or_right (has a v) (has b v) h

-- a node of neither
pub turned_neither : (a b : List ℕ) (v : ℕ) → has a v ≡ false → has b v ≡ false → has (turned_onto a b) v ≡ false
turned_neither a b v h k = has-turned_onto a b v ∙ or_from (has a v) (has b v) h k

-- it is as long as both
pub length-turned_onto : (a b : List ℕ) → length (turned_onto a b) ≡ length a + length b
length-turned_onto [] b = omega arith
length-turned_onto (x ∷ a) b = omega (arith, length-turned_onto a (x ∷ b))

-- where they share no node it has none twice
once_turned : (a b : List ℕ) → NoneTwice a → NoneTwice b → Apart (has a) (has b) → NoneTwice (turned_onto a b)
once_turned [] b once once' apart = once'
once_turned (x ∷ a) b once once' apart = once_turned a (x ∷ b) once.1
    (false_from_ne_true (has b x) (λ k. apart x (has_first x a) k), once')
    (λ z h k. elim (has_cases x b z k) [ inl e ↦ not_first x a z once h e | inr e ↦ apart z (has_later x a z h) e ])

-- a walk from x over different nodes to a node of m, by its nodes after x
pub record IsArm (g : Network) (m : ℕ → Bool) (x : ℕ) (a : List ℕ) : Type 0 where
  pub steps : StepsFrom g x a
  pub once : NoneTwice (x ∷ a)
  pub ends : IsTrue (m (end_of x a))

module _ (g : Network) (m : ℕ → Bool) where
  -- a walk from x turned round, and on over a link
  walk_across : (x : ℕ) (a : List ℕ) (y : ℕ) (b : List ℕ) → StepsFrom g x a → IsTrue (linked g x y) → StepsFrom g y b → IsWalk g (turned_onto (x ∷ a) (y ∷ b))
  walk_across x [] y b sa l sb = (l, sb)
  walk_across x (z ∷ a) y b sa l sb = walk_across z a x (y ∷ b) sa.1 (linked_comm g x z sa.0) (l, sb)

  -- its ends are those of the two
  ends_across : (x : ℕ) (a : List ℕ) (y : ℕ) (b : List ℕ) → m (end_of x a) ≡ true → m (end_of y b) ≡ true → EndsIn m (turned_onto (x ∷ a) (y ∷ b))
  ends_across x [] y b ea eb = (ea, eb)
  ends_across x (z ∷ a) y b ea eb = ends_across z a x (y ∷ b) ea eb

  -- two arms joined by a link are a monitor path
  pub across : (x : ℕ) (a : List ℕ) (y : ℕ) (b : List ℕ) → IsArm g m x a → IsArm g m y b → IsTrue (linked g x y) → Apart (has (x ∷ a)) (has (y ∷ b)) → IsMonitorPath g m (turned_onto (x ∷ a) (y ∷ b))
  across x a y b arm arm' l apart = record {
    two = omega (arith, length-turned_onto (x ∷ a) (y ∷ b));
    different = once_turned (x ∷ a) (y ∷ b) arm.once arm'.once apart;
    linked = walk_across x a y b arm.steps l arm'.steps;
    ends = ends_across x a y b arm.ends arm'.ends;
  }

  -- so are two arms of one node that is no monitor
  pub through : (x : ℕ) (a b : List ℕ) → IsArm g m x a → IsArm g m x b → m x ≡ false → Apart (has a) (has b) → IsMonitorPath g m (turned_onto a (x ∷ b))
  through x [] b arm arm' plain apart = absurd (both_ways (m x) plain arm.ends)
  through x (z ∷ a) b arm arm' plain apart =
      across z a x b (record { steps = arm.steps.1; once = arm.once.1; ends = arm.ends }) arm' (linked_comm g x z arm.steps.0)
      (λ u h k. elim (has_cases x b u k) [ inl e ↦ not_first x (z ∷ a) u arm.once h e | inr e ↦ apart u h e ])
