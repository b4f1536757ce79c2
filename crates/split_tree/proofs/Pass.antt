-- what is connected without one node in a piece is so in a part, and a cut of a nonseparable piece is a pair of its nodes
use Rattle.std.proofs.Common.{◌≡◌, ◌≢◌, ℕ, ◌≤◌, ◌<◌, Bool, false, IsTrue, sym, subst, inl, inr}
use Rattle.std.proofs.lemmas.Bool.{cases_Bool, both_ways}
use Rattle.tomo_base.specs.Network.{Network}
use Rattle.tomo_base.specs.Sets.{count, without, Within}
use Rattle.tomo_base.specs.Parting.{without_two, IsClosedIn, IsJoinedIn, IsJoinedWithoutOne}
use Rattle.tomo_base.proofs.Parting.{without-from, without-parts, without_two-mono, without_two-in, without_two-from, joined-same, without-twice, without-once}
use Rattle.tomo_base.proofs.Picks.{three-count}
use Rattle.split_tree.proofs.Part.{Part, joined-part}

-- a piece that is connected without two nodes has parts that are
pub firm-part : (N N' : Network) (P P' : ℕ → Bool) (a b : ℕ) → Part N N' P P' a b → (c d : ℕ) → IsJoinedIn N (without_two P c d) → IsJoinedIn N' (without_two P' c d)
firm-part N N' P P' a b part c d f x y ix iy = joined-part N N' P P' a b part c d x y ix (without_two-in P' c d y iy)
    (f x y (without_two-mono P' P c d part.sub x ix) (without_two-mono P' P c d part.sub y iy))

-- a part of a nonseparable piece is connected without any one node
pub part-like : (N N' : Network) (P P' : ℕ → Bool) (a b : ℕ) → Part N N' P P' a b → IsJoinedWithoutOne N P → IsJoinedWithoutOne N' P'
part-like N N' P P' a b part f c = joined-same N' (without_two P' c c) (without P' c) (without-once P' c) (without-twice P' c)
    (firm-part N N' P P' a b part c c (joined-same N (without P c) (without_two P c c) (without-twice P c) (without-once P c) (f c)))

-- a part has three nodes: the pair and one more
pub part-three : (N N' : Network) (P P' : ℕ → Bool) (a b : ℕ) → Part N N' P P' a b → (a ≢ b) → (n : ℕ) → ((v : ℕ) → IsTrue (P v) → v < n)
    → (k : ℕ) → IsTrue (P' k) → (k ≢ a) → (k ≢ b) → 3 ≤ count n P'
part-three N N' P P' a b part ab n bound k ik ka kb =
    let low = λ (v : ℕ) (i : IsTrue (P' v)). bound v (part.sub v i) in
    three-count n P' k a b (low k ik) (low a part.at_a) (low b part.at_b) ik part.at_a part.at_b ka kb ab

-- two numbers that part a nonseparable piece are different nodes of it
pub cut-is-pair : (N : Network) (P K : ℕ → Bool) (c d : ℕ) → IsJoinedWithoutOne N P → Within K P → IsClosedIn N (without_two P c d) K → K c ≡ false → K d ≡ false
    → (k : ℕ) → IsTrue (K k) → (y : ℕ) → IsTrue (P y) → K y ≡ false → (y ≢ c) → (y ≢ d) → (c ≢ d) × IsTrue (P c) × IsTrue (P d)
cut-is-pair N P K c d firm kp cl kc kd k ik y iy ny yc yd =
    let one : (e : ℕ) → Within (without P e) (without_two P c d) → (k ≢ e) → (y ≢ e) → ⊥ = λ e sub ke ye.
    both_ways (K y) ny (firm e k y (without-from P e k (kp k ik) ke) (without-from P e y iy ye) K (λ u v m l iv. cl u v m l (sub v iv)) ik) in
    let off : (e : ℕ) → K e ≡ false → (k ≢ e) = λ e n q. both_ways (K e) n (subst (λ z. IsTrue (K z)) q ik) in (
      λ q. one c (λ v i. let p = without-parts P c v i in without_two-from P c d v p.0 p.1 (λ s. p.1 (subst (λ z. v ≡ z) (sym q) s))) (off c kc) yc,
      elim (cases_Bool (P c)) [
        | inl m ↦ m
        | inr n ↦ absurd (one d (λ v i. let p = without-parts P d v i in without_two-from P c d v p.0 (λ s. both_ways (P c) n (subst (λ z. IsTrue (P z)) s p.0)) p.1) (off d kd) yd)
      ],
      elim (cases_Bool (P d)) [
        | inl m ↦ m
        | inr n ↦ absurd (one c (λ v i. let p = without-parts P c v i in without_two-from P c d v p.0 p.1 (λ s. both_ways (P d) n (subst (λ z. IsTrue (P z)) s p.0))) (off c kc) yc)
      ],
    )
