-- From the size of a set to one, two, three or four different nodes of it, and back.
use Rattle.std.proofs.Common.{◌≡◌, ◌≢◌, ℕ, zero, suc, ◌+◌, ◌≤◌, ◌<◌, Bool, true, false, not, ◌&&◌, ◌==◌, ◌⊎◌, IsTrue, refl, ap, inl, inr, arith}
use Rattle.std.proofs.lemmas.Bool.{cases_Bool, and_right, eq-eqb, cases_eq}
use Rattle.tomo_base.specs.Sets.{one_if, count, without, minus, meet, Within}
use Rattle.tomo_base.proofs.Counts.{one_if-mono, count-mono, count-add, count-less, count-none, count_gives, count-some}
use Rattle.tomo_base.proofs.Parting.{without-from, without-parts}

-- a larger set counts no less
pub count-within : (n : ℕ) (X Y : ℕ → Bool) → Within X Y → count n X ≤ count n Y
count-within n X Y s = count-mono n X Y (λ v l. s v)

-- a set without one member of a larger one counts less
pub count-proper : (n : ℕ) (X Y : ℕ → Bool) → Within X Y → (v : ℕ) → v < n → IsTrue (Y v) → X v ≡ false → count n X < count n Y
count-proper n X Y s v l m out = count-less n X Y v l out m (λ w k. s w)

-- the members inside F and those outside F
pub count-split : (n : ℕ) (X F : ℕ → Bool) → count n X ≡ count n (meet X F) + count n (minus X F)
count-split n X F = count-add n X (meet X F) (minus X F) (λ v l. by_second (X v) (F v))
  where
    by_second : (x f : Bool) → one_if x ≡ one_if (x && f) + one_if (x && not f)
    by_second true true = refl
    by_second true false = refl
    by_second false f = refl

-- the removed node is gone
pub without-off : (X : ℕ → Bool) (c : ℕ) → without X c c ≡ false
without-off X c = and_right (X c) (not (c == c)) (ap not (eq-eqb c c refl))

-- one removed number lowers the count by at most one
pub count-without : (n : ℕ) (X : ℕ → Bool) (c : ℕ) → count n X ≤ count n (without X c) + 1
unfolding count
count-without zero X c = omega arith
count-without (suc k) X c = elim (cases_eq k c) [
  | inl e ↦ (let rest : count k X ≤ count k (without X c) = count-mono k X (without X c) (λ v l m. without-from X c v m (λ q. omega (arith, l, q, e))) in
      omega (arith, one_if-mono (X k) true (λ h. refl), rest))
  | inr d ↦ omega (arith, one_if-mono (X k) (without X c k) (λ m. without-from X c k m d), count-without k X c)
]

-- a node that is removed lowers the count by one
pub count-removed : (n : ℕ) (X : ℕ → Bool) (c : ℕ) → c < n → IsTrue (X c) → count n (without X c) < count n X
count-removed n X c l m = count-proper n (without X c) X (λ v i. (without-parts X c v i).0) c l m (without-off X c)

-- a set of two has a node other than a
pub pick1 : (n : ℕ) (X : ℕ → Bool) → 2 ≤ count n X → (a : ℕ) → (v : ℕ) × (v < n) × IsTrue (X v) × (v ≢ a)
pick1 n X h a = let r = count_gives n (without X a) (omega (arith, h, count-without n X a)) in
    let p = without-parts X a r.0 r.2 in (r.0, r.1, p.0, p.1)

-- a set of three has a node other than a and b
pub pick2 : (n : ℕ) (X : ℕ → Bool) → 3 ≤ count n X → (a b : ℕ) → (v : ℕ) × (v < n) × IsTrue (X v) × (v ≢ a) × (v ≢ b)
pick2 n X h a b = let r = pick1 n (without X a) (omega (arith, h, count-without n X a)) b in
    let p = without-parts X a r.0 r.2 in (r.0, r.1, p.0, p.1, r.3)

-- a set of four has a node other than a, b and c
pub pick3 : (n : ℕ) (X : ℕ → Bool) → 4 ≤ count n X → (a b c : ℕ) → (z : ℕ) × IsTrue (X z) × (z ≢ a) × (z ≢ b) × (z ≢ c)
pick3 n X h a b c = let r = pick2 n (without X a) (omega (arith, h, count-without n X a)) b c in
    let p = without-parts X a r.0 r.2 in (r.0, p.0, p.1, r.3, r.4)

-- two different nodes make it count two
pub two-count : (n : ℕ) (X : ℕ → Bool) (u v : ℕ) → u < n → v < n → IsTrue (X u) → IsTrue (X v) → (u ≢ v) → 2 ≤ count n X
two-count n X u v lu lv mu mv uv = omega (arith, count-removed n X v lv mv, count-some n (without X v) u lu (without-from X v u mu uv))

-- three different nodes make it count three
pub three-count : (n : ℕ) (X : ℕ → Bool) (u v w : ℕ) → u < n → v < n → w < n → IsTrue (X u) → IsTrue (X v) → IsTrue (X w)
    → (u ≢ v) → (u ≢ w) → (v ≢ w) → 3 ≤ count n X
three-count n X u v w lu lv lw mu mv mw uv uw vw =
    omega (arith, count-removed n X w lw mw, two-count n (without X w) u v lu lv (without-from X w u mu uw) (without-from X w v mv vw) uv)

-- four different nodes make it count four
pub four-count : (n : ℕ) (X : ℕ → Bool) (u v w z : ℕ) → u < n → v < n → w < n → z < n → IsTrue (X u) → IsTrue (X v) → IsTrue (X w) → IsTrue (X z)
    → (u ≢ v) → (u ≢ w) → (u ≢ z) → (v ≢ w) → (v ≢ z) → (w ≢ z) → 4 ≤ count n X
four-count n X u v w z lu lv lw lz mu mv mw mz uv uw uz vw vz wz =
    omega (arith, count-removed n X z lz mz, three-count n (without X z) u v w lu lv lw (without-from X z u mu uz) (without-from X z v mv vz) (without-from X z w mw wz) uv uw vw)

-- a set whose nodes are among two numbers counts at most two
pub two-at-most : (n : ℕ) (X : ℕ → Bool) (a b : ℕ) → ((v : ℕ) → v < n → IsTrue (X v) → (v ≡ a) ⊎ (v ≡ b)) → count n X ≤ 2
two-at-most n X a b h =
    let none : count n (without (without X a) b) ≡ 0 = count-none n (without (without X a) b) (λ v l. elim (cases_Bool (without (without X a) b v)) [
      | inl m ↦ let p = without-parts (without X a) b v m in let q = without-parts X a v p.0 in
          absurd (elim (h v l q.0) [ inl e ↦ q.1 e | inr e ↦ p.1 e ])
      | inr out ↦ out
    ]) in
    omega (arith, none, count-without n X a, count-without n (without X a) b)
