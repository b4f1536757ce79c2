-- Filling with the least nodes, inner sets first, keeps the number of monitors from every number up least.
use Rattle.std.proofs.Common.{◌≡◌, ℕ, ◌<◌, ◌≤◌, nat_lt, Bool, true, false, not, ◌&&◌, IsTrue, refl, arith, inl, inr, ◌⊎◌, lt-ltb, le-ltb}
use Rattle.std.proofs.lemmas.Bool.{cases_Bool, cases_lt, both_ways, and_parts, and_from, not-true, not_from_false}
use Rattle.tomo_base.specs.Network.{Network}
use Rattle.tomo_base.specs.Sets.{size, meet, minus, Within, Apart, IsInside}
use Rattle.tomo_base.proofs.Counts.{count-mono, find}
use Rattle.tomo_base.proofs.Parting.{minus-in, minus-out}
use Rattle.tomo_base.proofs.Picks.{count-split}
use Rattle.mmp_place.proofs.Short.{free, ask}
use Rattle.mmp_place.proofs.Additions.{IsFilling}

-- the numbers from h on
abbrev pub from : ℕ → ℕ → Bool
from h v = not (nat_lt v h)

-- the members from h on
abbrev pub high : ℕ → (ℕ → Bool) → ℕ → Bool
high h q v = q v && from h v

-- members from h on, in another set
high_mono : (g : Network) (h : ℕ) (p q : ℕ → Bool) → ((v : ℕ) → v < g.nodes → IsTrue (from h v) → IsTrue (p v) → IsTrue (q v)) → size g (high h p) ≤ size g (high h q)
high_mono g h p q sub = count-mono g.nodes (high h p) (high h q) (λ v l i. let o = and_parts (p v) (from h v) i in and_from (q v) (from h v) (sub v l o.1 o.0) o.1)

-- filling keeps the threshold of the set that is filled
filling_least : (g : Network) (f m w s : ℕ → Bool) (k : ℕ) → IsFilling g f k m w → k ≤ size g (meet s f)
    → (h : ℕ) → size g (high h (meet m f)) ≤ size g (high h (meet s f)) → size g (high h (meet w f)) ≤ size g (high h (meet s f))
filling_least g f m w s k filling meets h before =
    let new : ℕ → Bool = λ v. (w v && not (m v)) && from h v in
    elim (find g.nodes new) [
      | inl r ↦
          let v = r.0 in
          let p = and_parts (w v && not (m v)) (from h v) r.2 in
          let q = and_parts (w v) (not (m v)) p.0 in
          let out = not-true (m v) q.1 in
          -- below h all of the set is in
          let low : size g (minus (meet s f) (from h)) ≤ size g (minus (meet w f) (from h)) = count-mono g.nodes (minus (meet s f) (from h)) (minus (meet w f) (from h)) (λ u l i.
          let o = minus-out (meet s f) (from h) u i in
          let fu = (and_parts (s u) (f u) o.0).1 in
          minus-in (meet w f) (from h) u (and_from (w u) (f u) (filling.least v u q.0 out fu (below u v h o.1 p.1)) fu) o.1) in
          omega (arith, filling.exact v r.1 q.0 out, meets, low, count-split g.nodes (meet w f) (from h), count-split g.nodes (meet s f) (from h))
      | inr none ↦
          let same : size g (high h (meet w f)) ≤ size g (high h (meet m f)) = high_mono g h (meet w f) (meet m f) (λ u l hi i.
          let o = and_parts (w u) (f u) i in
          elim (cases_Bool (m u)) [
            | inl mu ↦ and_from (m u) (f u) mu o.1
            | inr mu ↦ absurd (both_ways (new u) (none u l) (and_from (w u && not (m u)) (from h u) (and_from (w u) (not (m u)) o.0 (not_from_false (m u) mu)) hi))
          ]) in
          omega (arith, before, same)
    ]
  where
    below : (u v h : ℕ) → from h u ≡ false → from h v ≡ true → u < v
    below u v h lo hi = elim (cases_lt u h) [
      | inl lu ↦ elim (cases_lt v h) [
        | inl lv ↦ absurd (both_ways (from h v) (rw (lt-ltb v h lv) refl) hi)
        | inr ge ↦ omega (arith, lu, ge)
      ]
      | inr ge ↦ absurd (both_ways (from h u) lo (rw (le-ltb u h ge) refl))
    ]

-- s has in each of the sets as many nodes as it asks for
abbrev pub MeetsAll : Network → ((ℕ → Bool) → Type 0) → (ℕ → Bool) → Type 0
MeetsAll g Done s = (x : ℕ → Bool) → Done x → ask g x ≤ size g (meet s (free g x))

-- the free nodes of each of the sets lie in u, or miss it
abbrev pub SuitsAll : Network → ((ℕ → Bool) → Type 0) → (ℕ → Bool) → Type 0
SuitsAll g Done u = (x : ℕ → Bool) → Done x → Within (free g x) u ⊎ Apart (free g x) u

-- in each set that suits, m has from every number up no more nodes than any set that has what is asked for
abbrev pub IsLeastIn : Network → (ℕ → Bool) → ((ℕ → Bool) → Type 0) → (ℕ → Bool) → Type 0
IsLeastIn g start Done m = (s : ℕ → Bool) → IsInside g start s → MeetsAll g Done s → (u : ℕ → Bool) → SuitsAll g Done u
    → (h : ℕ) → size g (high h (meet m u)) ≤ size g (high h (meet s u))

-- at first nothing is filled
pub least_start : (g : Network) (start : ℕ → Bool) → IsLeastIn g start (λ x. ⊥) start
least_start g start s inside meets u suits h = high_mono g h (meet start u) (meet s u) (λ v l hi i. let o = and_parts (start v) (u v) i in and_from (s v) (u v) (inside v l o.0) o.1)

-- what suits a set and u suits u without the set
suits_rest : (g : Network) (Done : (ℕ → Bool) → Type 0) (f u : ℕ → Bool) → SuitsAll g Done f → SuitsAll g Done u → SuitsAll g Done (minus u f)
suits_rest g Done f u in_f in_u x done = elim (in_f x done) [
  | inl sub ↦ inr (λ v i m. both_ways (f v) (minus-out u f v m).1 (sub v i))
  | inr off ↦ elim (in_u x done) [
    | inl su ↦ inl (λ v i. minus-in u f v (su v i) (elim (cases_Bool (f v)) [ inl m ↦ absurd (off v i m) | inr n ↦ n ]))
    | inr ou ↦ inr (λ v i m. ou v i (minus-out u f v m).0)
  ]
]

-- filling a set, with each earlier one inside or apart, keeps all thresholds least
pub least_fill : (g : Network) (start : ℕ → Bool) (Done : (ℕ → Bool) → Type 0) (x m w : ℕ → Bool) → IsLeastIn g start Done m
    → IsFilling g (free g x) (ask g x) m w → SuitsAll g Done (free g x) → IsLeastIn g start (λ y. Done y ⊎ (y ≡ x)) w
least_fill g start Done x m w least filling suits s inside meets u all h =
    let f : ℕ → Bool = free g x in
    let meets_old : MeetsAll g Done s = λ y done. meets y (inl done) in
    let suits_old : SuitsAll g Done u = λ y done. all y (inl done) in
    elim (all x (inr refl)) [
      | inr off ↦
          let same : size g (high h (meet w u)) ≤ size g (high h (meet m u)) = high_mono g h (meet w u) (meet m u) (λ v l hi i.
          let o = and_parts (w v) (u v) i in
          and_from (m v) (u v) (elim (cases_Bool (m v)) [ inl k ↦ k | inr n ↦ absurd (off v (filling.only v o.0 n) o.1) ]) o.1) in
          omega (arith, same, least s inside meets_old u suits_old h)
      | inl sub ↦
          let r : ℕ → Bool = minus u f in
          let in_w : size g (meet (high h (meet w u)) f) ≤ size g (high h (meet w f)) = count-mono g.nodes (meet (high h (meet w u)) f) (high h (meet w f)) (λ v l i.
          let o = and_parts (high h (meet w u) v) (f v) i in
          let p = and_parts (meet w u v) (from h v) o.0 in
          and_from (meet w f v) (from h v) (and_from (w v) (f v) (and_parts (w v) (u v) p.0).0 o.1) p.1) in
          let out_w : size g (minus (high h (meet w u)) f) ≤ size g (high h (meet m r)) = count-mono g.nodes (minus (high h (meet w u)) f) (high h (meet m r)) (λ v l i.
          let o = minus-out (high h (meet w u)) f v i in
          let p = and_parts (meet w u v) (from h v) o.0 in
          let q = and_parts (w v) (u v) p.0 in
          and_from (meet m r v) (from h v) (and_from (m v) (r v) (elim (cases_Bool (m v)) [
            | inl k ↦ k
            | inr n ↦ absurd (both_ways (f v) o.1 (filling.only v q.0 n))
          ]) (minus-in u f v q.1 o.1)) p.1) in
          let in_s : size g (high h (meet s f)) ≤ size g (meet (high h (meet s u)) f) = count-mono g.nodes (high h (meet s f)) (meet (high h (meet s u)) f) (λ v l i.
          let o = and_parts (meet s f v) (from h v) i in
          let p = and_parts (s v) (f v) o.0 in
          and_from (high h (meet s u) v) (f v) (and_from (meet s u v) (from h v) (and_from (s v) (u v) p.0 (sub v p.1)) o.1) p.1) in
          let out_s : size g (high h (meet s r)) ≤ size g (minus (high h (meet s u)) f) = count-mono g.nodes (high h (meet s r)) (minus (high h (meet s u)) f) (λ v l i.
          let o = and_parts (meet s r v) (from h v) i in
          let p = and_parts (s v) (r v) o.0 in
          let q = minus-out u f v p.1 in
          minus-in (high h (meet s u)) f v (and_from (meet s u v) (from h v) (and_from (s v) (u v) p.0 q.0) o.1) q.1) in
          omega (
            arith,
            in_w,
            out_w,
            in_s,
            out_s,
            count-split g.nodes (high h (meet w u)) f,
            count-split g.nodes (high h (meet s u)) f,
            least s inside meets_old r (suits_rest g Done f u suits suits_old) h,
            filling_least g f m w s (ask g x) filling (meets x (inr refl)) h (least s inside meets_old f suits h),
          )
    ]
