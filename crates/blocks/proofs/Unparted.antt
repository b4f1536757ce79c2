-- two nodes of a block are unparted in the block exactly where they are in the whole graph
use Rattle.std.proofs.Common.{◌≡◌, ◌≢◌, ℕ, ◌<◌, Bool, true, false, ◌&&◌, ◌||◌, IsTrue, sym, subst, inl, inr}
use Rattle.std.proofs.lemmas.Bool.{cases_Bool, both_ways, and_parts, and_from, or_cases, or_left, or_right}
use Rattle.tomo_base.specs.Network.{Network, linked}
use Rattle.tomo_base.specs.Sets.{minus, Within}
use Rattle.tomo_base.proofs.Links.{linked_comm}
use Rattle.tomo_base.specs.Parting.{without_two, IsClosedIn, AreJoinedIn, IsJoinedIn}
use Rattle.tomo_base.proofs.Parting.{without_two-mono, without_two-in, without_two-to, without_two-from, minus-in, minus-out, flip, joined-more}
use Rattle.blocks.proofs.CutSets.{Block}
use Rattle.blocks.proofs.Cutting.{block-owner}

-- no two other numbers part x from y in B
abbrev pub Unparted : Network → (ℕ → Bool) → ℕ → ℕ → Type 0
Unparted G B x y = (c d : ℕ) → (c ≢ x) → (c ≢ y) → (d ≢ x) → (d ≢ y) → AreJoinedIn G (without_two B c d) x y

-- no two nodes of T are parted in B
abbrev pub Pairwise : Network → (ℕ → Bool) → (ℕ → Bool) → Type 0
Pairwise G B T = (x y : ℕ) → IsTrue (T x) → IsTrue (T y) → (x ≢ y) → Unparted G B x y

-- unparted in the graph is unparted in a block, where every node outside the block has one owner in it
pub block-parted : (G N : Network) (V B : ℕ → Bool) (o : ℕ → ℕ) → Within B V
    → ((u v : ℕ) → IsTrue (B u) → IsTrue (B v) → linked G u v ≡ true → linked N u v ≡ true)
    → ((d e : ℕ) → IsTrue (V d) → B d ≡ false → IsTrue (V e) → B e ≡ false → linked G d e ≡ true → o d ≡ o e)
    → ((d x : ℕ) → IsTrue (V d) → B d ≡ false → IsTrue (B x) → linked G d x ≡ true → o d ≡ x)
    → (x y c d : ℕ) → IsTrue (without_two B c d x) → IsTrue (B y) → AreJoinedIn G (without_two V c d) x y → AreJoinedIn N (without_two B c d) x y
block-parted G N V B o bv keep same touch x y c d ix iy t X h mx =
    let S : ℕ → Bool = λ v. X v && without_two B c d v in
    let Y : ℕ → Bool = λ v. S v || (minus V B v && S (o v)) in
    let cl : IsClosedIn G (without_two V c d) Y = λ u v m l iv.
    let vv = without_two-in V c d v iv in
    elim (cases_Bool (B v)) [
      | inl bv' ↦
          let jv = without_two-to B V c d v iv bv' in
          or_left (S v) (minus V B v && S (o v)) (elim (or_cases (S u) (minus V B u && S (o u)) m) [
            | inl su ↦ let p = and_parts (X u) (without_two B c d u) su in
                and_from (X v) (without_two B c d v) (h u v p.0 (keep u v (without_two-in B c d u p.1) bv' l) jv) jv
            | inr r ↦ let p = and_parts (minus V B u) (S (o u)) r in let q = minus-out V B u p.0 in
                subst (λ z. IsTrue (S z)) (touch u v q.0 q.1 bv' l) p.1
          ])
      | inr nv ↦ or_right (S v) (minus V B v && S (o v)) (and_from (minus V B v) (S (o v)) (minus-in V B v vv nv)
          (elim (or_cases (S u) (minus V B u && S (o u)) m) [
            | inl su ↦ let p = and_parts (X u) (without_two B c d u) su in
                subst (λ z. IsTrue (S z)) (sym (touch v u vv nv (without_two-in B c d u p.1) (linked_comm G u v l))) su
            | inr r ↦ let p = and_parts (minus V B u) (S (o u)) r in let q = minus-out V B u p.0 in
                subst (λ z. IsTrue (S z)) (same u v q.0 q.1 vv nv l) p.1
          ]))
    ] in
    elim (or_cases (S y) (minus V B y && S (o y)) (t Y cl (or_left (S x) (minus V B x && S (o x)) (and_from (X x) (without_two B c d x) mx ix)))) [
      | inl sy ↦ (and_parts (X y) (without_two B c d y) sy).0
      | inr r ↦ absurd (both_ways (B y) ((minus-out V B y (and_parts (minus V B y) (S (o y)) r).0).1) iy)
    ]

-- unparted in the graph: unparted in the block
pub unparted-block : (N : Network) (n : ℕ) (V : ℕ → Bool) → ((v : ℕ) → IsTrue (V v) → v < n) → IsJoinedIn N V → (B : ℕ → Bool) → Block N n V B
    → (x y : ℕ) → IsTrue (B x) → IsTrue (B y) → Unparted N V x y → Unparted N B x y
unparted-block N n V bound firm B b x y bx by h c d cx cy dx dy =
    let o = block-owner N n V bound firm B b in
    block-parted N N V B o.own b.inside (λ u v iu iv l. l) o.same o.touch x y c d (without_two-from B c d x bx (flip cx) (flip dx)) by (h c d cx cy dx dy)

-- unparted in the block: unparted in the graph
pub unparted-graph : (N : Network) (n : ℕ) (V B : ℕ → Bool) → Block N n V B → (x y : ℕ) → Unparted N B x y → Unparted N V x y
unparted-graph N n V B b x y h c d cx cy dx dy = joined-more N (without_two B c d) (without_two V c d) (without_two-mono B V c d b.inside) x y (h c d cx cy dx dy)
