-- Sets that are cut at single nodes: what is joined in a set and in one cut out of it, and the nodes at which was cut.
use Rattle.std.proofs.Common.{◌≡◌, ◌≢◌, ℕ, Bool, false, ◌==◌, List, [], ◌∷◌, IsTrue, refl, sym, ◌∙◌, inl, inr, subst}
use Rattle.std.proofs.lemmas.Bool.{cases_Bool, both_ways, or_cases, or_left, or_right, eqb-true, eq-eqb, false_from_ne_true}
use Rattle.tomo_base.specs.Network.{Network}
use Rattle.tomo_base.specs.Sets.{without, Within}
use Rattle.tomo_base.specs.Parting.{with_one, without_two, AreJoinedIn, IsJoinedIn}
use Rattle.tomo_base.proofs.Parting.{without-from, without-parts, without-twice, without-once, minus-in, minus-out, joined-more, joined-at, joined-same}
use Rattle.blocks.specs.Cutting.{OneOwner, AreCuts}
use Rattle.gate_search.proofs.Cutting.{Cut}
use Rattle.blocks.proofs.CutSets.{rest, side-in}
use Rattle.blocks.proofs.Unparted.{block-parted}

-- what is joined in a set without a node is joined in a smaller set without it, where each node outside that has one owner in it
pub kept_joined : (N : Network) (V T S : ℕ → Bool) → OneOwner N V S → Within S T → Within T V → (c x y : ℕ) → IsTrue (without S c x) → IsTrue (S y) → AreJoinedIn N (without T c) x y → AreJoinedIn N (without S c) x y
kept_joined N V T S o st tv c x y ix iy h =
    joined-more N (without_two S c c) (without S c) (without-once S c) x y
    (block-parted N N T S o.own st (λ u v iu iv l. l) (λ d e td nd te ne l. o.same d e (tv d td) nd (tv e te) ne l) (λ d z td nd bz l. o.touch d z (tv d td) nd bz l)
    x y c c (without-twice S c x ix) iy (joined-more N (without T c) (without_two T c c) (without-twice T c) x y h))

-- two sides that stay connected without a node, other than the one that they share, make a set that stays so
sides_joined : (N : Network) (S : ℕ → Bool) (w : ℕ) (K : ℕ → Bool) (v : ℕ) → Cut N S w K → w ≢ v → IsJoinedIn N (without (with_one K w) v) → IsJoinedIn N (without (with_one (rest S w K) w) v) → IsJoinedIn N (without S v)
sides_joined N S w K v cut ne near far =
    let R : ℕ → Bool = rest S w K in
    let sub : Within (with_one K w) S = side-in N S w K cut in
    let sub_far : Within (with_one R w) S = λ x m. elim (or_cases (R x) (x == w) m) [
      | inl r ↦ (without-parts S w x (out S w K x r)).0
      | inr e ↦ subst (λ z. IsTrue (S z)) (sym (eqb-true x w e)) cut.at
    ] in
    let here : IsTrue (with_one K w w) = or_right (K w) (w == w) (eq-eqb w w refl) in
    let here_far : IsTrue (with_one R w w) = or_right (R w) (w == w) (eq-eqb w w refl) in
    joined-at N (without S v) w (without-from S v w cut.at ne) (λ x m.
    let p = without-parts S v x m in
    elim (cases_Bool (with_one K w x)) [
      | inl k ↦ joined-more N (without (with_one K w) v) (without S v) (wider (with_one K w) S v sub) w x (near w x (without-from (with_one K w) v w here ne) (without-from (with_one K w) v x k p.1))
      | inr k ↦
          let off : K x ≡ false = false_from_ne_true (K x) (λ i. both_ways (with_one K w x) k (or_left (K x) (x == w) i)) in
          let other : x ≢ w = λ e. both_ways (with_one K w x) k (or_right (K x) (x == w) (eq-eqb x w e)) in
          let r : IsTrue (with_one R w x) = or_left (R x) (x == w) (minus-in (without S w) K x (without-from S w x p.0 other) off) in
          joined-more N (without (with_one R w) v) (without S v) (wider (with_one R w) S v sub_far) w x (far w x (without-from (with_one R w) v w here_far ne) (without-from (with_one R w) v x r p.1))
    ])
  where
    wider : (A B : ℕ → Bool) (v : ℕ) → Within A B → Within (without A v) (without B v)
    wider A B v s x m = let p = without-parts A v x m in without-from B v x (s x p.0) p.1

    out : (S : ℕ → Bool) (w : ℕ) (K : ℕ → Bool) (x : ℕ) → IsTrue (rest S w K x) → IsTrue (without S w x)
    out S w K x r = (minus-out (without S w) K x r).0

-- at first there was no cut
pub cuts_none : (N : Network) (V cuts : ℕ → Bool) → ((v : ℕ) → cuts v ≡ false) → AreCuts N V (V ∷ []) [] cuts
cuts_none N V cuts none = record {
  sound = λ v t. absurd (both_ways (cuts v) (none v) t);
  complete = λ v f todo out. todo.0;
}

-- one cut more
pub cuts_more : (N : Network) (V S : ℕ → Bool) (w : ℕ) (K : ℕ → Bool) (todo out : List (ℕ → Bool)) (old new : ℕ → Bool) → OneOwner N V S → Within S V → Cut N S w K → ((v : ℕ) → new v ≡ with_one old w v)
    → AreCuts N V (S ∷ todo) out old → AreCuts N V (with_one K w ∷ (with_one (rest S w K) w ∷ todo)) out new
cuts_more N V S w K todo out old new o sv cut are c = record {
  sound = λ v t firm. elim (or_cases (old v) (v == w) (sym (are v) ∙ t)) [
    | inl h ↦ c.sound v h firm
    | inr e ↦
        let same : v ≡ w = eqb-true v w e in
        let there = without-parts S w cut.there cut.there_in in
        let in_v : (x : ℕ) → IsTrue (without S w x) → IsTrue (without V w x) = λ x m. let p = without-parts S w x m in without-from V w x (sv x p.0) p.1 in
        let joined : AreJoinedIn N (without V w) cut.here cut.there = subst (λ z. IsJoinedIn N (without V z)) same firm cut.here cut.there (in_v cut.here (cut.inner cut.here cut.here_in)) (in_v cut.there cut.there_in) in
        both_ways (K cut.there) cut.there_off (kept_joined N V V S o sv (λ x m. m) w cut.here cut.there (cut.inner cut.here cut.here_in) there.0 joined K cut.shut cut.here_in)
  ];
  complete = λ v f t h.
      let off : old v ≡ false = false_from_ne_true (old v) (λ i. both_ways (new v) f (are v ∙ or_left (old v) (v == w) i)) in
      let ne : w ≢ v = λ e. both_ways (new v) f (are v ∙ or_right (old v) (v == w) (eq-eqb v w (sym e))) in
      c.complete v off (sides_joined N S w K v cut ne t.0 t.1.0, t.1.1) h;
}

-- a set that no node cuts is ready
pub cuts_ready : (N : Network) (V S : ℕ → Bool) (todo out : List (ℕ → Bool)) (cuts : ℕ → Bool) → AreCuts N V (S ∷ todo) out cuts → AreCuts N V todo (S ∷ out) cuts
cuts_ready N V S todo out cuts c = record {
  sound = c.sound;
  complete = λ v f t h. c.complete v f (h.0, t) h.1;
}

-- the first two may change places
pub cuts_swap : (N : Network) (V A B : ℕ → Bool) (todo out : List (ℕ → Bool)) (cuts : ℕ → Bool) → AreCuts N V (A ∷ (B ∷ todo)) out cuts → AreCuts N V (B ∷ (A ∷ todo)) out cuts
cuts_swap N V A B todo out cuts c = record {
  sound = c.sound;
  complete = λ v f t h. c.complete v f (t.1.0, (t.0, t.1.1)) h;
}

-- sets with the same nodes may stand for each other
pub cuts_same : (N : Network) (V A B : ℕ → Bool) (todo out : List (ℕ → Bool)) (cuts : ℕ → Bool) → Within A B → Within B A → AreCuts N V (A ∷ todo) out cuts → AreCuts N V (B ∷ todo) out cuts
cuts_same N V A B todo out cuts ab ba c = record {
  sound = c.sound;
  complete = λ v f t h. c.complete v f (joined-same N (without B v) (without A v) (fewer B A v ba) (fewer A B v ab) t.0, t.1) h;
}
  where
    fewer : (P Q : ℕ → Bool) (v : ℕ) → Within P Q → Within (without P v) (without Q v)
    fewer P Q v s x m = let p = without-parts P v x m in without-from Q v x (s x p.0) p.1
