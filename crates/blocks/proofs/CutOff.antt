-- What is left of a set where a side of it is cut off; and where all of a set are held, no node cuts it.
use Rattle.std.proofs.Common.{◌≡◌, ◌≢◌, ℕ, Bool, false, not, ◌==◌, List, IsTrue, sym, ◌∙◌, inl, inr, subst}
use Rattle.std.proofs.lemmas.Bool.{cases_eq, both_ways, or_cases, or_left, or_right, and_left, eqb-true, eq-eqb, false_from_ne_true}
use Rattle.tomo_base.specs.Network.{Network, linked, IsGraph}
use Rattle.tomo_base.specs.Sets.{has, without, minus, Within}
use Rattle.tomo_base.specs.Walks.{IsConnectedIn, everything}
use Rattle.tomo_base.specs.Parting.{with_one, AreJoinedIn, IsJoinedIn, IsJoinedWithoutOne}
use Rattle.tomo_base.proofs.Links.{linked_below}
use Rattle.tomo_base.proofs.Parting.{without-from, without-parts, minus-in, minus-out, joined-at, joined-each}
use Rattle.tomo_base.proofs.Reaching.{is_node, is_node-from, is_node_below, connected-joined}
use Rattle.gate_search.specs.Advancing.{IsGrown}
use Rattle.gate_search.proofs.Cutting.{Cut}
use Rattle.blocks.specs.Sides.{AreSides}
use Rattle.blocks.specs.Cutting.{Rough}
use Rattle.blocks.proofs.CutSets.{rest}
use Rattle.blocks.proofs.CuttingAt.{kept_joined}

-- what is held stays held where free nodes are cut off
pub grown_less : (g : Network) (base : ℕ → Bool) (root : ℕ) (w free w' free' K : ℕ → Bool) → Within K free → ((v : ℕ) → w' v ≡ minus w K v) → ((v : ℕ) → free' v ≡ minus free K v) → IsGrown g base root w free → IsGrown g base root w' free'
grown_less g base root w free w' free' K inside ws frees h = record {
  in_base = λ v t. h.in_base v (minus-out w K v (sym (ws v) ∙ t)).0;
  root_in = ws root ∙ minus-in w K root h.root_in (false_from_ne_true (K root) (λ m. both_ways (free root) h.root_held (inside root m)));
  root_held = frees root ∙ and_left (free root) (not (K root)) h.root_held;
  free_in = λ v t. let p = minus-out free K v (sym (frees v) ∙ t) in ws v ∙ minus-in w K v (h.free_in v p.0) p.1;
  near = λ v l t. frees v ∙ and_left (free v) (not (K v)) (h.near v l (minus-out w K v (sym (ws v) ∙ t)).0);
  joined = λ c v rc vc t f.
      let p = minus-out w K v (sym (ws v) ∙ t) in
      h.joined c v rc vc p.0 (false_from_ne_true (free v) (λ i. both_ways (free' v) f (frees v ∙ minus-in free K v i p.1)));
}

-- what is left of the set without the side, and with its node
pub rest_is : (w w' K : ℕ → Bool) (d : ℕ) (g : Network) → Cut g w d K → ((v : ℕ) → w' v ≡ minus w K v) → Within (with_one (rest w d K) d) w' × Within w' (with_one (rest w d K) d)
rest_is w w' K d g cut ws = (
  (λ v m. elim (or_cases (rest w d K v) (v == d) m) [
    | inl r ↦ let p = minus-out (without w d) K v r in ws v ∙ minus-in w K v (without-parts w d v p.0).0 p.1
    | inr e ↦
        let same : v ≡ d = eqb-true v d e in
        ws v ∙ minus-in w K v (subst (λ z. IsTrue (w z)) (sym same) cut.at) (false_from_ne_true (K v) (λ k. (without-parts w d v (cut.inner v k)).1 same))
  ]),
  (λ v t.
      let p = minus-out w K v (sym (ws v) ∙ t) in
      elim (cases_eq v d) [
        | inl e ↦ or_right (rest w d K v) (v == d) (eq-eqb v d e)
        | inr ne ↦ or_left (rest w d K v) (v == d) (minus-in (without w d) K v (without-from w d v p.0 ne) p.1)
      ]),
)

-- a set of which all are held, cut out of one that the root does not cut
pub all_held : (g : Network) (root : ℕ) (w free T : ℕ → Bool) → IsGraph g → Rough g g.nodes (is_node g) w → IsGrown g everything root w free → ((v : ℕ) → IsTrue (w v) → free v ≡ false) → Within w T → Within T (is_node g)
    → IsConnectedIn g (without T root) → IsJoinedWithoutOne g w
all_held g root w free T graph rough h held wt tv whole =
    let V : ℕ → Bool = is_node g in
    let firm : IsJoinedIn g (without T root) = connected-joined g (without T root) (λ v m. is_node_below g v (tv v (without-parts T root v m).0)) whole in
    let in_graph : (c v : ℕ) → AreJoinedIn g (without everything c) root v → AreJoinedIn g (without V c) root v = λ c v joined X closed x.
    joined X (λ a b m link t. closed a b m link (without-from V c b (is_node-from g b (linked_below g.nodes g.links a b graph link).1) (without-parts everything c b t).1)) x in
    joined-each g w rough.firm (λ c m. elim (cases_eq c root) [
      | inl same ↦ subst (λ z. IsJoinedIn g (without w z)) (sym same) (λ a b ia ib.
          let pa = without-parts w root a ia in
          let pb = without-parts w root b ib in
          kept_joined g V T w rough.owner wt tv root a b ia pb.0 (firm a b (without-from T root a (wt a pa.0) pa.1) (without-from T root b (wt b pb.0) pb.1)))
      | inr other ↦
          let here : IsTrue (without w c root) = without-from w c root h.root_in (λ e. other (sym e)) in
          joined-at g (without w c) root here (λ v i.
          let p = without-parts w c v i in
          kept_joined g V V w rough.owner rough.inside (λ x k. k) c root v here p.0 (in_graph c v (h.joined c v other p.1 p.0 (held v p.0))))
    ])

-- the two sides of a set are what a node cuts it into
pub sides_cut : (g : Network) (nodes : List ℕ) (c : ℕ) (near far : List ℕ) → AreSides g nodes c near far
    → let K = without (has near) c in Cut g (has nodes) c K × Within (with_one K c) (has near) × Within (has near) (with_one K c) × Within (with_one (rest (has nodes) c K) c) (has far) × Within (has far) (with_one (rest (has nodes) c K) c)
sides_cut g nodes c near far sides =
    let S : ℕ → Bool = has nodes in
    let A : ℕ → Bool = has near in
    let B : ℕ → Bool = has far in
    let K : ℕ → Bool = without A c in
    let R : ℕ → Bool = rest S c K in
    let off : (v : ℕ) → IsTrue (B v) → v ≢ c → K v ≡ false = λ v b ne. false_from_ne_true (K v) (λ k. ne (sides.shared v (without-parts A c v k).0 b)) in (
      record {
        at = sides.cut_in;
        inner = λ v m. let q = without-parts A c v m in without-from S c v (sides.near_in v q.0) q.1;
        shut = λ u v m link iv.
            let q = without-parts A c u m in
            let i = without-parts S c v iv in
            elim (sides.cover v i.0) [ inl a ↦ without-from A c v a i.1 | inr b ↦ absurd (both_ways (linked g u v) (sides.parted u v q.0 q.1 b i.1) link) ];
        here = sides.near_more.0;
        here_in = without-from A c sides.near_more.0 sides.near_more.1 sides.near_more.2;
        there = sides.far_more.0;
        there_in = without-from S c sides.far_more.0 (sides.far_in sides.far_more.0 sides.far_more.1) sides.far_more.2;
        there_off = off sides.far_more.0 sides.far_more.1 sides.far_more.2;
      },
      (λ v m. elim (or_cases (K v) (v == c) m) [ inl k ↦ (without-parts A c v k).0 | inr e ↦ subst (λ z. IsTrue (A z)) (sym (eqb-true v c e)) sides.near_cut ]),
      (λ v m. elim (cases_eq v c) [ inl e ↦ or_right (K v) (v == c) (eq-eqb v c e) | inr ne ↦ or_left (K v) (v == c) (without-from A c v m ne) ]),
      (λ v m. elim (or_cases (R v) (v == c) m) [
        | inr e ↦ subst (λ z. IsTrue (B z)) (sym (eqb-true v c e)) sides.far_cut
        | inl r ↦
            let o = minus-out (without S c) K v r in
            let i = without-parts S c v o.0 in
            elim (sides.cover v i.0) [ inr b ↦ b | inl a ↦ absurd (both_ways (K v) o.1 (without-from A c v a i.1)) ]
      ]),
      (λ v m. elim (cases_eq v c) [
        | inl e ↦ or_right (R v) (v == c) (eq-eqb v c e)
        | inr ne ↦ or_left (R v) (v == c) (minus-in (without S c) K v (without-from S c v (sides.far_in v m) ne) (off v m ne))
      ]),
    )
