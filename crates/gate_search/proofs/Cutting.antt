-- What a search that met one gate alone, or none, tells of the set.
use Rattle.std.proofs.Common.{◌≡◌, ◌≢◌, ℕ, Bool, true, false, List, IsTrue, sym, inl, inr, arith, subst}
use Rattle.std.proofs.lemmas.Bool.{cases_Bool, both_ways, false_from_ne_true}
use Rattle.tomo_base.specs.Network.{Network, linked, IsGraph}
use Rattle.tomo_base.specs.Sets.{has, without, Within}
use Rattle.tomo_base.specs.Search.{mark_of}
use Rattle.tomo_base.specs.Parting.{AreJoinedIn, IsClosedIn}
use Rattle.tomo_base.proofs.Links.{linked_below, linked_comm}
use Rattle.tomo_base.proofs.Ascending.{place_in}
use Rattle.tomo_base.proofs.Parting.{without-from, without-parts}
use Rattle.gate_search.specs.Stops.{IsGateSearch, IsGateless}
use Rattle.gate_search.specs.Advancing.{IsGrown, HasOneGate}
use Rattle.gate_search.specs.declared.search.GateSearch.{GateSearch}
use Rattle.gate_search.proofs.Trees.{free_in, first_in, order_closed}

-- a set cut at its node w: K is one side
pub record Cut (g : Network) (S : ℕ → Bool) (w : ℕ) (K : ℕ → Bool) : Type 0 where
  pub at : IsTrue (S w)
  pub inner : Within K (without S w)
  pub shut : IsClosedIn g (without S w) K
  pub here : ℕ
  pub here_in : IsTrue (K here)
  pub there : ℕ
  pub there_in : IsTrue (without S w there)
  pub there_off : K there ≡ false

-- a search without gates has come to all that is joined to its start
pub gateless_reaches : (g : Network) (w : ℕ → Bool) (free : List Bool) (s : GateSearch) (x y : ℕ) → IsGraph g → IsGateSearch g free s → IsGateless g w (mark_of free) s x → AreJoinedIn g w x y → mark_of free y ≡ true
gateless_reaches g w free s x y graph is end joined =
    free_in g free s.start s.head s.found graph is.search y
    (joined (has s.found.order.items) (λ u v m link t. elim (cases_Bool (mark_of free v)) [
      | inl f ↦ order_closed g free s.start s.head s.found graph is.search end.all u v m link f
      | inr out ↦
          let at = place_in s.found.order.items u m in
          let node = (linked_below g.nodes g.links u v graph link).1 in
          absurd (elim (end.passed at.0 (omega (arith, at.1, end.all)) v (subst (λ z. IsTrue (linked g z v)) (sym at.2) link) t out) [ inl e ↦ omega (arith, node, e) | inr e ↦ omega (arith, node, e) ])
    ]) (subst (λ z. IsTrue (has s.found.order.items z)) end.start (first_in g free s.start s.head s.found graph is.search)))

-- the one node to which gates lead cuts off what the search has reached
pub cut_off : (g : Network) (base : ℕ → Bool) (root : ℕ) (w : ℕ → Bool) (free : List Bool) (s : GateSearch) (d : ℕ) → IsGraph g → HasOneGate g w free s d → IsGrown g base root w (mark_of free) → Cut g w d (has s.found.order.items)
cut_off g base root w free s d graph off h =
    let K : ℕ → Bool = has s.found.order.items in
    let is_free : Within K (mark_of free) = λ v m. free_in g free s.start s.head s.found graph off.search.search v m in
    let start : IsTrue (K s.start) = first_in g free s.start s.head s.found graph off.search.search in
    let differs : (v : ℕ) → IsTrue (K v) → v ≢ d = λ v m e. both_ways (mark_of free d) off.gate.not_free (subst (λ z. mark_of free z ≡ true) e (is_free v m)) in
    let root_other : root ≢ d = λ e. both_ways (mark_of free s.start)
    (h.near s.start (linked_comm g s.start root (subst (λ z. IsTrue (linked g s.start z)) (sym e) off.gate.linked)) (h.free_in s.start (is_free s.start start))) (is_free s.start start) in
    record {
      at = off.gate.in_set;
      inner = λ v m. without-from w d v (h.free_in v (is_free v m)) (differs v m);
      shut = λ u v m link t.
          let p = without-parts w d v t in
          elim (cases_Bool (mark_of free v)) [
            | inl f ↦ order_closed g free s.start s.head s.found graph off.search.search off.all u v m link f
            | inr out ↦
                let at = place_in s.found.order.items u m in
                absurd (p.1 (elim (off.passed at.0 (omega (arith, at.1, off.all)) v (subst (λ z. IsTrue (linked g z v)) (sym at.2) link) p.0 out) [ inl e ↦ e | inr e ↦ e ]))
          ];
      here = s.start;
      here_in = start;
      there = root;
      there_in = without-from w d root h.root_in root_other;
      there_off = false_from_ne_true (K root) (λ m. both_ways (mark_of free root) h.root_held (is_free root m));
    }
