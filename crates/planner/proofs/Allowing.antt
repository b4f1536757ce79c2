-- The nodes that are not barred identify exactly where some set that a choice allows does.
use Rattle.std.proofs.Common.{◌≡◌, ℕ, ◌<◌, not, nat_lt, Bool, List, arith, true, sym, ◌∙◌, subst, lt-ltb}
use mathlib.Core.Path.{fun_ext}
use Rattle.std.proofs.lemmas.Bool.{and_parts, and_from, not_from_false}
use Rattle.tomo_base.specs.Sets.{has, complement}
use Rattle.tomo_base.specs.Identify.{Identifies}
use Rattle.ident_laws.proofs.BadParts.{no_bad_part}
use Rattle.ident_laws.proofs.Boundary.{no_bad_part-wider}
use Rattle.cross_links.proofs.Identifying.{no_bad_part_identifies}
use Rattle.judge.specs.Verdict.{IsFoundBad}
use Rattle.topology.specs.Topology.{Topo, IsTopology}
use Rattle.topology.specs.declared.choice.Choice.{Choice}
use Rattle.planner.specs.Planned.{unbarred, IsImpossible}

module _ (t : Topo) (topo : IsTopology t) where
  -- a wider set identifies as well
  wider : (s w : ℕ → Bool) → ((v : ℕ) → v < t.graph.nodes → s v ≡ true → w v ≡ true) → Identifies t.graph s → Identifies t.graph w
  wider s w sub ident = no_bad_part_identifies t.graph topo.graph w
      (no_bad_part-wider t.graph s w sub (no_bad_part t.graph s topo.graph topo.connected (omega (arith, topo.some_nodes)) ident))

  -- where the nodes outside a set identify, so does all that is not in it
  pub all_outside : (choice : Choice) (free : List ℕ) → ((v : ℕ) → has free v ≡ unbarred t.graph choice v) → Identifies t.graph (has free) → Identifies t.graph (complement (has choice.not))
  all_outside choice free are = wider (has free) (complement (has choice.not)) (λ v l there. (and_parts (nat_lt v t.graph.nodes) (not (has choice.not v)) (sym (are v) ∙ there)).1)

  -- where they do not, no set that is allowed does
  pub impossible : (choice : Choice) (free bad : List ℕ) → ((v : ℕ) → has free v ≡ unbarred t.graph choice v) → IsFoundBad t.graph (has free) bad → IsImpossible t.graph choice bad
  impossible choice free bad are found = record {
    found = subst (λ s. IsFoundBad t.graph s bad) (fun_ext are) found;
    none = λ s allowed. found.unidentified (wider s (has free)
        (λ v l there. are v ∙ and_from (nat_lt v t.graph.nodes) (not (has choice.not v)) (lt-ltb v t.graph.nodes l) (not_from_false (has choice.not v) (allowed.free v l there))) allowed.good);
  }
