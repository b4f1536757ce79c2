use Rattle.std.proofs.Common.{◌≡◌, ◌∙◌, ◌||◌, ◌==◌, ℕ, length, true, ap, arith, inl, inr, sym, subst, IsTrue, length-set}
use Rattle.std.proofs.lemmas.Bool.{or_cases, eqb-true}
use Rattle.tomo_base.specs.Sets.{has}
use Rattle.tomo_base.specs.Search.{mark_of}
use Rattle.gate_search.proofs.Marks.{mark_more}
use Rattle.blocks.proofs.Filtering.{has-marked, IsSetBelow-filter}
use Rattle.blocks.proofs.block_list.put_off.Goals as goal

pub marked_nodes-requires : goal.marked_nodes-requires
marked_nodes-requires c =
    let size : length c.in_ok-inside.inside.items ≡ c.args.g.now.nodes = c.in_ok-inside.ensures.length ∙ c.nodes.ensures.nodes in
    λ k e l. omega (arith, c.requires.part.below k e l, ap length c.deref.ensures.value, length-set c.in_ok-inside.inside.items c.args.d true, size)

pub returns-clause-part : goal.returns-clause-part
returns-clause-part c =
    let d = c.args.d in
    let inside = c.in_ok-inside.inside.items in
    let marks = c.deref.result.now in
    let size : length inside ≡ c.args.g.now.nodes = c.in_ok-inside.ensures.length ∙ c.nodes.ensures.nodes in
    let are : (v : ℕ) → mark_of marks v ≡ (has c.args.side.now v || (v == d)) = λ v. ap (λ xs. mark_of xs v) c.deref.ensures.value
    ∙ (mark_more inside d v (omega (arith, size, c.requires.node)) ∙ ap (λ b. b || (v == d)) (c.in_ok-inside.ensures.marks v)) in
    let within : (v : ℕ) → IsTrue (mark_of marks v) → IsTrue (has c.args.part.now v) = λ v h. elim (or_cases (has c.args.side.now v) (v == d) (sym (are v) ∙ h)) [
      | inl here ↦ c.requires.inside v here
      | inr same ↦ subst (λ z. IsTrue (has c.args.part.now z)) (sym (eqb-true v d same)) c.requires.cut
    ] in
    record {
      part = c.in_ok-marked_nodes.field-0;
      pushed = c.in_ok-push.ensures.items;
      set = rw c.in_ok-marked_nodes.ensures (IsSetBelow-filter c.args.g.now.nodes (mark_of marks) c.args.part.now c.requires.part);
      nodes = λ v. rw c.in_ok-marked_nodes.ensures (has-marked marks c.args.part.now within v ∙ are v);
    }
