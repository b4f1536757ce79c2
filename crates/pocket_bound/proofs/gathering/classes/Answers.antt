use Rattle.std.proofs.Common.{◌≡◌, ◌++◌, ◌∷◌, [], arith, rules, true≢false, sym, ◌∙◌}
use Rattle.std.proofs.lemmas.List.{map-append, length-append}
use Rattle.std.proofs.lemmas.List.Elements.{All-push}
use Rattle.tomo_base.specs.Pockets.{need_of}
use Rattle.tomo_base.specs.Sets.{has}
use Rattle.tomo_base.specs.declared.pocket.Pocket.{Pocket}
use Rattle.pocket_bound.specs.Classes.{sets_of}
use Rattle.pocket_bound.proofs.Gathered.{class_filled, class_nodes, class_first, is_class, classes_more, classes_same}
use Rattle.pocket_bound.proofs.gathering.classes.Goals as goal
use Rattle.pocket_bound.proofs.gathering.classes.Goals.{then-is_first+in_ok-nodes+in_ok-map_err, else-is_first}

pub need-need-requires-clause-filled : goal.need-need-requires-clause-filled
need-need-requires-clause-filled c = class_filled c.args.labels.now c.loop-v.v c.in_ok-nodes.nodes (c.is_first.ensures.0 c.if-is_first.true) c.in_ok-nodes.ensures.ascending c.in_ok-nodes.ensures.same

pub need-need-requires-clause-nodes : goal.need-need-requires-clause-nodes
need-need-requires-clause-nodes c = rw (c.requires) at (class_nodes c.args.labels.now c.loop-v.v c.in_ok-nodes.nodes (c.is_first.ensures.0 c.if-is_first.true) c.in_ok-nodes.ensures.ascending c.in_ok-nodes.ensures.same)

pub loop-v-preserved : goal.loop-v-preserved
loop-v-preserved c = elim c.if-is_first.branch [
  | then-is_first+in_ok-nodes+in_ok-map_err w ↦
      let labels = c.args.labels.now in
      let v = c.loop-v.v in
      let nodes = w.in_ok-nodes.nodes in
      let pocket : Pocket = record { nodes = nodes; need = w.need-need.result } in
      let pushed : w.push.new.self ≡ c.loop-v.pockets ++ pocket ∷ [] = search rules in
      let first = c.is_first.ensures.0 w.if-is_first.true in
      rw (w.pockets-is, pushed) (record {
        classes = rw (map-append (λ k. k.nodes) c.loop-v.pockets (pocket ∷ [])) (classes_more labels v (sets_of c.loop-v.pockets) nodes c.loop-v.invariant.classes
            (is_class labels v nodes first w.in_ok-nodes.ensures.ascending w.in_ok-nodes.ensures.same) (class_first labels v nodes first w.in_ok-nodes.ensures.ascending w.in_ok-nodes.ensures.same));
        needs = All-push (λ k. k.need ≡ need_of c.args.g.now (has k.nodes)) c.loop-v.pockets pocket c.loop-v.invariant.needs w.need-need.ensures;
        few = omega (arith, length-append c.loop-v.pockets (pocket ∷ []), c.loop-v.invariant.few);
      })
  | else-is_first w ↦ rw w.pockets-is (record {
    classes = classes_same c.args.labels.now c.loop-v.v (sets_of c.loop-v.pockets) c.loop-v.invariant.classes (λ first. true≢false (sym (c.is_first.ensures.1 first) ∙ w.if-is_first.false));
    needs = c.loop-v.invariant.needs;
    few = omega (arith, c.loop-v.invariant.few);
  })
]
