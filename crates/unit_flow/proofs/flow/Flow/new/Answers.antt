use Rattle.std.proofs.Common.{◌≡◌, ℕ, [], ◌∷◌, ◌++◌, List, length, ap, ap₂, ◌∙◌, arith}
use Rattle.std.proofs.lemmas.List.{length-replicate}
use Rattle.tomo_base.specs.declared.graph.Link.{Link}
use Rattle.tomo_base.specs.Network.{Network}
use Rattle.unit_flow.specs.declared.ask.Ask.{Ask}
use Rattle.unit_flow.specs.Search.{IsAsked}
use Rattle.unit_flow.proofs.Kept.{kept_new}
use Rattle.unit_flow.proofs.flow.Flow.new.Goals as goal

pub invariant_of-result : goal.invariant_of-result
invariant_of-result c =
    let g = c.args.g.now in
    let a : Ask = record { source = c.args.source; targets = c.in_ok-marks.field-0; banned = c.in_ok-marks-2.field-0 } in
    let network : ℕ → List Link → Network = λ n ls. record { nodes = n; links = ls } in
    let same : network c.nodes-count.result c.in_ok-to_vec.field-0.items ≡ g = ap₂ network c.nodes-count.ensures.nodes (c.in_ok-to_vec.ensures.items_if_clones_equal (λ x y h. h) ∙ c.links.ensures.links) in
    let is : IsAsked g a = record {
      task = record {
        graph = c.nodes-count.ensures.graph;
        below = c.requires.source;
        no_target = c.in_ok-marks.ensures.marks c.args.source ∙ c.requires.no_target;
        no_banned = c.in_ok-marks-2.ensures.marks c.args.source ∙ c.requires.no_banned;
      };
      few = omega (arith, c.nodes-count.ensures.nodes, c.nodes-count.ensures.few);
      targets = c.in_ok-marks.ensures.size ∙ c.nodes-count.ensures.nodes;
      banned = c.in_ok-marks-2.ensures.size ∙ c.nodes-count.ensures.nodes;
    } in
    let room = c.in_ok-vec.field-0 in
    let one : c.push.new.self.items ≡ room ∷ [] = c.in_ok-push.ensures.items ∙ ap (λ z. z ++ room ∷ []) c.new-paths.ensures.items in
    let long : length room.items ≡ g.nodes = ap (λ z. length z) (c.in_ok-vec.ensures.items_if_clones_equal (λ y h. h)) ∙ length-replicate c.nodes-count.result 0 ∙ c.nodes-count.ensures.nodes in
    rw (same, one, c.in_ok-copy.ensures, c.in_ok-copy-2.ensures) (kept_new g a c.args.targets.now c.args.banned.now room is c.in_ok-marks.ensures.marks c.in_ok-marks-2.ensures.marks long)
