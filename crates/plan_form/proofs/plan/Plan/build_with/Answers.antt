use Rattle.std.proofs.Common.{◌≡◌, [], ap, ◌∙◌, arith, get_or}
use Rattle.tomo_base.specs.Network.{Network}
use Rattle.tomo_base.specs.Sets.{has}
use Rattle.plan_form.proofs.Built.{good_paths, good_recipe}
use Rattle.plan_form.proofs.Formed.{made_formed}
use Rattle.plan_form.proofs.plan.Plan.build_with.Goals as goal

pub invariant_of-result : goal.invariant_of-result
invariant_of-result c =
    let topology = c.graph.ensures.topology in
    let links : c.in_ok-to_vec.field-0.items ≡ c.args.t.now.graph.links = c.in_ok-to_vec.ensures.items_if_clones_equal (λ x y e. e) ∙ (c.links.ensures.links ∙ ap (λ (g : Network). g.links) c.graph.ensures.graph) in
    let forced : c.in_ok-to_vec-2.field-0.items ≡ c.args.choice.now.must = c.in_ok-to_vec-2.ensures.items_if_clones_equal (λ x y e. e) ∙ c.as_slice.ensures.nodes in
    let barred : c.in_ok-to_vec-3.field-0.items ≡ c.args.choice.now.not = c.in_ok-to_vec-3.ensures.items_if_clones_equal (λ x y e. e) ∙ c.as_slice-2.ensures.nodes in
    let monitors : c.in_ok-to_vec-4.field-0.items ≡ c.args.m.now = c.in_ok-to_vec-4.ensures.items_if_clones_equal (λ x y e. e) ∙ c.as_slice-3.ensures.nodes in
    made_formed c.args.t.now (has c.args.m.now) c.args.pool.now c.args.recipes.now c.args.pockets.now c.in_ok-copy_names.field-0 c.in_ok-to_vec.field-0.items c.in_ok-to_vec-2.field-0.items c.in_ok-to_vec-3.field-0.items c.in_ok-to_vec-4.field-0.items
    c.in_ok-copy_pockets.field-0.items c.in_ok-arranged.arranged.paths c.in_ok-arranged.arranged.recipes topology c.requires.parts c.in_ok-copy_names.ensures links
    (rw forced (λ k d l. omega (arith, c.as_slice.ensures.below k d l))) (rw barred (λ k d l. omega (arith, c.as_slice-2.ensures.below k d l))) (rw monitors (λ k d l. omega (arith, c.as_slice-3.ensures.below k d l)))
    c.requires.filled c.in_ok-copy_pockets.ensures.parts c.in_ok-copy_pockets.ensures.small c.in_ok-copy_pockets.ensures.few c.in_ok-arranged.ensures.built c.in_ok-arranged.ensures.few_paths c.in_ok-arranged.ensures.few_recipes

pub returns : goal.returns
returns c =
    let pool = c.args.pool.now in
    let old = c.args.recipes.now in
    let paths = c.in_ok-arranged.arranged.paths in
    let topology = c.graph.ensures.topology in
    let links : c.in_ok-to_vec.field-0.items ≡ c.args.t.now.graph.links = c.in_ok-to_vec.ensures.items_if_clones_equal (λ x y e. e) ∙ (c.links.ensures.links ∙ ap (λ (g : Network). g.links) c.graph.ensures.graph) in
    let forced : c.in_ok-to_vec-2.field-0.items ≡ c.args.choice.now.must = c.in_ok-to_vec-2.ensures.items_if_clones_equal (λ x y e. e) ∙ c.as_slice.ensures.nodes in
    let barred : c.in_ok-to_vec-3.field-0.items ≡ c.args.choice.now.not = c.in_ok-to_vec-3.ensures.items_if_clones_equal (λ x y e. e) ∙ c.as_slice-2.ensures.nodes in
    let monitors : c.in_ok-to_vec-4.field-0.items ≡ c.args.m.now = c.in_ok-to_vec-4.ensures.items_if_clones_equal (λ x y e. e) ∙ c.as_slice-3.ensures.nodes in
    let is = c.in_ok-arranged.ensures.built in
    record {
      formed =
          made_formed c.args.t.now (has c.args.m.now) c.args.pool.now c.args.recipes.now c.args.pockets.now c.in_ok-copy_names.field-0 c.in_ok-to_vec.field-0.items c.in_ok-to_vec-2.field-0.items c.in_ok-to_vec-3.field-0.items c.in_ok-to_vec-4.field-0.items
          c.in_ok-copy_pockets.field-0.items c.in_ok-arranged.arranged.paths c.in_ok-arranged.arranged.recipes topology c.requires.parts c.in_ok-copy_names.ensures links
          (rw forced (λ k d l. omega (arith, c.as_slice.ensures.below k d l))) (rw barred (λ k d l. omega (arith, c.as_slice-2.ensures.below k d l))) (rw monitors (λ k d l. omega (arith, c.as_slice-3.ensures.below k d l)))
          c.requires.filled c.in_ok-copy_pockets.ensures.parts c.in_ok-copy_pockets.ensures.small c.in_ok-copy_pockets.ensures.few c.in_ok-arranged.ensures.built c.in_ok-arranged.ensures.few_paths c.in_ok-arranged.ensures.few_recipes;
      names = c.in_ok-copy_names.ensures;
      links = links;
      forced = forced;
      barred = barred;
      monitors = monitors;
      pockets = c.in_ok-copy_pockets.ensures.parts;
      built = is;
      few = c.in_ok-arranged.ensures.count;
      paths = good_paths c.args.t.now.graph (has c.args.m.now) pool old paths c.in_ok-arranged.arranged.recipes c.requires.parts.paths is;
      recipes = λ i l recipe. good_recipe c.args.t.now.graph i pool paths (get_or old i []) (get_or c.in_ok-arranged.arranged.recipes i []) (is.recipes i l) recipe;
    }
