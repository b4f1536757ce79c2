use Rattle.std.proofs.Common.{◌≡◌, ◌<◌, ◌+◌, [], length, take, ap, ◌∙◌, arith, take_all}
use Rattle.tomo_base.specs.Sets.{has}
use Rattle.tomo_base.specs.Pockets.{need_of, needs_of}
use Rattle.plan_form.specs.Parts.{PlanPocket}
use Rattle.plan_form.specs.Good.{pocket_sets}
use Rattle.cert_check.specs.Faults.{pocket_at}
use Rattle.cert_check.proofs.Wholes.{needs_more, needs_front, good_identify, good_bound, bound_within, monitors_few, shown}
use Rattle.std.proofs.lemmas.Option.{slice_get-get_or}
use Rattle.cert_check.proofs.checking.good_report.Goals as goal

-- one need more
added : (c : goal.After-pocket_need-bound) → c.loop-i.bound + c.pocket_need-bound.result ≡ length c.args.p.now.forced + needs_of c.args.t.now.graph (pocket_sets (take (c.loop-i.i + 1) c.args.p.now.pockets))
added c =
    let pockets = c.args.p.now.pockets in
    let none : PlanPocket = record { need = 0; nodes = [] } in
    let here : c.loop-i.i < length pockets = omega (arith, c.loop-i-test.true, c.pocket_count-i-end.ensures.count) in
    let need : c.pocket_need-bound.result ≡ need_of c.args.t.now.graph (has (pocket_at pockets c.loop-i.i).nodes) =
    c.pocket_need-bound.ensures _ (slice_get-get_or pockets c.loop-i.i none here) ∙ (c.requires.pockets.each c.loop-i.i none here).need in
    omega (arith, c.loop-i.invariant, need, needs_more c.args.t.now.graph pockets c.loop-i.i here)

pub overflow_cast-bound : goal.overflow_cast-bound
overflow_cast-bound c =
    let t = c.args.t.now in
    let long : length c.forced.result.now ≡ length c.args.p.now.forced = ap (λ xs. length xs) c.forced.ensures.forced in
    omega (arith, long, bound_within t c.args.p.now c.graph-graph.ensures.topology c.forced.ensures.formed c.requires, monitors_few t c.args.p.now c.graph-graph.ensures.topology c.requires)

pub loop-i-init : goal.loop-i-init
loop-i-init c = omega (arith, ap (λ xs. length xs) c.forced.ensures.forced)

pub overflow_add-bound : goal.overflow_add-bound
overflow_add-bound c =
    let t = c.args.t.now in
    omega (arith, added c, needs_front t.graph c.args.p.now.pockets (c.loop-i.i + 1), bound_within t c.args.p.now c.graph-graph.ensures.topology c.pocket_count-i-end.ensures.formed c.requires, monitors_few t c.args.p.now c.graph-graph.ensures.topology c.requires)

pub loop-i-preserved : goal.loop-i-preserved
loop-i-preserved c = added c

pub overflow_cast-result : goal.overflow_cast-result
overflow_cast-result c =
    let long : length c.monitors.result.now ≡ length c.args.p.now.monitors = ap (λ xs. length xs) c.monitors.ensures.monitors in
    omega (arith, long, monitors_few c.args.t.now c.args.p.now c.graph-graph.ensures.topology c.requires)

pub returns : goal.returns
returns c =
    let g = c.args.t.now.graph in
    let p = c.args.p.now in
    let topology = c.graph-graph.ensures.topology in
    let formed = c.pocket_count-i-end.ensures.formed in
    let all : take c.loop-i.i p.pockets ≡ p.pockets = take_all c.loop-i.i p.pockets (omega (arith, c.loop-i-test.false, c.pocket_count-i-end.ensures.count)) in
    let bound : c.loop-i.bound ≡ shown g p = c.loop-i.invariant ∙ ap (λ ps. length p.forced + needs_of g (pocket_sets ps)) all in
    let monitors : length c.monitors.result.now ≡ length p.monitors = ap (λ xs. length xs) c.monitors.ensures.monitors in
    record {
      good = c.requires;
      monitors_are = monitors;
      bound_is = bound;
      within = rw (bound, monitors) (bound_within c.args.t.now p topology formed c.requires);
      identified = (good_identify g p c.requires.paths c.requires.recipes).0;
      least = λ s other inside. rw bound (good_bound c.args.t.now p topology formed c.requires s other inside);
    }
