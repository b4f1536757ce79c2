use Rattle.std.proofs.Common.{◌≡◌, ◌+◌, ◌-◌, ◌%◌, ◌<◌, [], true, length, get_or, sym, ap, subst, ◌∙◌, arith}
use Rattle.std.specs.List.{list_any}
use Rattle.std.proofs.lemmas.Result.{IfOk-weaker}
use Rattle.tomo_base.specs.Sets.{has}
use Rattle.tomo_base.specs.Walks.{end_of}
use Rattle.simple_path.specs.Pools.{nodes_in}
use Rattle.unit_flow.specs.Flows.{later_of}
use Rattle.cross_links.specs.CrossRecipe.{IsCrossRecipe}
use Rattle.cross_links.specs.Joining.{four_terms, term_paths}
use Rattle.cross_links.specs.Ways.{freely}
use Rattle.cross_links.proofs.Recipes.{IsPlain, plain_link, FirstFlow, SecondFlow, some_over, keeps, keeps_read, second_read, ends_as, some_end, end_node, MakesRecipe, makes_read, turns}
use Rattle.cross_links.proofs.Ways.{whole_at}
use Rattle.cross_links.proofs.Naming.{names_recipe}
use Rattle.cross_links.proofs.crossing.between_others.Goals.{In_ok-ways, In_ok-others, In_ok-led}
use Rattle.cross_links.proofs.crossing.between_others.Goals as goal

-- the link
link : (c : In_ok-ways) → IsPlain c.args.g.now (has c.args.m.now) c.args.v c.args.w
link c = plain_link c.args.g.now c.args.m.now c.args.v c.args.w c.requires.link c.requires.plain_neighbour

-- the first flow
first : (c : In_ok-ways) → FirstFlow c.args.g.now (has c.args.m.now) c.args.v c.args.w c.in_ok-ways.ways
first c = record { flow = c.in_ok-ways.ensures.flow; three = c.in_ok-ways.ensures.three; over = c.in_ok-ways.ensures.over }

pub path_with-i-requires : goal.path_with-i-requires
path_with-i-requires c = let at = (goal.at.path_with-i-requires c).In_ok-ways in some_over c.args.g.now (has c.args.m.now) c.args.v c.args.w (link at) c.in_ok-ways.ways (first at)

pub second_ways-requires-clause-kept : goal.second_ways-requires-clause-kept
second_ways-requires-clause-kept c =
    let at = (goal.at.second_ways-requires-clause-kept c).In_ok-ways in
    let ps = c.in_ok-ways.ways in
    let i = c.path_with-i.result in
    keeps_read c.args.g.now (has c.args.m.now) c.args.v (get_or ps i []) (get_or ps ((i + 1) % 3) []) (get_or ps ((i + 2) % 3) []) c.path-kept.result.now c.path-b.result.now c.path-c.result.now c.path-kept.ensures c.path-b.ensures c.path-c.ensures
    (keeps c.args.g.now (has c.args.m.now) c.args.v c.args.w (link at) ps (first at) i c.path_with-i.ensures.inside c.path_with-i.ensures.holds)

-- the second flow
second : (c : In_ok-others) → SecondFlow c.args.g.now (has c.args.m.now) c.args.v c.args.w (later_of (later_of (get_or c.in_ok-ways.ways c.path_with-i.result [])))
    (later_of (get_or c.in_ok-ways.ways ((c.path_with-i.result + 1) % 3) [])) (later_of (get_or c.in_ok-ways.ways ((c.path_with-i.result + 2) % 3) [])) c.in_ok-others.others
second c =
    let link = plain_link c.args.g.now c.args.m.now c.args.v c.args.w c.requires.link c.requires.plain_neighbour in
    let first : FirstFlow c.args.g.now (has c.args.m.now) c.args.v c.args.w c.in_ok-ways.ways = record { flow = c.in_ok-ways.ensures.flow; three = c.in_ok-ways.ensures.three; over = c.in_ok-ways.ensures.over } in
    second_read c.args.g.now (has c.args.m.now) c.args.v c.args.w link c.in_ok-ways.ways first c.path_with-i.result c.path_with-i.ensures.inside c.path_with-i.ensures.holds
    c.path-kept.result.now c.path-b.result.now c.path-c.result.now c.path-kept.ensures c.path-b.ensures c.path-c.ensures c.in_ok-others.others c.in_ok-others.ensures.flow c.in_ok-others.ensures.two c.in_ok-others.ensures.end

-- where the way ends that is kept
kept_end : (c : In_ok-others) → get_or c.path-kept.result.now (length c.path-kept.result.now - 1) 0 ≡ end_of c.args.w (later_of (later_of (get_or c.in_ok-ways.ways c.path_with-i.result [])))
kept_end c =
    let link = plain_link c.args.g.now c.args.m.now c.args.v c.args.w c.requires.link c.requires.plain_neighbour in
    let first : FirstFlow c.args.g.now (has c.args.m.now) c.args.v c.args.w c.in_ok-ways.ways = record { flow = c.in_ok-ways.ensures.flow; three = c.in_ok-ways.ensures.three; over = c.in_ok-ways.ensures.over } in
    end_node (freely c.args.g.now (has c.args.m.now) c.args.v) c.in_ok-ways.ways c.path_with-i.result c.path-kept.result.now c.in_ok-ways.ensures.flow c.path_with-i.ensures.inside c.path-kept.ensures
    ∙ ends_as c.args.g.now (has c.args.m.now) c.args.v c.args.w link c.in_ok-ways.ways first c.path_with-i.result c.path_with-i.ensures.inside c.path_with-i.ensures.holds

pub path_with-j-requires : goal.path_with-j-requires
path_with-j-requires c =
    let at = (goal.at.path_with-j-requires c).In_ok-others in
    let link = plain_link c.args.g.now c.args.m.now c.args.v c.args.w c.requires.link c.requires.plain_neighbour in
    subst (λ e. list_any (λ q. has q e) c.in_ok-others.others ≡ true) (sym (kept_end at))
    (some_end c.args.g.now (has c.args.m.now) c.args.v c.args.w link (later_of (later_of (get_or c.in_ok-ways.ways c.path_with-i.result []))) (later_of (get_or c.in_ok-ways.ways ((c.path_with-i.result + 1) % 3) []))
    (later_of (get_or c.in_ok-ways.ways ((c.path_with-i.result + 2) % 3) [])) c.in_ok-others.others (second at))

-- the terms of the four paths
makes : (c : In_ok-led) →
    SecondFlow c.args.g.now (has c.args.m.now) c.args.v c.args.w (later_of (later_of (get_or c.in_ok-ways.ways c.path_with-i.result [])))
    (later_of (get_or c.in_ok-ways.ways ((c.path_with-i.result + 1) % 3) [])) (later_of (get_or c.in_ok-ways.ways ((c.path_with-i.result + 2) % 3) [])) c.in_ok-others.others →
    get_or c.path-kept.result.now (length c.path-kept.result.now - 1) 0 ≡ end_of c.args.w (later_of (later_of (get_or c.in_ok-ways.ways c.path_with-i.result []))) →
    MakesRecipe c.args.g.now (has c.args.m.now) c.args.v c.args.w 4 (four_terms c.met_first.result.0.now c.met_first.result.1.now c.path-straight.result.now c.in_ok-led.led.items)
makes c second end =
    let link = plain_link c.args.g.now c.args.m.now c.args.v c.args.w c.requires.link c.requires.plain_neighbour in
    let ps = c.in_ok-ways.ways in
    let i = c.path_with-i.result in
    let inside : i < 3 = omega (arith, c.path_with-i.ensures.inside, c.in_ok-ways.ensures.three) in
    let t = freely c.args.g.now (has c.args.m.now) c.args.v in
    let at = turns i inside in
    makes_read c.args.g.now (has c.args.m.now) c.args.v c.args.w link (later_of (later_of (get_or ps i []))) (later_of (get_or ps ((i + 1) % 3) [])) (later_of (get_or ps ((i + 2) % 3) [])) c.in_ok-others.others second
    c.path_with-j.result c.path_with-j.ensures.inside (get_or c.path-kept.result.now (length c.path-kept.result.now - 1) 0) end c.path_with-j.ensures.holds
    c.path-b.result.now c.path-c.result.now c.path-straight.result.now c.path-way.result.now c.met_first.result.0.now c.met_first.result.1.now c.in_ok-led.led.items
    (c.path-b.ensures ∙ whole_at t ps c.in_ok-ways.ensures.flow ((i + 1) % 3) [] (omega (arith, at.3, c.in_ok-ways.ensures.three)))
    (c.path-c.ensures ∙ whole_at t ps c.in_ok-ways.ensures.flow ((i + 2) % 3) [] (omega (arith, at.4, c.in_ok-ways.ensures.three)))
    c.path-straight.ensures c.path-way.ensures c.met_first.ensures c.in_ok-led.ensures

pub four_paths-requires-clause-room : goal.four_paths-requires-clause-room
four_paths-requires-clause-room c =
    let before = (goal.at.four_paths-requires-clause-room c).In_ok-others in
    let made = makes (goal.at.four_paths-requires-clause-room c).In_ok-led (second before) (kept_end before) in
    let same : c.deref.result.now ≡ c.in_ok-led.led.items = c.deref.ensures.value in
    omega (arith, made.room, ap (λ d. nodes_in (term_paths (four_terms c.met_first.result.0.now c.met_first.result.1.now c.path-straight.result.now d))) same, c.requires.room)

pub returns-clause-ok : goal.returns-clause-ok
returns-clause-ok c =
    let before = (goal.at.returns-clause-ok c).In_ok-others in
    let made = makes (goal.at.returns-clause-ok c).In_ok-led (second before) (kept_end before) in
    IfOk-weaker c.four_paths.result _ _ (λ r names i at.
    names_recipe c.args.g.now (has c.args.m.now) i c.args.pool.now c.four_paths.new.pool r (four_terms c.met_first.result.0.now c.met_first.result.1.now c.path-straight.result.now c.deref.result.now) c.requires.link.graph names
    (subst (λ d. IsCrossRecipe c.args.g.now (has c.args.m.now) i (four_terms c.met_first.result.0.now c.met_first.result.1.now c.path-straight.result.now d)) (sym c.deref.ensures.value)
    (made.recipe i at))) c.four_paths.ensures.ok
