use Rattle.std.proofs.Common.{◌≡◌, ◌<◌, length, slice_index_or, sym, subst, arith}
use Rattle.tomo_base.specs.declared.graph.Link.{Link}
use Rattle.tomo_base.specs.Sets.{has}
use Rattle.tomo_base.specs.Table.{JoinsAt}
use Rattle.tomo_base.proofs.Rows.{any_joins-from}
use Rattle.ident_laws.proofs.BadParts.{no_bad_part}
use Rattle.tomo_base.proofs.Places.{joins_own}
use Rattle.cross_links.proofs.crossing.recipe.Goals.{After-links}
use Rattle.cross_links.proofs.crossing.recipe.Goals as goal

-- the link joins the ends that are read
joins : (c : After-links) → let l : Link = slice_index_or c.links.result.now c.args.link (record { a = 0; b = 0 }) in JoinsAt c.args.g.now.links c.args.link l.a l.b
joins c =
    let same : c.links.result.now ≡ c.args.g.now.links = c.links.ensures.links in
    let d : Link = record { a = 0; b = 0 } in
    let l : Link = slice_index_or c.links.result.now c.args.link d in
    subst (λ ls. JoinsAt ls c.args.link l.a l.b) same (joins_own c.links.result.now c.args.link d (subst (λ ls. c.args.link < length ls) (sym same) c.requires.link))

pub between-requires-clause-linked : goal.between-requires-clause-linked
between-requires-clause-linked c =
    let l : Link = slice_index_or c.links.result.now c.args.link (record { a = 0; b = 0 }) in
    any_joins-from c.args.g.now.links c.args.link l.a l.b (joins (goal.at.between-requires-clause-linked c).After-links)

pub between-requires-clause-none : goal.between-requires-clause-none
between-requires-clause-none c = no_bad_part c.args.g.now (has c.args.m.now) c.links.ensures.graph c.requires.connected (omega (arith, c.requires.three)) c.requires.identifies

pub returns-in-Ok-clause-ok : goal.returns-in-Ok-clause-ok
returns-in-Ok-clause-ok c = c.in-Ok.ensures.ok c.args.link (joins (goal.at.returns-in-Ok-clause-ok c).After-links)
