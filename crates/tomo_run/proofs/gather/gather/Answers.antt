use Rattle.std.proofs.Common.{◌∙◌, sym, ap, refl, arith, Ok, Err}
use Rattle.std.proofs.lemmas.List.{append-nil}
use Rattle.outside.specs.Shelf.{Gives}
use Rattle.tomo_run.specs.Table.{file_words}
use Rattle.answers.specs.FileKinds.{limit}
use Rattle.tomo_run.specs.Machine.{start, kind_of}
use Rattle.tomo_run.proofs.Shape.{file_place, file_count, files_few, first_low, start_fit, files_fit}
use Rattle.tomo_run.proofs.Gathering.{taken_none, fronts_before, taken_leads, turn_below, turn_named, turn_asks, reading_first, reading_more, reading_ends, asks_all, asked_more, knows_at, gives_wanted, within_wanted}
use Rattle.tomo_run.proofs.gather.gather.Goals as goal

pub loop-content-init : goal.loop-content-init
loop-content-init g c = record {
  reading = reading_first (g.S.Shelf.told c.args.shelf.now) (file_words c.args.words.now) (start c.args.shape) (g.S.Shelf.asked c.args.shelf.now) c.in-Ask.wants (sym c.in-Ask.ensures.first)
      (c.in-Ask.ensures.count.0 ∙ sym (file_count c.args.words.now c.args.shape c.requires)) c.in-Ask.ensures.count.1;
  told = refl;
  sure = refl;
  later = omega arith;
}

pub returns-in-Stop-clause-stops : goal.returns-in-Stop-clause-stops
returns-in-Stop-clause-stops g c =
    (fronts_before (g.S.Shelf.told c.args.shelf.now) (file_words c.args.words.now) (start c.args.shape) (start c.args.shape) 0 _ _ (taken_none _ _ _ _ refl) (sym (append-nil _))).1

pub returns-in-Stop-clause-leads : goal.returns-in-Stop-clause-leads
returns-in-Stop-clause-leads g c = taken_leads (g.S.Shelf.told c.args.shelf.now) (file_words c.args.words.now) (start c.args.shape) 0 c.in-Stop.end (taken_none _ _ _ _ (sym c.in-Stop.ensures.first))

pub returns-in-Stop-clause-fit : goal.returns-in-Stop-clause-fit
returns-in-Stop-clause-fit g c = start_fit c.args.words.now c.args.shape c.in-Stop.end c.requires c.in-Stop.ensures.first

pub returns-in-Ok-Stop-clause-fit : goal.returns-in-Ok-Stop-clause-fit
returns-in-Ok-Stop-clause-fit g c = files_fit _ c.in-Ok-Stop.end (rw c.in-Ok-Stop.field-0-is at c.in-Ok-Stop.ensures.fewer)

pub overflow_add-first : goal.overflow_add-first
overflow_add-first g c =
    let below = turn_below _ _ _ _ _ _ _ c.loop-content.invariant.reading in
    omega (arith, below, file_count c.args.words.now c.args.shape c.requires, files_few c.args.shape.command, c.first-first.ensures, first_low c.args.shape.header)

pub overflow_add-turn : goal.overflow_add-turn
overflow_add-turn g c =
    let below = turn_below _ _ _ _ _ _ _ c.loop-content.invariant.reading in
    omega (arith, below, file_count c.args.words.now c.args.shape c.requires, files_few c.args.shape.command)

pub at-name-requires : goal.at-name-requires
at-name-requires g c =
    rw c.first-first.ensures (file_place c.args.words.now c.args.shape c.loop-content.turn c.requires (turn_below _ _ _ _ _ _ _ c.loop-content.invariant.reading))

pub feed-requires : goal.feed-requires
feed-requires g c = within_wanted _ c.at-name.result.now c.loop-content.wants c.kind.result c.limit_of.result c.in_ok-got.got c.read.new.out.items c.kind.ensures c.limit_of.ensures c.in_ok-got.ensures.gives

pub returns-in_err-got-clause-asked : goal.returns-in_err-got-clause-asked
returns-in_err-got-clause-asked g c = (turn_asks _ c.args.words.now c.args.shape _ _ _ c.first-first.result c.loop-content.turn c.loop-content.wants c.at-name.result.now c.read.result c.requires c.loop-content.invariant.reading c.first-first.ensures c.at-name.ensures c.read.ensures.asks).0

pub returns-in_err-got-clause-stops : goal.returns-in_err-got-clause-stops
returns-in_err-got-clause-stops g c = (turn_asks _ c.args.words.now c.args.shape _ _ _ c.first-first.result c.loop-content.turn c.loop-content.wants c.at-name.result.now c.read.result c.requires c.loop-content.invariant.reading c.first-first.ensures c.at-name.ensures c.read.ensures.asks).1

pub returns-in-Ok-Stop-clause-asked : goal.returns-in-Ok-Stop-clause-asked
returns-in-Ok-Stop-clause-asked g c = (turn_asks _ c.args.words.now c.args.shape _ _ _ c.first-first.result c.loop-content.turn c.loop-content.wants c.at-name.result.now c.read.result c.requires c.loop-content.invariant.reading c.first-first.ensures c.at-name.ensures c.read.ensures.asks).0

pub returns-in-Ok-Stop-clause-stops : goal.returns-in-Ok-Stop-clause-stops
returns-in-Ok-Stop-clause-stops g c = (turn_asks _ c.args.words.now c.args.shape _ _ _ c.first-first.result c.loop-content.turn c.loop-content.wants c.at-name.result.now c.read.result c.requires c.loop-content.invariant.reading c.first-first.ensures c.at-name.ensures c.read.ensures.asks).1

pub returns-in-Err-clause-asked : goal.returns-in-Err-clause-asked
returns-in-Err-clause-asked g c = (turn_asks _ c.args.words.now c.args.shape _ _ _ c.first-first.result c.loop-content.turn c.loop-content.wants c.at-name.result.now c.read.result c.requires c.loop-content.invariant.reading c.first-first.ensures c.at-name.ensures c.read.ensures.asks).0

pub returns-in-Err-clause-stops : goal.returns-in-Err-clause-stops
returns-in-Err-clause-stops g c = (turn_asks _ c.args.words.now c.args.shape _ _ _ c.first-first.result c.loop-content.turn c.loop-content.wants c.at-name.result.now c.read.result c.requires c.loop-content.invariant.reading c.first-first.ensures c.at-name.ensures c.read.ensures.asks).1

pub returns-in_err-got-clause-sure : goal.returns-in_err-got-clause-sure
returns-in_err-got-clause-sure g c is_sure knows failed =
    let here = c.loop-content.invariant in
    let below = turn_below _ _ _ _ _ _ _ here.reading in
    let name = turn_named _ c.args.words.now c.args.shape _ _ c.first-first.result c.loop-content.turn c.loop-content.wants c.at-name.result.now c.requires here.reading c.first-first.ensures c.at-name.ensures in
    let known = rw (← name, ← here.told) at (knows_at (g.S.Shelf.told c.args.shelf.now) (file_words c.args.words.now) c.loop-content.turn knows below) in
    let came = rw failed at c.from_residual.ensures.1 in
    (c.read.ensures.honest (rw here.sure is_sure) known).0 (c.in_err-got.was ∙ ap Err (sym came))

pub returns-in-Ok-Stop-clause-all_asked : goal.returns-in-Ok-Stop-clause-all_asked
returns-in-Ok-Stop-clause-all_asked g c =
    let here = c.loop-content.invariant in
    let below = turn_below _ _ _ _ _ _ _ here.reading in
    let name = turn_named _ c.args.words.now c.args.shape _ _ c.first-first.result c.loop-content.turn c.loop-content.wants c.at-name.result.now c.requires here.reading c.first-first.ensures c.at-name.ensures in
    asks_all _ _ (file_words c.args.words.now) c.loop-content.turn c.loop-content.wants c.in-Ok-Stop.end (rw c.in-Ok-Stop.field-0-is at c.in-Ok-Stop.ensures.fewer) here.reading.left
    (asked_more (file_words c.args.words.now) c.loop-content.turn c.at-name.result.now _ _ _ below name here.reading.so_far c.in_ok-got.ensures.asks)

pub returns-in-Ok-Stop-clause-leads : goal.returns-in-Ok-Stop-clause-leads
returns-in-Ok-Stop-clause-leads g c =
    let here = c.loop-content.invariant in
    let name = turn_named _ c.args.words.now c.args.shape _ _ c.first-first.result c.loop-content.turn c.loop-content.wants c.at-name.result.now c.requires here.reading c.first-first.ensures c.at-name.ensures in
    let gives : Gives (g.S.Shelf.told c.args.shelf.now) c.at-name.result.now (limit (kind_of c.loop-content.wants)) (Ok c.in_ok-got.got) c.read.new.out.items =
    gives_wanted _ _ c.at-name.result.now c.loop-content.wants c.kind.result c.limit_of.result c.in_ok-got.got c.read.new.out.items here.told c.kind.ensures c.limit_of.ensures c.in_ok-got.ensures.gives in
    let steps = rw c.in-Ok-Stop.field-0-is at (c.in-Ok-Stop.ensures.steps (g.S.Shelf.told c.args.shelf.now) gives) in
    reading_ends (g.S.Shelf.told c.args.shelf.now) (file_words c.args.words.now) (start c.args.shape) _ _ c.loop-content.turn c.loop-content.wants c.at-name.result.now c.in-Ok-Stop.end here.reading name steps

pub loop-content-preserved : goal.loop-content-preserved
loop-content-preserved g c =
    let here = c.loop-content.invariant in
    let name = turn_named _ c.args.words.now c.args.shape _ _ c.first-first.result c.loop-content.turn c.loop-content.wants c.at-name.result.now c.requires here.reading c.first-first.ensures c.at-name.ensures in
    let gives : Gives (g.S.Shelf.told c.args.shelf.now) c.at-name.result.now (limit (kind_of c.loop-content.wants)) (Ok c.in_ok-got.got) c.read.new.out.items =
    gives_wanted _ _ c.at-name.result.now c.loop-content.wants c.kind.result c.limit_of.result c.in_ok-got.got c.read.new.out.items here.told c.kind.ensures c.limit_of.ensures c.in_ok-got.ensures.gives in
    let steps = rw c.in-Ok-Ask.field-0-is at (c.in-Ok-Ask.ensures.steps (g.S.Shelf.told c.args.shelf.now) gives) in
    let fewer = rw c.in-Ok-Ask.field-0-is at c.in-Ok-Ask.ensures.fewer in
    record {
      reading = reading_more (g.S.Shelf.told c.args.shelf.now) (file_words c.args.words.now) (start c.args.shape) _ _ _ c.loop-content.turn c.loop-content.wants c.in-Ok-Ask.later c.at-name.result.now here.reading name c.in_ok-got.ensures.asks fewer steps;
      told = c.read.ensures.told ∙ here.told;
      sure = c.read.ensures.sure ∙ here.sure;
      later = omega (arith, here.later, c.read.ensures.later);
    }
