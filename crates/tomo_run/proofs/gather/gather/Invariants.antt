use Rattle.std.proofs.Common.{◌≡◌, ◌≤◌}
use Rattle.tomo_run.specs.Table.{file_words}
use Rattle.tomo_run.specs.Machine.{start, files_left}
use Rattle.tomo_run.proofs.Gathering.{Reading}
use Rattle.tomo_run.proofs.gather.gather.Given as goal

abbrev pub invariant-loop-content : goal.invariant-loop-content
invariant-loop-content g l = record {
  reading : Reading (g.S.Shelf.told l.initial.shelf) (file_words l.words) (start l.fn.shape) (g.S.Shelf.asked l.initial.shelf) (g.S.Shelf.asked l.shelf) l.turn l.wants;
  told : g.S.Shelf.told l.shelf ≡ g.S.Shelf.told l.initial.shelf;
  sure : g.S.Shelf.sure l.shelf ≡ g.S.Shelf.sure l.initial.shelf;
  later : g.S.Shelf.faults l.initial.shelf ≤ g.S.Shelf.faults l.shelf;
}

-- each turn leaves one file fewer
abbrev pub decreases-loop-content : goal.decreases-loop-content
decreases-loop-content g l = files_left l.wants
