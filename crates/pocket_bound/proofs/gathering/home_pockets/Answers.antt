use Rattle.std.proofs.Common.{sym}
use Rattle.std.proofs.lemmas.Result.{IfOk-weaker}
use Rattle.tomo_base.specs.Sets.{has}
use Rattle.ident_laws.proofs.Labels.{end}
use Rattle.pocket_bound.specs.Classes.{sets_of}
use Rattle.pocket_bound.proofs.Gathered.{classes_filled, classes_are_pockets}
use Rattle.pocket_bound.proofs.gathering.home_pockets.Goals as goal

pub returns-clause-homes : goal.returns-clause-homes
returns-clause-homes c = IfOk-weaker c.classes.result _ _ (λ pockets are.
    classes_are_pockets c.args.g.now (has c.args.m.now) (has c.args.must.now) _ c.deref.result.now (sets_of pockets) end (rw (sym c.deref.ensures.value) at c.in_ok-labels.ensures.labels) are) c.classes.ensures.classes

pub returns-clause-filled : goal.returns-clause-filled
returns-clause-filled c = IfOk-weaker c.classes.result _ _ (λ pockets are. classes_filled c.deref.result.now _ pockets are) c.classes.ensures.classes
