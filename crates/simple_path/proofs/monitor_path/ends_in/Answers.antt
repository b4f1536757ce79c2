use Rattle.std.proofs.Common.{sym, ◌∙◌}
use Rattle.tomo_base.specs.Sets.{has}
use Rattle.tomo_base.proofs.Paths.{ends_at, ends_from}
use Rattle.tomo_base.proofs.Lists.{not_empty}
use Rattle.simple_path.proofs.monitor_path.ends_in.Goals as goal

pub returns-then-has : goal.returns-then-has
returns-then-has c =
    let m = has c.args.m.now in
    (λ t. ends_from m c.args.path.now (not_empty c.args.path.now (sym c.is_empty.ensures ∙ c.if-is_empty.false)) (sym c.has.ensures ∙ c.if-has.true) (sym c.has-then-has.ensures ∙ t), λ ends. c.has-then-has.ensures ∙ (ends_at m c.args.path.now ends).2)
