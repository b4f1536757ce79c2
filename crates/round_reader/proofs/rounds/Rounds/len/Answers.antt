use Rattle.std.proofs.Common.{length, sym, ap, ◌∙◌}
use Rattle.round_reader.proofs.Parts.{length-cut_up}
use Rattle.round_reader.proofs.rounds.Rounds.len.Goals as goal

pub returns : goal.returns
returns c = sym (ap (λ rounds. length rounds) (sym c.self.view_is) ∙ length-cut_up c.self.inside.width c.self.inside.count c.self.inside.sums.items)
