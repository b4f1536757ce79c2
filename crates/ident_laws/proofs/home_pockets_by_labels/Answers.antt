use Rattle.ident_laws.proofs.Labels.{begin, grow, end}
use Rattle.ident_laws.proofs.home_pockets_by_labels.Goals as goal

pub returns : goal.returns
returns c = record { begin = begin; grow = grow; end = end }
