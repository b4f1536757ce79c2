use Rattle.ident_laws.proofs.Walk.{begins, passes, leaves_out, holds, ends}
use Rattle.ident_laws.proofs.lowest_by_walk.Goals as goal

pub returns : goal.returns
returns c = record { begins = begins; passes = passes; leaves_out = leaves_out; holds = holds; ends = ends }
