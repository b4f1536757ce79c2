use Rattle.std.proofs.Common.{◌/◌, length, arith}
use Rattle.tomo_base.proofs.Ascending.{has-at}
use Rattle.blocks.proofs.block_list.middle.Goals as goal

pub returns : goal.returns
returns c = has-at c.args.part.now (length c.args.part.now / 2) 0 (omega (arith, c.requires))
