use Rattle.ident_laws.proofs.Dropping.{own_pocket_is_cut_off, three_leave_no_own_pocket}
use Rattle.ident_laws.proofs.Homes.{narrow_node_is_home, least_cut_off_is_home}
use Rattle.ident_laws.proofs.own_pockets_by_cuts.Goals as goal

pub returns : goal.returns
returns c = record { exactly = own_pocket_is_cut_off; none = three_leave_no_own_pocket; narrow = narrow_node_is_home; home = least_cut_off_is_home }
