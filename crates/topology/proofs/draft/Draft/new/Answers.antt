use Rattle.topology.proofs.Drafts.{draft_none}
use Rattle.topology.proofs.draft.Draft.new.Goals as goal

pub returns : goal.returns
returns c = rw (c.new.ensures, c.new-2.ensures) draft_none
