use Rattle.std.proofs.Common.{◌≡◌, length}
use Rattle.split_tree.proofs.guesses.own_links.Given as goal

-- a link for each link so far
abbrev pub invariant-loop-link : goal.invariant-loop-link
invariant-loop-link l = length l.own.items ≡ l.link-index
