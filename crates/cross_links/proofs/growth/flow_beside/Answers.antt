use Rattle.std.proofs.Common.{◌≡◌, ℕ, ◌||◌, ◌==◌, [], subst}
use Rattle.std.proofs.lemmas.Result.{IfOk-weaker}
use Rattle.tomo_base.specs.Sets.{has}
use Rattle.cross_links.proofs.Tasks.{begins_beside, one_below, one_other}
use Rattle.cross_links.proofs.growth.flow_beside.Goals as goal

-- the set has the one node
one : (c : goal.After-banned-2-1) → ((z : ℕ) → has c.insert.new.self z ≡ ((c.args.avoided == z) || has [] z))
one c = subst (λ s. (z : ℕ) → has c.insert.new.self z ≡ ((c.args.avoided == z) || has s z)) c.new-banned.ensures c.in_ok-insert.ensures.nodes

pub new-requires-clause-banned : goal.new-requires-clause-banned
new-requires-clause-banned c = one_below c.args.g.now.nodes c.args.avoided c.insert.new.self c.requires.avoided (one c)

pub new-requires-clause-no_banned : goal.new-requires-clause-no_banned
new-requires-clause-no_banned c = one_other c.args.avoided c.args.source c.insert.new.self c.requires.differ (one c)

pub returns : goal.returns
returns c =
    let one : (z : ℕ) → has c.insert.new.self z ≡ ((c.args.avoided == z) || has [] z) = subst (λ s. (z : ℕ) → has c.insert.new.self z ≡ ((c.args.avoided == z) || has s z)) c.new-banned.ensures c.in_ok-insert.ensures.nodes in
    IfOk-weaker c.new.result _ _ (λ f is. begins_beside c.args.g.now c.args.targets.now c.insert.new.self c.args.source c.args.avoided f is one) c.new.ensures.begins
