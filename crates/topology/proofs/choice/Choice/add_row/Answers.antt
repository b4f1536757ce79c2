use Rattle.std.proofs.Common.{◌≡◌, ◌+◌, ◌<◌, ◌||◌, ◌==◌, Bool, false, ℕ, List, take, slice_get, Some, None, arith, ap, sym, ◌∙◌, refl}
use Rattle.std.specs.List.Sorted.{IsStrictlyIncreasing}
use Rattle.std.proofs.lemmas.Option.{slice_get_within}
use Rattle.tomo_base.specs.Limits.{graph_node_limit}
use Rattle.tomo_base.specs.Sets.{has}
use Rattle.topology.specs.declared.choice.Choice.{Choice}
use Rattle.topology.specs.declared.choice.Wish.{Wish}
use Rattle.topology.specs.Topology.{Topo, IsTopology}
use Rattle.topology.specs.Choice.{opposite, wished, choice_fault_at, IsChoiceOf}
use Rattle.topology.proofs.Choices.{fault_clash, fault_none, choice_more}
use Rattle.topology.proofs.choice.Choice.add_row.Goals as goal
use Rattle.topology.proofs.choice.Choice.add_row.Goals.{Else-has}

-- a set was asked for a node, which was that of the opposite wish
asked : (choice : Choice) (wish other : Wish) (set : List ℕ) (node : ℕ) (b : Bool) → other ≡ opposite wish → set ≡ wished choice other → b ≡ has set node → has (wished choice (opposite wish)) node ≡ b
asked choice wish other set node b turned lent has_it = sym (has_it ∙ ap (λ s. has s node) (lent ∙ ap (wished choice) turned))

-- a node of a topology has a number below the limit of graphs
node_low : (t : Topo) (name : List ℕ) (node : ℕ) → IsTopology t → slice_get t.names node ≡ Some name → node < graph_node_limit
node_low t name node topology known = omega (arith, slice_get_within t.names node name known, topology.one_each, topology.few_nodes)

pub returns-then-has-clause-fault : goal.returns-then-has-clause-fault
returns-then-has-clause-fault c =
    let there = asked c.args.self.now c.in_ok-wish.wish _ _ c.in_ok-wish.node _ c.opposite.ensures c.wished.ensures c.has.ensures in
    fault_clash _ _ _ c.args.self.now c.in_ok-wish.wish c.in_ok-wish.node c.requires.so_far c.in_ok-wish.ensures.wish (there ∙ c.if-has.true)

pub insert-requires : goal.insert-requires
insert-requires c = node_low c.args.t.now _ c.in_ok-wish.node c.in_ok-wish.ensures.topology c.in_ok-wish.ensures.wish.known

pub insert-requires-in-Not : goal.insert-requires-in-Not
insert-requires-in-Not c = node_low c.args.t.now _ c.in_ok-wish.node c.in_ok-wish.ensures.topology c.in_ok-wish.ensures.wish.known

-- the node has not the opposite wish
free : (c : Else-has) → has (wished c.args.self.now (opposite c.in_ok-wish.wish)) c.in_ok-wish.node ≡ false
free c = asked c.args.self.now c.in_ok-wish.wish _ _ c.in_ok-wish.node _ c.opposite.ensures c.wished.ensures c.has.ensures ∙ c.if-has.false

-- the choice takes the row in where the node went to the nodes of its wish
takes : (c : Else-has) (new : Choice) → ((w : ℕ) → has (wished new c.in_ok-wish.wish) w ≡ ((c.in_ok-wish.node == w) || has (wished c.args.self.now c.in_ok-wish.wish) w))
    → IsStrictlyIncreasing (wished new c.in_ok-wish.wish) → wished new (opposite c.in_ok-wish.wish) ≡ wished c.args.self.now (opposite c.in_ok-wish.wish)
    → IsChoiceOf c.args.t.now (take (c.args.place + 1) c.args.rows.now.closed) new
takes c new added up kept =
    choice_more c.args.t.now c.args.rows.now.closed c.args.place c.args.self.now new c.in_ok-wish.wish c.in_ok-wish.node c.requires.place c.in_ok-wish.ensures.topology c.requires.so_far c.in_ok-wish.ensures.wish added up kept (free c)

-- and the row has no fault
fine : (c : Else-has) → choice_fault_at c.args.t.now.names c.args.rows.now.closed c.args.place ≡ None
fine c = fault_none _ _ _ c.args.self.now c.in_ok-wish.wish c.in_ok-wish.node c.requires.so_far c.in_ok-wish.ensures.wish (free c)

pub returns-in_ok-insert-in-Must-clause-takes : goal.returns-in_ok-insert-in-Must-clause-takes
returns-in_ok-insert-in-Must-clause-takes c = takes (goal.at.returns-in_ok-insert-in-Must-clause-takes c).Else-has _ (rw c.in-Must.is c.in_ok-insert-in-Must.ensures.nodes) (rw c.in-Must.is c.in_ok-insert-in-Must.ensures.ascending) (rw c.in-Must.is refl)

pub returns-in_ok-insert-in-Must-clause-fine : goal.returns-in_ok-insert-in-Must-clause-fine
returns-in_ok-insert-in-Must-clause-fine c = fine (goal.at.returns-in_ok-insert-in-Must-clause-fine c).Else-has

pub returns-in_ok-insert-in-Not-clause-takes : goal.returns-in_ok-insert-in-Not-clause-takes
returns-in_ok-insert-in-Not-clause-takes c = takes (goal.at.returns-in_ok-insert-in-Not-clause-takes c).Else-has _ (rw c.in-Not.is c.in_ok-insert-in-Not.ensures.nodes) (rw c.in-Not.is c.in_ok-insert-in-Not.ensures.ascending) (rw c.in-Not.is refl)

pub returns-in_ok-insert-in-Not-clause-fine : goal.returns-in_ok-insert-in-Not-clause-fine
returns-in_ok-insert-in-Not-clause-fine c = fine (goal.at.returns-in_ok-insert-in-Not-clause-fine c).Else-has
