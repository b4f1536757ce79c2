use Rattle.std.proofs.Common.{◌≡◌, ℕ, ◌<◌, ◌^◌, List, length, ap, ◌∙◌, arith}
use Rattle.std.proofs.lemmas.List.{length-map}
use Rattle.plan_form.specs.Building.{turned}
use Rattle.tomo_base.specs.SetLists.{lists_of}
use Rattle.plan_form.proofs.Built.{ordered}
use Rattle.plan_form.proofs.Sorting.{nodes_few, paths_few}
use Rattle.plan_form.proofs.order.order_paths.Goals as goal

pub number_all-requires-clause-few : goal.number_all-requires-clause-few
number_all-requires-clause-few c =
    let few : length (lists_of c.sort_lists.new.lists.items) < 2 ^ 31 = omega (arith, paths_few c.in_ok-sorted.sorted.items c.sort_lists.new.lists.items c.sort_lists.ensures.few, c.in_ok-sorted.ensures.few) in
    rw c.deref.ensures.value (omega (arith, rw length-map at few))

pub number_all-requires-clause-members : goal.number_all-requires-clause-members
number_all-requires-clause-members c = rw c.deref.ensures.value (λ q h. c.sort_lists.ensures.kept q (rw c.in_ok-sorted.ensures.paths h))

pub copy_paths-requires-clause-paths : goal.copy_paths-requires-clause-paths
copy_paths-requires-clause-paths c = rw c.deref-2.ensures.value (omega (arith, paths_few c.in_ok-sorted.sorted.items c.sort_lists.new.lists.items c.sort_lists.ensures.few, c.in_ok-sorted.ensures.few))

pub copy_paths-requires-clause-nodes : goal.copy_paths-requires-clause-nodes
copy_paths-requires-clause-nodes c = rw c.deref-2.ensures.value (omega (arith, nodes_few (lists_of c.in_ok-sorted.sorted.items) (lists_of c.sort_lists.new.lists.items) c.sort_lists.ensures.sums, c.in_ok-sorted.ensures.few_nodes))

pub returns-clause-ordered : goal.returns-clause-ordered
returns-clause-ordered c =
    ordered c.args.pool.now c.in_ok-sorted.sorted.items c.sort_lists.new.lists.items c.in_ok-paths.paths c.in_ok-numbers.numbers.items c.in_ok-sorted.ensures.paths (c.in_ok-paths.ensures ∙ ap lists_of c.deref-2.ensures.value)
    c.sort_lists.ensures.ascending c.sort_lists.ensures.kept c.sort_lists.ensures.given (rw c.deref.ensures.value at c.in_ok-numbers.ensures)

pub returns-clause-count : goal.returns-clause-count
returns-clause-count c =
    let turns : length (lists_of c.in_ok-sorted.sorted.items) ≡ length c.args.pool.now = ap (length {A = List ℕ}) c.in_ok-sorted.ensures.paths ∙ length-map c.args.pool.now turned in
    rw (c.in_ok-paths.ensures, c.deref-2.ensures.value) (omega (arith, paths_few c.in_ok-sorted.sorted.items c.sort_lists.new.lists.items c.sort_lists.ensures.few, turns))

pub returns-clause-few : goal.returns-clause-few
returns-clause-few c = rw (c.in_ok-paths.ensures, c.deref-2.ensures.value) (omega (arith, paths_few c.in_ok-sorted.sorted.items c.sort_lists.new.lists.items c.sort_lists.ensures.few, c.in_ok-sorted.ensures.few))
