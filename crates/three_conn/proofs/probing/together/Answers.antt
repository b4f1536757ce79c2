use Rattle.std.proofs.Common.{◌≡◌, ◌≢◌, ◌<◌, ℕ, subst, sym, ap, ◌∙◌, inl, inr, arith}
use Rattle.std.proofs.lemmas.Bool.{cases_eq}
use Rattle.tomo_base.specs.Sets.{has}
use Rattle.tomo_base.specs.Walks.{IsConnectedIn}
use Rattle.tomo_base.specs.Search.{mark_of}
use Rattle.tomo_base.specs.Parting.{without_two}
use Rattle.tomo_base.proofs.Walks.{connected_inside}
use Rattle.tomo_base.proofs.Parting.{without_two-from}
use Rattle.gate_search.proofs.Marks.{mark_below}
use Rattle.three_conn.specs.Parting.{IsParted, IsParting}
use Rattle.three_conn.proofs.Together.{connected_both, parted_both}
use Rattle.three_conn.proofs.probing.together.Goals.{After-deref}
use Rattle.three_conn.proofs.probing.together.Goals as goal

-- the rest is the set without the first
rest_is : (c : After-deref) → (v : ℕ) → mark_of c.deref.result.now v ≡ without_two (mark_of c.args.nodes.now) c.args.first c.args.first v
rest_is c v = ap (λ xs. mark_of xs v) c.deref.ensures.value ∙ c.in_ok-rest.ensures.free v

pub part_at_one-requires-clause-root : goal.part_at_one-requires-clause-root
part_at_one-requires-clause-root c =
    let other : c.args.second ≢ c.args.first = λ e. c.requires.differ (sym e) in
    rest_is (goal.at.part_at_one-requires-clause-root c).After-deref c.args.second ∙ without_two-from (mark_of c.args.nodes.now) c.args.first c.args.first c.args.second c.requires.second other other

pub part_at_one-requires-clause-connected : goal.part_at_one-requires-clause-connected
part_at_one-requires-clause-connected c =
    let are = rest_is (goal.at.part_at_one-requires-clause-connected c).After-deref in
    connected_inside c.args.g.now (without_two (mark_of c.args.nodes.now) c.args.first c.args.first) (mark_of c.deref.result.now) c.nodes-count.ensures.graph (λ v l t. are v ∙ t) (λ v l t. sym (are v) ∙ t)
    (rw c.in_default.is at c.in_ok-parting.ensures.none)

pub returns-in-Some-3-clause-parting : goal.returns-in-Some-3-clause-parting
returns-in-Some-3-clause-parting c =
    let g = c.args.g.now in
    let nodes = c.args.nodes.now in
    let found = c.in-Some-3.found in
    let rest = mark_of c.deref.result.now in
    let parting : IsParting g rest found = rw c.in-Some-3.is at c.in_ok-found.ensures.parting in
    let one : found.first ≡ found.second = rw c.in-Some-3.is at c.in_ok-found.ensures.one in
    let below : c.args.first < g.nodes = omega (arith, mark_below nodes c.args.first c.requires.first, c.requires.marks) in
    record {
      parted = parted_both (mark_of nodes) rest c.args.first (rest_is (goal.at.returns-in-Some-3-clause-parting c).After-deref) found.second g (has found.side.items)
          (subst (λ z. IsParted g rest (has found.side.items) z found.second) one parting.parted);
      first_most = omega (arith, below);
      second_most = parting.second_most;
    }

pub returns-clause-whole : goal.returns-clause-whole
returns-clause-whole c = λ d.
    let g = c.args.g.now in
    let w = mark_of c.args.nodes.now in
    elim (cases_eq d c.args.second) [
      | inl same ↦ subst (λ z. IsConnectedIn g (without_two w c.args.first z)) (sym same) (rw c.in_default-2.is at c.in_ok-parting-2.ensures.none)
      | inr other ↦ connected_both w (mark_of c.deref.result.now) c.args.first (rest_is (goal.at.returns-clause-whole c).After-deref) d g c.nodes-count.ensures.graph ((rw c.in-None.is at c.in_ok-found.ensures.whole) d other)
    ]
