use Rattle.std.proofs.Common.{◌≡◌, ◌<◌, ℕ, Vec, ◌∙◌, ◌++◌, [], ◌∷◌, true, length, refl, ap, arith}
use Rattle.std.specs.Vec.{with_item}
use Rattle.std.specs.Global.{Global}
use Rattle.std.proofs.lemmas.List.{length-replicate}
use Rattle.tomo_base.specs.Sets.{has, members}
use Rattle.tomo_base.specs.Walks.{everything}
use Rattle.tomo_base.specs.Search.{mark_of}
use Rattle.tomo_base.proofs.Ascending.{All-has}
use Rattle.tomo_base.proofs.Members.{count-has}
use Rattle.blocks.specs.declared.block_list.Work.{Work}
use Rattle.blocks.specs.Sides.{AreSides}
use Rattle.blocks.specs.Working.{Working, weight_of}
use Rattle.tomo_base.specs.SetLists.{IsSetBelow}
use Rattle.tomo_base.proofs.Marks.{bare_mark}
use Rattle.blocks.proofs.Parts.{begun, taken, all_blocks, all_cuts}
use Rattle.blocks.proofs.Dividing.{divided_at_root}
use Rattle.blocks.proofs.block_list.cut_up.Goals as goal
use Rattle.blocks.proofs.block_list.cut_up.Goals.{In-Some, in-None+in_ok-grow_block-in-None, in-Some-2+in_ok-push-in-Some-2+in_ok-push-in-Some-2-2}

pub loop-part-init : goal.loop-part-init
loop-part-init c =
    let g = c.args.g.now in
    let part = c.in_ok-all_nodes.field-0 in
    let work : Work = record { todo = c.push.new.self; found = c.new-3.result; cuts = c.in_ok-vec.field-0 } in
    let bare = c.in_ok-vec.ensures.items_if_clones_equal (λ y h. h) in
    record {
      working = begun g work part c.nodes-n.ensures.graph c.requires.connected c.requires.two (c.in_ok-all_nodes.ensures ∙ ap (λ k. members k everything) c.nodes-n.ensures.nodes)
          (c.in_ok-push.ensures.items ∙ ap (λ xs. xs ++ part ∷ []) c.new-2.ensures.items) c.new-3.ensures.items (ap length bare ∙ (length-replicate c.nodes-n.result _ ∙ c.nodes-n.ensures.nodes))
          (λ v. ap (λ xs. mark_of xs v) bare ∙ bare_mark c.nodes-n.result v);
      room = rw c.nodes-n.ensures.nodes at c.in_ok-search.ensures;
    }

-- the work without the part at hand
abbrev popped : In-Some → Work
popped c = record { todo = c.pop.new.self; found = c.loop-part.work.found; cuts = c.loop-part.work.cuts }

-- what is known of it
taken_at : (c : In-Some) → Working c.args.g.now (has c.in-Some.part.items ∷ []) (popped c) × IsSetBelow c.args.g.now.nodes c.in-Some.part.items
    × (weight_of c.args.g.now (has c.in-Some.part.items ∷ []) (popped c) ≡ weight_of c.args.g.now [] c.loop-part.work)
taken_at c = taken c.args.g.now c.loop-part.work (popped c) c.in-Some.part c.in-Some.ensures.items refl refl c.loop-part.invariant.working

-- the work with the node marked and these parts to do
abbrev marked : (c : In-Some) → ℕ → Vec (Vec ℕ Global) Global → Work
marked c root todo = record { todo = todo; found = c.loop-part.work.found; cuts = with_item c.loop-part.work.cuts root true }

-- the work with both sides to do in the place of the part
both_sides : (c : In-Some) (root : ℕ) (near far : Vec ℕ Global) (mid last : Vec (Vec ℕ Global) Global) → AreSides c.args.g.now c.in-Some.part.items root near.items far.items
    → mid.items ≡ c.pop.new.self.items ++ near ∷ [] → last.items ≡ mid.items ++ far ∷ []
    → Working c.args.g.now [] (marked c root last) × (weight_of c.args.g.now [] (marked c root last) < weight_of c.args.g.now (has c.in-Some.part.items ∷ []) (popped c))
both_sides c root near far mid last sides first second = divided_at_root c.args.g.now c.in-Some.part.items root near far (popped c) (marked c root mid) (marked c root last) sides first refl refl second refl refl (taken_at c).0

pub middle-root-requires : goal.middle-root-requires
middle-root-requires c =
    let here = taken_at (goal.at.middle-root-requires c).In-Some in
    rw c.deref.ensures.value (omega (arith, here.0.cutting.rough.0.two, count-has c.args.g.now.nodes c.in-Some.part.items here.1.ascending here.1.below))

pub sides_at-requires-clause-set : goal.sides_at-requires-clause-set
sides_at-requires-clause-set c = rw c.deref-in-Some.ensures.value (taken_at (goal.at.sides_at-requires-clause-set c).In-Some).1

pub sides_at-requires-clause-two : goal.sides_at-requires-clause-two
sides_at-requires-clause-two c =
    let here = taken_at (goal.at.sides_at-requires-clause-two c).In-Some in
    rw c.deref-in-Some.ensures.value (omega (arith, here.0.cutting.rough.0.two, count-has c.args.g.now.nodes c.in-Some.part.items here.1.ascending here.1.below))

pub grow_block-requires-clause-working : goal.grow_block-requires-clause-working
grow_block-requires-clause-working c = rw c.deref-in-None.ensures.value (taken_at (goal.at.grow_block-requires-clause-working c).In-Some).0

pub grow_block-requires-clause-part : goal.grow_block-requires-clause-part
grow_block-requires-clause-part c = rw c.deref-in-None.ensures.value (taken_at (goal.at.grow_block-requires-clause-part c).In-Some).1

pub index_mut-requires : goal.index_mut-requires
index_mut-requires c =
    let here = taken_at (goal.at.index_mut-requires c).In-Some in
    let node : c.middle-root.result < c.args.g.now.nodes = All-has (λ v. v < c.args.g.now.nodes) c.in-Some.part.items here.1.below c.middle-root.result (rw c.deref.ensures.value at c.middle-root.ensures) in
    omega (arith, node, c.loop-part.invariant.working.marks, c.loop-part.work.cuts.ok)

pub loop-part-smaller : goal.loop-part-smaller
loop-part-smaller c =
    let g = c.args.g.now in
    let here = (goal.at.loop-part-smaller c).In-Some in
    let less : weight_of g [] c.match-branch-6.work < weight_of g [] c.loop-part.work = elim c.match-branch-6.branch [
      | in-None+in_ok-grow_block-in-None w ↦ rw w.work-is (omega (arith, rw w.deref-in-None.ensures.value at w.in_ok-grow_block-in-None.ensures.lighter, (taken_at here).2))
      | in-Some-2+in_ok-push-in-Some-2+in_ok-push-in-Some-2-2 w ↦
          let next = both_sides here c.middle-root.result w.in-Some-2.sides.near w.in-Some-2.sides.far w.push-in-Some-2.new.self w.push-in-Some-2-2.new.self (rw c.deref-in-Some.ensures.value at (rw w.in-Some-2.is at c.in_ok-sides_at.ensures.sides))
          w.in_ok-push-in-Some-2.ensures.items w.in_ok-push-in-Some-2-2.ensures.items in
          rw w.work-is (omega (arith, next.1, (taken_at here).2))
    ] in
    less

pub loop-part-preserved : goal.loop-part-preserved
loop-part-preserved c = elim c.match-branch-6.branch [
  | in-None+in_ok-grow_block-in-None w ↦ rw (w.work-is, w.search-is) (record { working = w.in_ok-grow_block-in-None.ensures.working; room = w.in_ok-grow_block-in-None.ensures.room })
  | in-Some-2+in_ok-push-in-Some-2+in_ok-push-in-Some-2-2 w ↦
      let next = both_sides (goal.at.loop-part-preserved c).In-Some c.middle-root.result w.in-Some-2.sides.near w.in-Some-2.sides.far w.push-in-Some-2.new.self w.push-in-Some-2-2.new.self (rw c.deref-in-Some.ensures.value at (rw w.in-Some-2.is at c.in_ok-sides_at.ensures.sides))
      w.in_ok-push-in-Some-2.ensures.items w.in_ok-push-in-Some-2-2.ensures.items in
      rw (w.work-is, w.search-is) (record { working = next.0; room = c.loop-part.invariant.room })
]

pub returns-clause-blocks : goal.returns-clause-blocks
returns-clause-blocks c = all_blocks c.args.g.now c.loop-part.work (omega (arith, c.in_default.ensures.cases.0)) c.loop-part.invariant.working

pub returns-clause-cuts : goal.returns-clause-cuts
returns-clause-cuts c = all_cuts c.args.g.now c.loop-part.work (omega (arith, c.in_default.ensures.cases.0)) c.loop-part.invariant.working
