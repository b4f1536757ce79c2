use Rattle.std.proofs.Common.{◌≡◌, ◌<◌, ◌&&◌, ◌∙◌, ℕ, true, false, not, length, refl, ap, arith, length-set, get_or-set_same, get_or-set_other}
use Rattle.std.proofs.lemmas.Bool.{and_left}
use Rattle.std.proofs.lemmas.List.{length-replicate}
use Rattle.tomo_base.specs.Sets.{has, minus}
use Rattle.tomo_base.specs.Search.{mark_of}
use Rattle.gate_search.proofs.Marks.{mark_below, still_gone, fewer_marks}
use Rattle.three_conn.specs.Growing.{IsShutOff}
use Rattle.three_conn.specs.Held.{IsRest}
use Rattle.three_conn.proofs.Whole.{all_marked}
use Rattle.three_conn.proofs.Sight.{seeing_first, seeing_more, seeing_less, fewer_left}
use Rattle.three_conn.proofs.seeing.seen.Goals as goal
use Rattle.three_conn.proofs.seeing.seen.Goals.{In-Parted}

pub loop-x-init : goal.loop-x-init
loop-x-init c =
    let g = c.args.g.now in
    let nodes = c.in_ok-nodes.nodes.items in
    let free = c.in_ok-free.free.items in
    let bare = c.in_ok-nodes.ensures.items_if_clones_equal (λ y h. h) in
    let size : length nodes ≡ g.nodes = ap length bare ∙ (length-replicate c.nodes-n.result true ∙ c.nodes-n.ensures.nodes) in
    let rest : IsRest (mark_of nodes) (mark_of c.in_ok-monitors.monitors.items) (mark_of free) = rw (c.deref.ensures.value, c.deref-2.ensures.value) at c.in_ok-free.ensures.rest in
    let marks : (v : ℕ) → mark_of c.in_ok-monitors.monitors.items v ≡ has c.args.m.now v = rw c.as_slice.ensures.nodes at c.in_ok-monitors.ensures.marks in
    record {
      nodes = size;
      size = c.in_ok-free.ensures.marks ∙ (ap length c.deref.ensures.value ∙ size);
      seeing = seeing_first g (has c.args.m.now) (mark_of nodes) (mark_of free) c.nodes-n.ensures.graph
          (all_marked g.nodes c.nodes-n.result nodes nodes refl bare c.nodes-n.ensures.nodes) (λ v. rest v ∙ ap (λ b. mark_of nodes v && not b) (marks v));
      starts = λ k d l. absurd (omega (arith, l, c.new-starts.ensures.len));
      room = rw c.nodes-n.ensures.nodes at c.in_ok-search.ensures;
      passed = λ v l. absurd (omega (arith, l));
    }

pub loop-x-smaller-in-More : goal.loop-x-smaller-in-More
loop-x-smaller-in-More c =
    let step = rw (c.deref-then-index-2.ensures.value, c.deref-then-index-3.ensures.value, c.in-More.is) at c.in_ok-u.ensures.growth in
    let fewer = fewer_marks c.args.g.now.nodes c.loop-x.free.items c.in-More.u step.0 (omega (arith, step.0, c.loop-x.invariant.size)) step.1 in
    omega (arith, fewer)

pub loop-x-preserved-in-More : goal.loop-x-preserved-in-More
loop-x-preserved-in-More c =
    let step = rw (c.deref-then-index-2.ensures.value, c.deref-then-index-3.ensures.value, c.in-More.is) at c.in_ok-u.ensures.growth in
    let u = c.in-More.u in
    let free = c.loop-x.free.items in
    let in_free : u < length free = omega (arith, step.0, c.loop-x.invariant.size) in
    let lent : length c.deref-in-More.result.now ≡ length free = ap length c.deref-in-More.ensures.value in
    record {
      nodes = c.loop-x.invariant.nodes;
      size = length-set free u false ∙ c.loop-x.invariant.size;
      seeing = seeing_more c.args.g.now (has c.args.m.now) (mark_of c.loop-x.nodes.items) (mark_of free) _ u c.loop-x.invariant.seeing step.2 (get_or-set_same free u false false in_free) (λ v other. get_or-set_other free u v false false other);
      starts = λ k d l. omega (arith, c.in_ok-add_free-in-More.ensures.starts k d l, length-set free u false, lent);
      room = c.in_ok-u.ensures.room;
      passed = λ v l. still_gone free u v in_free (c.loop-x.invariant.passed v l);
    }

-- what the search has reached is shut off
shut_off : (c : In-Parted) → IsShutOff c.args.g.now (mark_of c.loop-x.nodes.items) (mark_of c.loop-x.free.items) (has c.step.new.search.found.order.items) c.in-Parted.field-0 c.in-Parted.field-1
shut_off c = rw (c.deref-then-index-2.ensures.value, c.deref-then-index-3.ensures.value, c.in-Parted.is) at c.in_ok-u.ensures.growth

pub loop-x-smaller-in-Parted : goal.loop-x-smaller-in-Parted
loop-x-smaller-in-Parted c =
    let off = shut_off (goal.at.loop-x-smaller-in-Parted c).In-Parted in
    let free = c.loop-x.free.items in
    let fewer = fewer_left c.args.g.now (mark_of c.loop-x.nodes.items) (mark_of free) (has c.step.new.search.found.order.items) (mark_of c.take_out.new.free.items) c.in-Parted.field-0 c.in-Parted.field-1
    (λ v t. omega (arith, mark_below free v t, c.loop-x.invariant.size)) off (rw c.deref-in-Parted.ensures.value at c.take_out.ensures.free) in
    omega (arith, fewer)

pub loop-x-preserved-in-Parted : goal.loop-x-preserved-in-Parted
loop-x-preserved-in-Parted c =
    let off = shut_off (goal.at.loop-x-preserved-in-Parted c).In-Parted in
    let nodes = c.loop-x.nodes.items in
    let free = c.loop-x.free.items in
    let side = has c.step.new.search.found.order.items in
    let nodes_are : (v : ℕ) → mark_of c.take_out.new.nodes.items v ≡ minus (mark_of nodes) side v = rw c.deref-in-Parted.ensures.value at c.take_out.ensures.nodes in
    let free_are : (v : ℕ) → mark_of c.take_out.new.free.items v ≡ minus (mark_of free) side v = rw c.deref-in-Parted.ensures.value at c.take_out.ensures.free in
    record {
      nodes = c.take_out.ensures.nodes_length ∙ c.loop-x.invariant.nodes;
      size = c.take_out.ensures.free_length ∙ c.loop-x.invariant.nodes;
      seeing = seeing_less c.args.g.now (has c.args.m.now) (mark_of nodes) (mark_of free) side _ _ c.in-Parted.field-0 c.in-Parted.field-1 c.nodes-n.ensures.graph c.loop-x.invariant.seeing off nodes_are free_are;
      starts = λ k d l. omega (arith, c.take_free-start.ensures.starts k d l, c.take_out.ensures.free_length, c.loop-x.invariant.nodes, c.loop-x.invariant.size, ap length c.deref-then-index.ensures.value);
      room = c.in_ok-u.ensures.room;
      passed = λ v l. free_are v ∙ and_left (mark_of free v) (not (side v)) (c.loop-x.invariant.passed v l);
    }
