use Rattle.std.proofs.Common.{◌≡◌, ◌<◌, ℕ, Bool, nat_lt, ◌&&◌, [], length, arith, sym, ◌∙◌, le-ltb}
use Rattle.std.proofs.lemmas.Bool.{and_parts, and_left, ltb-true}
use Rattle.tomo_base.specs.Sets.{has}
use Rattle.tomo_base.specs.Search.{mark_of}
use Rattle.tomo_base.proofs.Ascending.{All-from_has}
use Rattle.blocks.proofs.block_list.set_marked.Goals as goal

-- no number is below 0
none_below : (w : ℕ) (b : Bool) → has [] w ≡ (nat_lt w 0 && b)
unfolding has
none_below w b = sym (and_left (nat_lt w 0) b (le-ltb w 0 (omega arith)))

pub loop-v-init : goal.loop-v-init
loop-v-init c = (rw c.new-set.ensures (λ k l. absurd (omega arith)), λ w. rw c.new-set.ensures (none_below w (mark_of c.args.marks.now w)))

pub returns-clause-set : goal.returns-clause-set
returns-clause-set c = record {
  ascending = c.loop-v.invariant.0;
  below = All-from_has (λ v. v < length c.args.marks.now) c.loop-v.set (λ w h.
      let low = ltb-true w c.loop-v.v (and_parts (nat_lt w c.loop-v.v) (mark_of c.args.marks.now w) (sym (c.loop-v.invariant.1 w) ∙ h)).0 in
      omega (arith, low, c.loop-v.auto.v-end));
}
