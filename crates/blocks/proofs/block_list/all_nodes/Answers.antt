use Rattle.std.proofs.Common.{◌≡◌, ℕ, suc, ◌+◌, ◌∙◌, ◌++◌, [], ◌∷◌, refl, sym, ap, arith}
use Rattle.tomo_base.specs.Sets.{members}
use Rattle.tomo_base.specs.Walks.{everything}
use Rattle.blocks.proofs.block_list.all_nodes.Goals as goal

-- one node more
one_more : (k : ℕ) → members k everything ++ k ∷ [] ≡ members (k + 1) everything
unfolding members
one_more k = let next : k + 1 ≡ suc k = omega arith in rw next refl

no_more : members 0 everything ≡ []
unfolding members
no_more = refl

pub loop-v-init : goal.loop-v-init
loop-v-init c = c.new-all.ensures.items ∙ sym no_more

pub loop-v-preserved : goal.loop-v-preserved
loop-v-preserved c = c.in_ok-push.ensures.items ∙ (ap (λ xs. xs ++ c.loop-v.v ∷ []) c.loop-v.invariant ∙ one_more c.loop-v.v)
