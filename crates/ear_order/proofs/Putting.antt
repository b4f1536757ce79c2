-- One ear more in an order, and the marks of its nodes.
use Rattle.std.proofs.Common.{◌≡◌, ℕ, Bool, true, false, ◌||◌, cond, List, length, refl, sym, ap, ◌∙◌, arith}
use Rattle.tomo_base.specs.Sets.{has}
use Rattle.tomo_base.specs.Search.{mark_of, entry_at}
use Rattle.ear_order.specs.Ears.{Ears, IsEar, IsOrder, in_ears}
use Rattle.ear_order.specs.Turns.{ContinuesWith}
use Rattle.ear_order.specs.Easy.{AreMarks, with_one_ear}
use Rattle.ear_order.proofs.InEars.{in_ears-push}
use Rattle.ear_order.proofs.Ordering.{order_push}
use Rattle.ear_order.proofs.Spots.{ear_below}

-- an ear for the marked nodes can follow
pub order_with_one_ear : (o : Ears) → IsOrder o → (old : List Bool) → AreMarks o old → (e : List ℕ) → IsEar o.graph (mark_of old) e → ContinuesWith o.graph o.u (mark_of old) e → IsOrder (with_one_ear o e)
order_with_one_ear o is old marks e ear next =
    order_push o is old e marks.1 (entry_at e 1) (ear_below o.graph is.graph (mark_of old) e ear 1 (omega (arith, ear.three))) (ear.fresh 1 0 (omega arith) (omega (arith, ear.three))) ear next

-- its nodes are marked with those of the others
pub marks_with_one_ear : (o : Ears) (old new : List Bool) (e : List ℕ) → AreMarks o old → length new ≡ length old → ((v : ℕ) → mark_of new v ≡ cond (has e v) true (mark_of old v)) → AreMarks (with_one_ear o e) new
marks_with_one_ear o old new e marks size more = (size ∙ marks.0, λ v. more v ∙ (ap (cond (has e v) true) (marks.1 v) ∙ (either (has e v) (in_ears o.list v) ∙ sym (in_ears-push o.list e v))))
  where
    either : (p q : Bool) → cond p true q ≡ (p || q)
    either true q = refl
    either false q = refl
