-- Two facts of one result.
use Rattle.std.proofs.Common.{Result, Ok, Err, IfOk}

-- what two facts of a value imply holds of it
pub if_ok_two : {X Y : Type 0} (r : Result X Y) (P Q S : X → Type 0) → ((x : X) → P x → Q x → S x) → IfOk r P → IfOk r Q → IfOk r S
if_ok_two (Ok x) P Q S f p q = f x p q
if_ok_two (Err e) P Q S f p q = tt
