-- A node whose hops are all past has no gate.
use Rattle.std.proofs.Common.{◌≡◌, ℕ, ◌+◌, ◌<◌, ◌≤◌, ◌⊎◌, Bool, true, false, List, length, get_or, subst, arith}
use Rattle.std.proofs.lemmas.List.{get_or_default}
use Rattle.std.specs.List.{AllWithin}
use Rattle.std.proofs.lemmas.List.Elements.{AllWithin-more}
use Rattle.tomo_base.specs.Network.{Network}
use Rattle.tomo_base.specs.Table.{AreHops}
use Rattle.tomo_base.specs.declared.graph.Hop.{Hop}
use Rattle.tomo_base.proofs.Rows.{linked_hop}
use Rattle.gate_search.specs.Gates.{HasNoGate}

-- a link to this node is no gate
abbrev pub IsPast : (ℕ → Bool) → (ℕ → Bool) → ℕ → ℕ → ℕ → Type 0
IsPast w free c d v = w v ≡ true → free v ≡ false → (v ≡ c) ⊎ (v ≡ d)

-- one hop more that is no gate
pub past_more : (w free : ℕ → Bool) (c d : ℕ) (hops : List Hop) (i : ℕ) (e : Hop) → i < length hops → AllWithin (λ h. IsPast w free c d h.node) hops 0 i → IsPast w free c d (get_or hops i e).node
    → AllWithin (λ h. IsPast w free c d h.node) hops 0 (i + 1)
past_more w free c d hops i e l before here = AllWithin-more (λ (h : Hop). IsPast w free c d h.node) hops 0 i before (λ f. subst (λ (h : Hop). IsPast w free c d h.node) (get_or_default hops i e f l) here)

-- where no hop is one, all gates lead to the two nodes
pub all_past : (g : Network) (w free : ℕ → Bool) (v c d : ℕ) (hops : List Hop) (i : ℕ) → AreHops g.links v hops → length hops ≤ i → AllWithin (λ h. IsPast w free c d h.node) hops 0 i → HasNoGate g w free v c d
all_past g w free v c d hops i are all past u l t out =
    let at = linked_hop g v u hops are l in
    let e : Hop = record { node = 0; link = 0 } in
    subst (IsPast w free c d) (at.2 e) (past at.0 e (omega arith) (omega (arith, at.1, all))) t out
