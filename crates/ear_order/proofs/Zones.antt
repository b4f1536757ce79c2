-- The arguments by which a path through a zone must exist: a closed set that enters the zone spreads through a connected part of it.
use Rattle.std.proofs.Common.{◌≡◌, ℕ, zero, suc, ◌+◌, ◌<◌, ◌≤◌, Bool, true, sym, subst, arith}
use Rattle.tomo_base.specs.Network.{Network, linked}
use Rattle.tomo_base.specs.Walks.{IsConnectedIn}
use Rattle.tomo_base.specs.Parting.{IsClosedIn}
use Rattle.ear_order.specs.Crossing.{Crosses}
use Rattle.ear_order.proofs.Spreading.{spreads}

module _ (g : Network) (D zone K : ℕ → Bool) (p : ℕ → ℕ) (last : ℕ) (connected : IsConnectedIn g K) (nodes : (v : ℕ) → K v ≡ true → v < g.nodes)
    (inside : (v : ℕ) → K v ≡ true → zone v ≡ true) where
  through : (Q : ℕ → Bool) → IsClosedIn g zone Q → (y z : ℕ) → K y ≡ true → K z ≡ true → Q y ≡ true → Q z ≡ true
  through Q closed y z ky kz qy = spreads g K Q connected (λ v w kv qv l kw. closed v w qv l (inside w kw)) y z (nodes y ky) (nodes z kz) ky kz qy

  -- case 1
  pub two_ends : (d d2 y y2 : ℕ) → (d2 ≡ d → ⊥) → D d2 ≡ true
      → K y ≡ true → linked g d y ≡ true → K y2 ≡ true → linked g y2 d2 ≡ true → Crosses g D zone d
  two_ends d d2 y y2 differ end ky dy ky2 yd2 Q enters closed quiet =
      differ (quiet y2 d2 (inside y2 ky2) (through Q closed y y2 ky ky2 (enters y dy (inside y ky))) yd2 end)

  run_up : (steps : (i : ℕ) → i < last → linked g (p i) (p (suc i)) ≡ true) (lo : ℕ) → lo < last
      → ((i : ℕ) → 1 ≤ i → i ≤ lo → zone (p i) ≡ true)
      → (Q : ℕ → Bool) → ((w : ℕ) → linked g (p 0) w ≡ true → zone w ≡ true → Q w ≡ true) → IsClosedIn g zone Q
      → (i : ℕ) → suc i ≤ lo → Q (p (suc i)) ≡ true
  run_up steps lo low zoned Q enters closed zero h =
      enters (p 1) (steps 0 (omega arith)) (zoned 1 (omega arith) h)
  run_up steps lo low zoned Q enters closed (suc i) h =
      closed (p (suc i)) (p (suc (suc i)))
      (run_up steps lo low zoned Q enters closed i (omega arith)) (steps (suc i) (omega arith)) (zoned (suc (suc i)) (omega arith) h)

  -- case 2: `lo = suc l` is a place of A that touches K, `d` an end other than `p 0`
  pub to_end : (steps : (i : ℕ) → i < last → linked g (p i) (p (suc i)) ≡ true) (l : ℕ) → suc l < last
      → ((i : ℕ) → 1 ≤ i → i ≤ suc l → zone (p i) ≡ true)
      → (d y y2 : ℕ) → (d ≡ p 0 → ⊥) → D d ≡ true
      → K y ≡ true → linked g (p (suc l)) y ≡ true → K y2 ≡ true → linked g y2 d ≡ true → Crosses g D zone (p 0)
  to_end steps l low zoned d y y2 differ end ky ly ky2 yd Q enters closed quiet =
      let here : Q (p (suc l)) ≡ true = run_up steps (suc l) low zoned Q enters closed l (omega arith) in
      let there : Q y ≡ true = closed (p (suc l)) y here ly (inside y ky) in
      differ (quiet y2 d (inside y2 ky2) (through Q closed y y2 ky ky2 there) yd end)

  run_on : (steps : (i : ℕ) → i < last → linked g (p i) (p (suc i)) ≡ true) (hi : ℕ)
      → ((i : ℕ) → hi ≤ i → i < last → zone (p i) ≡ true)
      → (Q : ℕ → Bool) → IsClosedIn g zone Q → hi < last → Q (p hi) ≡ true
      → (k : ℕ) → hi + k < last → Q (p (hi + k)) ≡ true
  run_on steps hi zoned Q closed low start zero h = subst (λ i. Q (p i) ≡ true) (omega arith) start
  run_on steps hi zoned Q closed low start (suc k) h =
      subst (λ i. Q (p i) ≡ true) (omega arith)
      (closed (p (hi + k)) (p (suc (hi + k)))
      (run_on steps hi zoned Q closed low start k (omega arith)) (steps (hi + k) (omega arith)) (zoned (suc (hi + k)) (omega arith) (omega arith)))

  -- case 3: `suc l` and `hi` are places of A that touch K, `last` is the place of the other end
  pub around : (steps : (i : ℕ) → i < last → linked g (p i) (p (suc i)) ≡ true) (l hi m : ℕ) → suc l < hi → last ≡ suc (hi + m)
      → ((i : ℕ) → 1 ≤ i → i ≤ suc l → zone (p i) ≡ true)
      → ((i : ℕ) → hi ≤ i → i < last → zone (p i) ≡ true)
      → (y y2 : ℕ) → (p last ≡ p 0 → ⊥) → D (p last) ≡ true
      → K y ≡ true → linked g (p (suc l)) y ≡ true → K y2 ≡ true → linked g y2 (p hi) ≡ true → Crosses g D zone (p 0)
  around steps l hi m low is_last zoned zoned2 y y2 differ end ky ly ky2 yh Q enters closed quiet =
      let here : Q (p (suc l)) ≡ true = run_up steps (suc l) (omega arith) zoned Q enters closed l (omega arith) in
      let there : Q y ≡ true = closed (p (suc l)) y here ly (inside y ky) in
      let back : Q (p hi) ≡ true = closed y2 (p hi) (through Q closed y y2 ky ky2 there) yh (zoned2 hi (omega arith) (omega arith)) in
      let far : Q (p (hi + m)) ≡ true = run_on steps hi zoned2 Q closed (omega arith) back m (omega arith) in
      differ (quiet (p (hi + m)) (p last) (zoned2 (hi + m) (omega arith) (omega arith)) far
      (subst (λ i. linked g (p (hi + m)) (p i) ≡ true) (sym is_last) (steps (hi + m) (omega arith))) end)
