use Rattle.std.proofs.Common.{◌≡◌, ◌<◌, ◌≤◌, ◌∙◌, ℕ, sym, true, length, arith}
use Rattle.tomo_base.specs.Search.{mark_of, entry_at}
use Rattle.three_conn.proofs.Sides.{some_missed, none_missed, missed_parts, reached_connected}
use Rattle.three_conn.proofs.probing.side_without.Goals as goal

pub returns-then-is_some-clause-side : goal.returns-then-is_some-clause-side
returns-then-is_some-clause-side c =
    let free = c.in_ok-free.free.items in
    let s = c.in_ok-found.found in
    let answer = rw (c.deref-3.ensures.value, c.deref-4.ensures.value) at c.first_missed.ensures.found in
    let missed = some_missed (λ v. (v < length free) × (mark_of free v ≡ true) × (length free ≤ entry_at s.rank.items v)) c.first_missed.result (sym c.is_some.ensures ∙ c.if-is_some.true) answer in
    let first = rw c.deref.ensures.value at c.in-Some.ensures.found in
    let size : length free ≡ c.args.g.now.nodes = c.in_ok-free.ensures.marks ∙ c.requires.marks in
    missed_parts c.args.g.now free (mark_of c.args.nodes.now) c.args.c c.args.d c.in-Some.x s c.nodes-count.ensures.graph (rw c.deref-2.ensures.value at c.in_ok-found.ensures) c.in_ok-free.ensures.free
    (omega (arith, first.0, size)) missed.0 (omega (arith, missed.1.0, size)) missed.1.1 (omega (arith, missed.1.2, size))

pub returns-clause-none : goal.returns-clause-none
returns-clause-none c =
    let free = c.in_ok-free.free.items in
    let s = c.in_ok-found.found in
    let answer = rw (c.deref-3.ensures.value, c.deref-4.ensures.value) at c.first_missed.ensures.none in
    let all = none_missed ((v : ℕ) → mark_of free v ≡ true → entry_at s.rank.items v < length free) c.first_missed.result (sym c.is_some.ensures ∙ c.if-is_some.false) answer in
    let first = rw c.deref.ensures.value at c.in-Some.ensures.found in
    let size : length free ≡ c.args.g.now.nodes = c.in_ok-free.ensures.marks ∙ c.requires.marks in
    reached_connected c.args.g.now free (mark_of c.args.nodes.now) c.args.c c.args.d c.in-Some.x s c.nodes-count.ensures.graph (rw c.deref-2.ensures.value at c.in_ok-found.ensures) c.in_ok-free.ensures.free
    (omega (arith, first.0, size)) first.1 (λ v t. omega (arith, all v t, size))
