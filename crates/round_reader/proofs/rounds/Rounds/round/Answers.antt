use Rattle.std.proofs.Common.{◌≡◌, ◌≤◌, ◌<◌, ◌+◌, ◌*◌, ◌-◌, [], length, get_or, take, drop, sym, ap, ◌∙◌, arith}
use Rattle.round_reader.proofs.Parts.{part_within, length-cut_up, cut_at}
use Rattle.round_reader.proofs.rounds.Rounds.round.Goals as goal

below : (c : goal.After-deref) → c.args.i < c.self.inside.count
below c = omega (arith, c.requires, ap (λ rounds. length rounds) (sym c.self.view_is), length-cut_up c.self.inside.width c.self.inside.count c.self.inside.sums.items)

room : (c : goal.After-deref) → c.args.i * c.self.inside.width + c.self.inside.width ≤ length c.deref.result.now
room c = omega (arith, part_within c.args.i c.self.inside.count c.self.inside.width (below c), c.self.invariant, ap (λ xs. length xs) c.deref.ensures.value)

pub offset_bounds-deref-start : goal.offset_bounds-deref-start
offset_bounds-deref-start c = omega (arith, room c, c.deref.type_inv)

pub slice_bounds-result-end : goal.slice_bounds-result-end
slice_bounds-result-end c = omega (arith, room c)

pub returns : goal.returns
returns c =
    let w = c.self.inside.width in
    let start = c.args.i * w in
    let inside : c.args.i < c.self.inside.count = omega (arith, c.requires, ap (λ rounds. length rounds) (sym c.self.view_is), length-cut_up w c.self.inside.count c.self.inside.sums.items) in
    let long : start + w - start ≡ w = omega arith in
    ap (λ n. take n (drop start c.deref.result.now)) long
    ∙ (ap (λ xs. take w (drop start xs)) c.deref.ensures.value ∙ (sym (cut_at w c.self.inside.count c.self.inside.sums.items c.args.i inside) ∙ ap (λ rounds. get_or rounds c.args.i []) c.self.view_is))
