use Rattle.std.proofs.Common.{◌≡◌, ◌++◌, reverse, ap, ◌∙◌}
use Rattle.cross_links.proofs.Turned.{turned_is}
use Rattle.cross_links.proofs.adding.joined.Goals as goal

pub returns : goal.returns
returns c =
    let copied : c.in_ok-path.path.items ≡ c.args.a.now = c.in_ok-path.ensures.items_if_clones_equal (λ x y h. h) in
    c.in_ok-extend_from_slice.ensures.items ∙ ap (λ l. l ++ c.args.b.now) (c.reverse.ensures.items ∙ ap reverse copied) ∙ turned_is c.args.a.now c.args.b.now
