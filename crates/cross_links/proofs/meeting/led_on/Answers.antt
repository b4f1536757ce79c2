use Rattle.std.proofs.Common.{◌≡◌, ◌==◌, ◌++◌, ◌∷◌, ◌-◌, ◌+◌, take, drop, length, get_or, true, false, inl, inr, sym, ap, ap₂, ◌∙◌, rules, tests}
use Rattle.std.proofs.lemmas.Iterator.{YieldsList-from_slice, IsFirst-from_position}
use Rattle.tomo_base.specs.Sets.{has}
use Rattle.unit_flow.specs.Flows.{last_of}
use Rattle.unit_flow.proofs.Loads.{last_at}
use Rattle.cross_links.proofs.Found.{FindsFirst, found_at, not_found}
use Rattle.std.proofs.lemmas.List.{take_rest}
use Rattle.cross_links.proofs.meeting.led_on.Goals.{in-Some+in_ok-extend_from_slice, in_default}
use Rattle.cross_links.proofs.meeting.led_on.Goals as goal

pub returns : goal.returns
returns c =
    let way = c.args.way.now in
    let path = c.args.path.now in
    let end = get_or way (length way - 1) 0 in
    let is_end : end ≡ last_of way = last_at way 0 c.requires in
    let copied : c.in_ok-whole.whole.items ≡ way = c.in_ok-whole.ensures.items_if_clones_equal (λ x y h. h) in
    let found : FindsFirst path end c.position.result = IsFirst-from_position _ _ c.position.result (λ y. (y == end) ≡ true) (λ y. (y == end) ≡ false) c.position.ensures.ran (YieldsList-from_slice _ c.iter.ensures.rest) (λ x q k. search (rules, tests)) (λ x q k. search (rules, tests)) in
    elim c.match-position.branch [
      | in-Some+in_ok-extend_from_slice w ↦
          let i = w.in-Some.place in
          let at = found_at path end i c.position.result w.in-Some.is found in
          inr (
            take i path,
            drop (i + 1) path,
            at ∙ ap (λ y. take i path ++ y ∷ drop (i + 1) path) is_end,
            ap (λ v. v.items) w.whole-is ∙ (w.in_ok-extend_from_slice.ensures.items ∙ ap₂ (λ a b. a ++ b) copied (take_rest path (i + 1))),
          )
      | in_default w ↦ inl (ap (has path) (sym is_end) ∙ not_found path end c.position.result w.in_default.is found, ap (λ v. v.items) w.whole-is ∙ copied)
    ]
