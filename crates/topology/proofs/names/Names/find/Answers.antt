use Rattle.std.proofs.Common.{bytes_eq, position, sym, ap, ◌∙◌}
use Rattle.std.specs.String.{string_bytes}
use Rattle.topology.proofs.Numbers.{position-map}
use Rattle.topology.proofs.names.Names.find.Goals as goal

pub returns-in_err-place : goal.returns-in_err-place
returns-in_err-place c =
    c.from_residual.ensures ∙ (c.in_err-place.ensures.index ∙ (sym (position-map string_bytes (bytes_eq c.args.name.now) c.self.inside.numbers.keys) ∙ ap (position (bytes_eq c.args.name.now)) c.self.view_is))

pub returns : goal.returns
returns c = c.in_ok-place.ensures.index ∙ (sym (position-map string_bytes (bytes_eq c.args.name.now) c.self.inside.numbers.keys) ∙ ap (position (bytes_eq c.args.name.now)) c.self.view_is)
