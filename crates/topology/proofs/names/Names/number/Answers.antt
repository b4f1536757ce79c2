use Rattle.std.proofs.Common.{bytes_eq, map, refl, sym, ap, ap₂, ◌∙◌}
use Rattle.std.specs.String.{string_bytes}
use Rattle.indexmap.specs.IndexSet.{insert_key}
use Rattle.topology.specs.Topology.{node_of}
use Rattle.topology.proofs.Distinct.{map-inserted, insert_known}
use Rattle.topology.proofs.Numbers.{position_found, position_missed, position_past}
use Rattle.topology.proofs.names.Names.number.Goals as goal

pub returns-in-Some-clause-number : goal.returns-in-Some-clause-number
unfolding node_of
returns-in-Some-clause-number c = (position_found (bytes_eq c.args.name.now) c.args.self.now c.in-Some.number c.in-Some.ensures).0

pub returns-in-Some-clause-names : goal.returns-in-Some-clause-names
returns-in-Some-clause-names c = sym (insert_known bytes_eq c.args.self.now c.args.name.now (position_found (bytes_eq c.args.name.now) c.args.self.now c.in-Some.number c.in-Some.ensures).1)

pub returns-clause-number : goal.returns-clause-number
unfolding node_of
returns-clause-number c = c.len-number.ensures ∙ sym (position_past (bytes_eq c.args.name.now) c.args.self.now (position_missed (bytes_eq c.args.name.now) c.args.self.now c.in_default.ensures))

pub returns-clause-names : goal.returns-clause-names
returns-clause-names c =
    let keys = c.in_ok-insert.ensures.keys in
    ap (map string_bytes) keys ∙ (map-inserted string_bytes _ bytes_eq (λ x y. refl) c.self.inside.numbers.keys c.in_ok-from_str.field-0 ∙ ap₂ (insert_key bytes_eq) c.self.view_is c.in_ok-from_str.ensures.ok)
