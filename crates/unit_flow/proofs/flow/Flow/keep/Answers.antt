use Rattle.std.proofs.Common.{[], ◌∷◌, length, sym, ap, subst, arith}
use Rattle.unit_flow.specs.Flows.{IsFlow, routing_task}
use Rattle.unit_flow.proofs.Kept.{path_fits, kept_path}
use Rattle.unit_flow.proofs.flow.Flow.keep.Goals as goal

pub copy_from_slice-requires : goal.copy_from_slice-requires
copy_from_slice-requires c =
    let kept = c.index_mut-kept.result.now in
    omega (arith, c.truncate.ensures.len, path_fits c.self.invariant c.self.view_is c.requires.empty c.args.path.now kept c.requires.path, ap (λ z. length z.items) c.index_mut-kept.ensures.value, kept.ok)

pub invariant_of-self : goal.invariant_of-self
invariant_of-self c =
    kept_path c.self.invariant c.self.view_is c.requires.empty c.copy_from_slice.new.self
    (subst (λ z. IsFlow (routing_task c.args.self.now) (z ∷ [])) (sym c.copy_from_slice.ensures.items) c.requires.path)
