use Rattle.std.proofs.Common.{◌≡◌, ap, ◌∙◌, bytes_eq}
use Rattle.std.proofs.lemmas.Result.{err_from_is_err_and}
use Rattle.indexmap.specs.IndexSet.{insert_key}
use Rattle.topology.proofs.RowFaults.{two_names, with_link, fault_nodes, fault_links, row_taken}
use Rattle.topology.proofs.draft.Draft.add_row.Goals as goal

pub returns-in_err-first-clause-refuses : goal.returns-in_err-first-clause-refuses
returns-in_err-first-clause-refuses c =
    let p = err_from_is_err_and c.from_residual.result c.from_residual.ensures.1 in
    rw (p.1, p.2) (λ before draft. c.in_err-first.ensures.fault before)

pub returns-then-len-gt-NODE_LIMIT-clause-refuses : goal.returns-then-len-gt-NODE_LIMIT-clause-refuses
returns-then-len-gt-NODE_LIMIT-clause-refuses c = λ before draft.
    let names : c.number-2.new.self ≡ two_names c.args.self.now.names c.in_ok-first.first.now c.in_ok-first.second.now =
    c.in_ok-b.ensures.names ∙ ap (λ ks. insert_key bytes_eq ks c.in_ok-first.second.now) c.in_ok-a.ensures.names in
    fault_nodes before _ _ c.args.self.now.names c.args.self.now.links _ _ draft c.in_ok-first.ensures.names (rw (c.len.ensures, names) at c.if-len-gt-NODE_LIMIT.true)

pub returns-then-len-gt-LINK_LIMIT-clause-refuses : goal.returns-then-len-gt-LINK_LIMIT-clause-refuses
returns-then-len-gt-LINK_LIMIT-clause-refuses c = λ before draft.
    let names : c.number-2.new.self ≡ two_names c.args.self.now.names c.in_ok-first.first.now c.in_ok-first.second.now =
    c.in_ok-b.ensures.names ∙ ap (λ ks. insert_key bytes_eq ks c.in_ok-first.second.now) c.in_ok-a.ensures.names in
    let links : c.add.new.self ≡ with_link c.args.self.now.names c.args.self.now.links c.in_ok-first.first.now c.in_ok-first.second.now =
    rw (c.in_ok-a.ensures.number, c.in_ok-b.ensures.number, c.in_ok-a.ensures.names) at c.in_ok-add.ensures.ok in
    fault_links before _ _ c.args.self.now.names c.args.self.now.links _ _ draft c.in_ok-first.ensures.names
    (rw (c.len.ensures, names) at c.if-len-gt-NODE_LIMIT.false) (rw (c.len-2.ensures, links) at c.if-len-gt-LINK_LIMIT.true)

pub returns-clause-takes : goal.returns-clause-takes
returns-clause-takes c = λ before draft.
    let names : c.number-2.new.self ≡ two_names c.args.self.now.names c.in_ok-first.first.now c.in_ok-first.second.now =
    c.in_ok-b.ensures.names ∙ ap (λ ks. insert_key bytes_eq ks c.in_ok-first.second.now) c.in_ok-a.ensures.names in
    let links : c.add.new.self ≡ with_link c.args.self.now.names c.args.self.now.links c.in_ok-first.first.now c.in_ok-first.second.now =
    rw (c.in_ok-a.ensures.number, c.in_ok-b.ensures.number, c.in_ok-a.ensures.names) at c.in_ok-add.ensures.ok in
    rw (names, links) (row_taken before _ _ c.args.self.now.names c.args.self.now.links _ _ draft c.in_ok-first.ensures.names
    (rw (c.len.ensures, names) at c.if-len-gt-NODE_LIMIT.false) (rw (c.len-2.ensures, links) at c.if-len-gt-LINK_LIMIT.false))
