use Rattle.std.proofs.Common.{◌≡◌, ◌<◌, Option, None, IfErr, OnOk, length, ap, subst}
use Rattle.currency_base.specs.declared.ids.RelId.{RelId}
use Rattle.copy_functions.specs.Faults.{IsDue}
use Rattle.copy_functions.specs.declared.fault.CopyFault.{CopyFault}
use Rattle.spec_model.specs.Facts.{copied_due}
use Rattle.spec_model.specs.Spec.{Spec}
use Rattle.spec_model.specs.contracts.specification.Specification.{the_view}
use Rattle.spec_model.proofs.MappedCopies.{are_read, due_is}
use Rattle.spec_model.proofs.specification.Specification.check_copied.Goals as goal

pub returns-clause-faultless : goal.returns-clause-faultless
returns-clause-faultless c =
    let same : c.self.inside.copies.items ≡ c.args.self.now.copies = ap (λ (s : Spec). s.copies) c.self.view_is in
    let within : c.args.copy.0 < length c.self.inside.copies.items = rw same c.requires.within in
    let are = are_read c.self.inside.relations.items c.self.inside.copies.items c.args.copy.0 c.index-map.result.now
    c.target.result.0 c.source.result.0 c.index.result.now c.index-2.result.now c.self.invariant.copies within
    c.index-map.ensures (ap (λ (rel : RelId). rel.0) c.target.ensures) (ap (λ (rel : RelId). rel.0) c.source.ensures)
    c.index.ensures c.index-2.ensures in
    let due = due_is (the_view c.self.inside) c.args.copy.0 c.index-map.result.now c.index.result.now c.index-2.result.now
    c.args.target c.args.source are in
    subst (λ (s : Spec). OnOk c.check.result (copied_due s c.args.copy.0 c.args.target c.args.source ≡ None)) c.self.view_is
    (subst (λ (d : Option CopyFault). OnOk c.check.result (d ≡ None)) due c.check.ensures.faultless)

pub returns-clause-due : goal.returns-clause-due
returns-clause-due c =
    let same : c.self.inside.copies.items ≡ c.args.self.now.copies = ap (λ (s : Spec). s.copies) c.self.view_is in
    let within : c.args.copy.0 < length c.self.inside.copies.items = rw same c.requires.within in
    let are = are_read c.self.inside.relations.items c.self.inside.copies.items c.args.copy.0 c.index-map.result.now
    c.target.result.0 c.source.result.0 c.index.result.now c.index-2.result.now c.self.invariant.copies within
    c.index-map.ensures (ap (λ (rel : RelId). rel.0) c.target.ensures) (ap (λ (rel : RelId). rel.0) c.source.ensures)
    c.index.ensures c.index-2.ensures in
    let due = due_is (the_view c.self.inside) c.args.copy.0 c.index-map.result.now c.index.result.now c.index-2.result.now
    c.args.target c.args.source are in
    subst (λ (s : Spec). IfErr c.check.result (IsDue (copied_due s c.args.copy.0 c.args.target c.args.source))) c.self.view_is
    (subst (λ (d : Option CopyFault). IfErr c.check.result (IsDue d)) due c.check.ensures.due)
