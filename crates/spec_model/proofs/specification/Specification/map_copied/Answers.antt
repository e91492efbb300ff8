use Rattle.std.proofs.Common.{◌≡◌, ◌<◌, List, Option, None, IfErr, OnOk, length, slice_set, ap, subst}
use Rattle.currency_base.specs.declared.ids.RelId.{RelId}
use Rattle.copy_functions.specs.Copies.{CopyFunction}
use Rattle.copy_functions.specs.Faults.{IsDue}
use Rattle.copy_functions.specs.declared.fault.CopyFault.{CopyFault}
use Rattle.spec_model.specs.Facts.{MapsCopied, copied_due}
use Rattle.spec_model.specs.Spec.{Spec}
use Rattle.spec_model.specs.contracts.specification.Specification.{the_view}
use Rattle.spec_model.proofs.MappedCopies.{are_read, copies_mapping, maps_copied, kept_spec, due_is}
use Rattle.spec_model.proofs.specification.Specification.map_copied.Goals as goal

pub invariant_of-self : goal.invariant_of-self
invariant_of-self c =
    let same : c.self.inside.copies.items ≡ c.args.self.now.copies = ap (λ (s : Spec). s.copies) c.self.view_is in
    let within : c.args.copy.0 < length c.self.inside.copies.items = rw same c.requires.within in
    let are = are_read c.self.inside.relations.items c.self.inside.copies.items c.args.copy.0 c.index_mut-map.result.now c.target.result.0
    c.source.result.0 c.index.result.now c.index-2.result.now c.self.invariant.copies within c.index_mut-map.ensures.value
    (ap (λ (rel : RelId). rel.0) c.target.ensures) (ap (λ (rel : RelId). rel.0) c.source.ensures) c.index.ensures
    c.index-2.ensures in
    record {
      relations = c.self.invariant.relations;
      rules = c.self.invariant.rules;
      copies = copies_mapping c.self.inside.relations.items c.self.inside.copies.items c.args.copy.0 c.index_mut-map.result.now
          c.add.new.self c.index.result.now c.index-2.result.now c.args.target c.args.source c.add.result
          c.self.invariant.copies are c.add.ensures.value c.add.ensures.err c.add.ensures.copied;
    }

pub returns-clause-ok : goal.returns-clause-ok
returns-clause-ok c =
    let same : c.self.inside.copies.items ≡ c.args.self.now.copies = ap (λ (s : Spec). s.copies) c.self.view_is in
    let within : c.args.copy.0 < length c.self.inside.copies.items = rw same c.requires.within in
    let are = are_read c.self.inside.relations.items c.self.inside.copies.items c.args.copy.0 c.index_mut-map.result.now c.target.result.0
    c.source.result.0 c.index.result.now c.index-2.result.now c.self.invariant.copies within c.index_mut-map.ensures.value
    (ap (λ (rel : RelId). rel.0) c.target.ensures) (ap (λ (rel : RelId). rel.0) c.source.ensures) c.index.ensures
    c.index-2.ensures in
    subst (λ (cs : List CopyFunction). OnOk c.add.result (MapsCopied cs (slice_set c.self.inside.copies.items c.args.copy.0 c.add.new.self)
    c.args.copy.0 c.args.target c.args.source)) same
    (maps_copied c.self.inside.copies.items c.args.copy.0 c.index_mut-map.result.now c.add.new.self c.args.target c.args.source c.add.result
    are.is_copy c.add.ensures.value)

pub returns-clause-faultless : goal.returns-clause-faultless
returns-clause-faultless c =
    let same : c.self.inside.copies.items ≡ c.args.self.now.copies = ap (λ (s : Spec). s.copies) c.self.view_is in
    let within : c.args.copy.0 < length c.self.inside.copies.items = rw same c.requires.within in
    let are = are_read c.self.inside.relations.items c.self.inside.copies.items c.args.copy.0 c.index_mut-map.result.now c.target.result.0
    c.source.result.0 c.index.result.now c.index-2.result.now c.self.invariant.copies within c.index_mut-map.ensures.value
    (ap (λ (rel : RelId). rel.0) c.target.ensures) (ap (λ (rel : RelId). rel.0) c.source.ensures) c.index.ensures
    c.index-2.ensures in
    let due = due_is (the_view c.self.inside) c.args.copy.0 c.index_mut-map.result.now c.index.result.now c.index-2.result.now
    c.args.target c.args.source are in
    subst (λ (s : Spec). OnOk c.add.result (copied_due s c.args.copy.0 c.args.target c.args.source ≡ None)) c.self.view_is
    (subst (λ (d : Option CopyFault). OnOk c.add.result (d ≡ None)) due c.add.ensures.faultless)

pub returns-clause-due : goal.returns-clause-due
returns-clause-due c =
    let same : c.self.inside.copies.items ≡ c.args.self.now.copies = ap (λ (s : Spec). s.copies) c.self.view_is in
    let within : c.args.copy.0 < length c.self.inside.copies.items = rw same c.requires.within in
    let are = are_read c.self.inside.relations.items c.self.inside.copies.items c.args.copy.0 c.index_mut-map.result.now c.target.result.0
    c.source.result.0 c.index.result.now c.index-2.result.now c.self.invariant.copies within c.index_mut-map.ensures.value
    (ap (λ (rel : RelId). rel.0) c.target.ensures) (ap (λ (rel : RelId). rel.0) c.source.ensures) c.index.ensures
    c.index-2.ensures in
    let due = due_is (the_view c.self.inside) c.args.copy.0 c.index_mut-map.result.now c.index.result.now c.index-2.result.now
    c.args.target c.args.source are in
    subst (λ (s : Spec). IfErr c.add.result (IsDue (copied_due s c.args.copy.0 c.args.target c.args.source))) c.self.view_is
    (subst (λ (d : Option CopyFault). IfErr c.add.result (IsDue d)) due c.add.ensures.due)

pub returns-clause-err : goal.returns-clause-err
returns-clause-err c =
    kept_spec (the_view c.self.inside) c.args.self.now c.args.copy.0 c.index_mut-map.result.now c.add.new.self c.add.result
    c.index_mut-map.ensures.value c.add.ensures.err c.self.view_is
