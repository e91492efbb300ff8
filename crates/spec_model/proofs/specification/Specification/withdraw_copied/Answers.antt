use Rattle.std.proofs.Common.{◌≡◌, ◌<◌, List, IfSome, length, slice_get, slice_set, ap, subst}
use Rattle.copy_functions.specs.Copies.{CopyFunction, source_at}
use Rattle.spec_model.specs.Facts.{UnmapsCopied}
use Rattle.spec_model.specs.Spec.{Spec}
use Rattle.spec_model.proofs.MappedCopies.{copy_at, copies_unmapping, unmaps_copied, was_mapped}
use Rattle.spec_model.proofs.specification.Specification.withdraw_copied.Goals as goal

pub invariant_of-self : goal.invariant_of-self
invariant_of-self c =
    let same : c.self.inside.copies.items ≡ c.args.self.now.copies = ap (λ (s : Spec). s.copies) c.self.view_is in
    let within : c.args.copy.0 < length c.self.inside.copies.items = rw same c.requires in
    let at = copy_at c.self.inside.copies.items c.args.copy.0 c.index_mut-map.result.now within c.index_mut-map.ensures.value in
    record {
      relations = c.self.invariant.relations;
      rules = c.self.invariant.rules;
      copies = copies_unmapping c.self.inside.relations.items c.self.inside.copies.items c.args.copy.0
          c.index_mut-map.result.now c.remove.new.self c.args.target c.self.invariant.copies at c.remove.ensures.value
          c.remove.ensures.copied;
    }

pub returns-clause-value : goal.returns-clause-value
returns-clause-value c =
    let same : c.self.inside.copies.items ≡ c.args.self.now.copies = ap (λ (s : Spec). s.copies) c.self.view_is in
    let within : c.args.copy.0 < length c.self.inside.copies.items = rw same c.requires in
    let at = copy_at c.self.inside.copies.items c.args.copy.0 c.index_mut-map.result.now within c.index_mut-map.ensures.value in
    subst (λ (cs : List CopyFunction). UnmapsCopied cs (slice_set c.self.inside.copies.items c.args.copy.0 c.remove.new.self)
    c.args.copy.0 c.args.target) same
    (unmaps_copied c.self.inside.copies.items c.args.copy.0 c.index_mut-map.result.now c.remove.new.self c.args.target at
    c.remove.ensures.value)

pub returns-clause-was : goal.returns-clause-was
returns-clause-was c =
    let same : c.self.inside.copies.items ≡ c.args.self.now.copies = ap (λ (s : Spec). s.copies) c.self.view_is in
    let within : c.args.copy.0 < length c.self.inside.copies.items = rw same c.requires in
    let at = copy_at c.self.inside.copies.items c.args.copy.0 c.index_mut-map.result.now within c.index_mut-map.ensures.value in
    subst (λ (cs : List CopyFunction). IfSome (slice_get cs c.args.copy.0) (λ q. c.remove.result ≡ source_at q c.args.target)) same
    (was_mapped c.self.inside.copies.items c.args.copy.0 c.index_mut-map.result.now c.args.target c.remove.result at
    c.remove.ensures.was)
