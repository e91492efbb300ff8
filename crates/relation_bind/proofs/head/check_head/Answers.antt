use Rattle.std.proofs.Common.{◌≡◌, ◌∙◌, inr, sym, subst, List, Some, None}
use Rattle.spec_names.specs.Names.{place_of}
use Rattle.spec_syntax.specs.declared.trees.AttrTree.{AttrTree}
use Rattle.relation_bind.specs.Declarations.{Declared}
use Rattle.relation_bind.specs.Steps.{ChecksHead, NamesAttrs}
use Rattle.relation_bind.proofs.Heads.{taken_fault, free_head}
use Rattle.relation_bind.proofs.head.check_head.Goals as goal

pub returns-in-Some : goal.returns-in-Some
returns-in-Some c =
    let d = c.declaration.inside in
    let at : place_of c.args.taken.now d.name.now.name ≡ Some c.in-Some.field-0 = sym c.find-place.ensures.place ∙ c.in-Some.is in
    let view : Declared = record {
      name = d.name.now;
      document = d.document.now;
      row = d.row.now;
      entity =
          d.entity.now;
      attrs = d.attrs.now;
    } in
    inr (cc (taken_fault c.args.taken.now view c.in-Some.field-0 at, c.declaration.view_is, c.at.ensures))

pub returns-in-None : goal.returns-in-None
returns-in-None c =
    let d = c.declaration.inside in
    let at : place_of c.args.taken.now d.name.now.name ≡ None = sym c.find-place.ensures.place ∙ c.in-None.is in
    let view : Declared = record {
      name = d.name.now;
      document = d.document.now;
      row = d.row.now;
      entity =
          d.entity.now;
      attrs = d.attrs.now;
    } in
    let attrs = subst (λ (xs : List AttrTree). NamesAttrs xs c.attribute_names.result) c.as_slice.ensures
    c.attribute_names.ensures in
    subst (λ (x : Declared). ChecksHead c.args.taken.now x c.attribute_names.result) c.declaration.view_is
    (free_head c.args.taken.now view c.attribute_names.result at c.in-None.ensures.missing attrs)
