-- A place past the first is of the kind of an attribute.
use Rattle.currency_base.specs.declared.value.ValueKind.TheVariants.{Text}
use Rattle.spec_model.specs.Facts.{kinds_of}
use Rattle.query_bind.proofs.Walk.{past_first}
use Rattle.query_bind.proofs.kinds.place_kind.Goals as goal

pub returns : goal.returns
returns c = past_first Text (kinds_of c.args.relation.now) c.args.place c.attr_kind.result c.if-place-eq0.false
    c.attr_kind.ensures
