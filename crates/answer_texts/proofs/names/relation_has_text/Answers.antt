use Rattle.std.proofs.Common.{List, All, IsUtf8, map, subst}
use Rattle.currency_base.specs.declared.row.Row.{Row}
use Rattle.spec_model.specs.declared.relation.Attr.{Attr}
use Rattle.answer_texts.proofs.names.relation_has_text.Goals as goal

pub returns : goal.returns
returns c = record {
  relation = subst IsUtf8 c.bytes.ensures.value c.bytes.ensures.utf8;
  attrs = subst (λ (xs : List Attr). All IsUtf8 (map (λ a. a.name) xs)) c.as_slice.ensures c.attributes_have_text.ensures;
  entities = subst (All IsUtf8) c.as_slice-2.ensures c.names_are_text.ensures;
  rows = subst (λ (xs : List Row). All IsUtf8 (map (λ row. row.name) xs)) c.as_slice-3.ensures c.rows_have_text.ensures;
}
