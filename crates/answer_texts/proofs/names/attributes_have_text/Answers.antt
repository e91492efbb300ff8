use Rattle.std.proofs.Common.{IsUtf8, subst}
use Rattle.std.proofs.lemmas.List.Elements.{All-map, All-more}
use Rattle.spec_model.specs.declared.relation.Attr.{Attr}
use Rattle.answer_texts.proofs.NameTexts.{all_of}
use Rattle.answer_texts.proofs.names.attributes_have_text.Goals as goal

pub loop-place-preserved : goal.loop-place-preserved
loop-place-preserved c = record {
  texts = All-more (λ (n : Attr). IsUtf8 n.name) c.args.attrs.now c.loop-place.place c.index-attrs-place.result
      c.loop-place-test.true
      c.loop-place.invariant.texts (subst IsUtf8 c.bytes.ensures.value c.bytes.ensures.utf8);
}

pub returns : goal.returns
returns c =
    All-map IsUtf8 (λ (n : Attr). n.name) c.args.attrs.now
    (all_of (λ (n : Attr). IsUtf8 n.name) c.args.attrs.now c.loop-place.place c.loop-place-test.false
    c.loop-place.invariant.texts)
