use Rattle.std.proofs.Common.{IsUtf8, subst}
use Rattle.answer_texts.proofs.NameTexts.{one_more, all_of}
use Rattle.answer_texts.proofs.names.names_are_text.Goals as goal

pub loop-place-preserved : goal.loop-place-preserved
loop-place-preserved c = record {
  texts = one_more IsUtf8 c.args.names.now c.loop-place.place c.index-names-place.result c.loop-place-test.true
      c.index-names-place.is c.loop-place.invariant.texts (subst IsUtf8 c.bytes.ensures.value c.bytes.ensures.utf8);
}

pub returns : goal.returns
returns c = all_of IsUtf8 c.args.names.now c.loop-place.place c.loop-place-test.false c.loop-place.invariant.texts
