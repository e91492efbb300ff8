use Rattle.report_write.specs.Writable.{HasTextNames}
use Rattle.answer_texts.proofs.NameTexts.{one_more, all_of}
use Rattle.answer_texts.proofs.names.relations_have_text.Goals as goal

pub loop-place-preserved : goal.loop-place-preserved
loop-place-preserved c = record {
  texts = one_more HasTextNames c.args.relations.now c.loop-place.place c.index-relations-place.result c.loop-place-test.true
      c.index-relations-place.is c.loop-place.invariant.texts c.relation_has_text.ensures;
}

pub returns : goal.returns
returns c = all_of HasTextNames c.args.relations.now c.loop-place.place c.loop-place-test.false c.loop-place.invariant.texts
