use Rattle.std.proofs.Common.{IsUtf8, subst}
use Rattle.std.proofs.lemmas.List.Elements.{All-map, All-more}
use Rattle.currency_base.specs.declared.row.Row.{Row}
use Rattle.answer_texts.proofs.NameTexts.{all_of}
use Rattle.answer_texts.proofs.names.rows_have_text.Goals as goal

pub loop-place-preserved : goal.loop-place-preserved
loop-place-preserved c = record {
  texts = All-more (λ (n : Row). IsUtf8 n.name) c.args.rows.now c.loop-place.place c.index-rows-place.result
      c.loop-place-test.true
      c.loop-place.invariant.texts (subst IsUtf8 c.bytes.ensures.value c.bytes.ensures.utf8);
}

pub returns : goal.returns
returns c =
    All-map IsUtf8 (λ (n : Row). n.name) c.args.rows.now
    (all_of (λ (n : Row). IsUtf8 n.name) c.args.rows.now c.loop-place.place c.loop-place-test.false c.loop-place.invariant.texts)
