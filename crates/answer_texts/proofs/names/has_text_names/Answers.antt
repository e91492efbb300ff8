use Rattle.std.proofs.Common.{All, subst}
use Rattle.report_write.specs.Writable.{HasTextNames}
use Rattle.answer_texts.proofs.names.has_text_names.Goals as goal

pub returns : goal.returns
returns c = subst (All HasTextNames) c.relations.ensures.value c.relations_have_text.ensures
