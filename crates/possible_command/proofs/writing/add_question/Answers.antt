use Rattle.std.proofs.Common.{◌≡◌, ◌∙◌, ◌++◌, ℕ, List, OnOk, codes, subst}
use Rattle.fact_write.specs.Pieces.{fact_pieces}
use Rattle.log_write.specs.Pieces.{word}
use Rattle.possible_command.proofs.Written.{text_is}
use Rattle.possible_command.proofs.writing.add_question.Goals as goal

pub returns : goal.returns
returns c =
    subst (λ (text : List ℕ). OnOk c.append.result (c.append.new.into ≡ c.args.into.now ++ text))
    (c.as_slice-2.ensures ∙ c.into_text.ensures
    ∙ text_is c.write_question.new.into c.new-line.result
    (word (codes "question") ++ fact_pieces c.args.spec.now.relations c.args.fact.now) c.new-line.ensures
    c.in_ok-write_question.ensures)
    c.append.ensures
