use Rattle.std.proofs.lemmas.Result.{on_ok_weaker}
use Rattle.trial_documents.specs.Documents.{questions}
use Rattle.trial_documents.proofs.Puts.{four_more}
use Rattle.trial_documents.proofs.documents.put_questions.Goals as goal

pub returns : goal.returns
unfolding questions
returns c =
    on_ok_weaker c.put-4.result
    (λ put. four_more _ _ _ _ _ _ _ _ _ c.in_ok-put.ensures.ok c.in_ok-put-2.ensures.ok c.in_ok-put-3.ensures.ok put)
    c.put-4.ensures.ok
