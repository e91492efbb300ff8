use Rattle.session_command.specs.Sessions.{session_said}
use Rattle.session_command.proofs.Asking.{question_asked}
use Rattle.session_command.proofs.question.run_question.Goals as goal

pub returns-in-Ok-replied-clause-asked : goal.returns-in-Ok-replied-clause-asked
returns-in-Ok-replied-clause-asked g c =
    question_asked (g.S.Shelf.texts c.args.shelf.now) (session_said c.args.asked.now) c.args.session.now
    c.replied.new.session c.args.line c.args.tree.now c.in-Ok.question c.in-Ok-replied.told
    (rw c.spec.ensures.value at (c.in-Ok.ensures.bound tt)) c.in-Ok-replied.ensures.told
