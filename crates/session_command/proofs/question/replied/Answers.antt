use Rattle.std.proofs.Common.{inl}
use Rattle.std.proofs.lemmas.Result.{IfOk-weaker}
use Rattle.session_command.specs.Sessions.{session_said}
use Rattle.session_command.proofs.Replying.{reply_told, reply_writable}
use Rattle.session_command.proofs.question.replied.Goals as goal

pub told_reply-requires : goal.told_reply-requires
told_reply-requires g c =
    reply_writable c.args.session.now c.ask.new.self c.args.question.now c.args.asked.now.budget c.in-Ok.reply
    c.kept.ensures.facts c.in-Ok.ensures.replies c.in-Ok.ensures.right

pub returns-in-Ok-clause-told : goal.returns-in-Ok-clause-told
returns-in-Ok-clause-told g c =
    IfOk-weaker c.told_reply.result _ _
    (λ t h. inl (reply_told (session_said c.args.asked.now) c.args.session.now c.ask.new.self c.args.line
    c.args.question.now c.in-Ok.reply t c.in-Ok.ensures.replies c.in-Ok.ensures.right h))
    c.told_reply.ensures
