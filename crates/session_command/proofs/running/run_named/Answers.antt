use Rattle.session_command.specs.Sessions.{session_said}
use Rattle.session_command.proofs.Doing.{all_done}
use Rattle.session_command.proofs.running.run_named.Goals as goal

pub returns-in-Ok-run_entries-clause-told : goal.returns-in-Ok-run_entries-clause-told
returns-in-Ok-run_entries-clause-told g c =
    all_done (g.S.Shelf.texts c.args.shelf.now) (session_said c.args.asked.now) c.args.session.now c.args.entries.now
    c.in-Ok.told c.run_entries.new.session c.run_entries.new.into c.finished.result c.in-Ok.ensures
    c.in-Ok-run_entries.ensures.told c.finished.ensures.done
