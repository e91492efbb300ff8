use Rattle.std.proofs.Common.{◌∙◌, ◌<◌, length, arith}
use Rattle.session_command.specs.Sessions.{session_said}
use Rattle.session_command.proofs.Going.{due_more, told_more}
use Rattle.session_command.proofs.running.run_entries.Goals as goal

pub loop-entry-preserved : goal.loop-entry-preserved
loop-entry-preserved g c =
    let texts = g.S.Shelf.texts c.args.shelf.now in
    let now = g.S.Shelf.texts c.loop-entry.shelf in
    let said = session_said c.args.asked.now in
    let inside : c.loop-entry.entry-index < length c.args.entries.now = omega (arith, c.loop-entry-test.true) in
    record {
      kept = c.in-Ok.ensures.kept ∙ c.loop-entry.invariant.kept;
      later = omega (arith, c.loop-entry.invariant.later, c.in-Ok.ensures.later);
      named = c.in-Ok.ensures.names;
      so_far = told_more texts now said c.args.session.now c.args.entries.now c.args.into.now c.loop-entry.session
          c.loop-entry.entry-index c.entry-item.result c.loop-entry.into c.add_entry.new.session c.add_entry.new.into
          c.loop-entry.invariant.kept inside c.entry-item.is c.in-Ok.ensures.told c.loop-entry.invariant.so_far;
      tables = due_more texts now said c.args.session.now c.args.entries.now c.loop-entry.session
          c.loop-entry.entry-index c.entry-item.result c.loop-entry.into c.add_entry.new.session c.add_entry.new.into
          c.loop-entry.invariant.kept inside c.entry-item.is c.in-Ok.ensures.told c.loop-entry.invariant.tables;
    }
