use Rattle.std.proofs.Common.{ap, arith, length}
use Rattle.session_command.proofs.Scripts.{script_read}
use Rattle.session_command.proofs.reading.read_entries.Goals as goal

pub returns-in-Ok-clause-read : goal.returns-in-Ok-clause-read
returns-in-Ok-clause-read g c determined =
    script_read (g.S.Shelf.texts c.args.shelf.now) c.args.name.now c.in-Ok.bytes.items c.deref.result.now
    c.entries_said.result c.in-Ok.ensures.whole c.deref.ensures.value
    (omega (arith, c.in-Ok.ensures.within, c.deref.ensures.len, ap length c.deref.ensures.value))
    (c.entries_said.ensures.said determined)
