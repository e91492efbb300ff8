use Rattle.command_stages.proofs.StageLemmas.{tree_refused, table_unread}
use Rattle.command_stages.proofs.stages.spec_said.Goals as goal

pub returns-in-Err-clause-said : goal.returns-in-Err-clause-said
returns-in-Err-clause-said g c determined =
    tree_refused (g.S.Shelf.texts c.args.shelf.now) c.args.name.now c.args.bytes.now c.in-Err.trouble
    (c.in-Err.ensures.tree determined)

pub returns-in-Err-bind_spec-clause-unread : goal.returns-in-Err-bind_spec-clause-unread
returns-in-Err-bind_spec-clause-unread g c =
    table_unread (g.S.Shelf.texts c.args.shelf.now) c.args.name.now c.args.bytes.now c.in-Ok.tree
    c.in-Err-bind_spec.fault c.of_binding.result (c.in-Ok.ensures.tree tt)
    c.of_binding.ensures.due c.in-Err-bind_spec.ensures.table_due
