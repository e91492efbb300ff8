use Rattle.variable_parts.proofs.BlockKeys.{put_all}
use Rattle.variable_parts.proofs.keys.statement_keys.Goals as goal

pub returns-clause-keys : goal.returns-clause-keys
returns-clause-keys c =
    put_all c.args.source.now c.in_ok-keys.keys.items c.push_kind.new.keys.items c.push_kind-2.new.keys.items
    c.push_kind-3.new.keys.items c.push_block.new.keys.items c.in_ok-keys.ensures.items c.in_ok-push_kind.ensures
    c.in_ok-push_kind-2.ensures c.in_ok-push_kind-3.ensures c.in_ok-push_block.ensures
