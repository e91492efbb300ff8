use Rattle.spec_parts.proofs.Indexing.{put_again}
use Rattle.spec_parts.proofs.index.put_pair.Goals as goal

pub returns : goal.returns
returns c =
    put_again c.args.lists.now c.replace-list.new.self c.replace.new.self c.args.entity.0 c.replace-list.result c.new.result
    c.push.new.self c.args.pair
    c.replace-list.ensures.old c.replace-list.ensures.new c.in_ok-push.ensures.ok c.replace.ensures.new
