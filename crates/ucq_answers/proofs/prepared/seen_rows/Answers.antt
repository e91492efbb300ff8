use Rattle.ucq_answers.proofs.Keeping.{seen_all}
use Rattle.ucq_answers.proofs.prepared.seen_rows.Goals as goal

pub returns : goal.returns
returns c = seen_all c.args.instance.now.relations c.args.order.now c.args.conditions.now.tests c.in_ok-kept.kept.items
    c.deref.result.now c.is_unmatched-is_unmatched.result c.deref.ensures.value c.in_ok-kept.ensures
    c.is_unmatched-is_unmatched.ensures
