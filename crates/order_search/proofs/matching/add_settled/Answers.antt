use Rattle.order_search.proofs.Matched.{match_for}
use Rattle.order_search.proofs.matching.add_settled.Goals as goal

pub is_settled-requires : goal.is_settled-requires
is_settled-requires g c =
    let old = c.args.progress.now in
    match_for c.args.subject.now old.solver old.brought.items c.args.completion.now c.args.m.now c.args.answer
    c.requires.held c.requires.is_match
