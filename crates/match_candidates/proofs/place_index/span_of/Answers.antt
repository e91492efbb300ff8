use Rattle.match_candidates.proofs.AlikeEntries.{alike_entries, in_order}
use Rattle.match_candidates.proofs.place_index.span_of.Goals as goal

pub returns-clause-order : goal.returns-clause-order
returns-clause-order c =
    in_order c.args.value.now c.args.entries.now c.start_of-start.result c.end_of.result c.start_of-start.ensures.bound
    c.start_of-start.ensures.at c.end_of.ensures.at

pub returns-clause-alike : goal.returns-clause-alike
returns-clause-alike c =
    alike_entries c.args.table.now c.args.place c.args.value.now c.args.entries.now c.start_of-start.result c.end_of.result
    c.requires c.start_of-start.ensures.bound c.end_of.ensures.bound c.start_of-start.ensures.at c.end_of.ensures.at
