use Rattle.currency_ask.proofs.FoundSpent.{SpentLaws, spent_reported}
use Rattle.currency_ask.proofs.reporting.undecided.Goals as goal

pub returns : goal.returns
returns c = λ q for_it.
    let laws : SpentLaws = record {
      accepted = c.search_logs_are_accepted.ensures.accepted;
      in_place = c.search_logs_are_accepted.ensures.in_place;
      writable = c.search_logs_are_writable.ensures;
      right = c.search_logs_are_right.ensures.right;
      whole = c.axioms_agree.ensures.whole;
      few_counted = c.counted_steps_are_few.ensures;
    } in
    spent_reported laws c.args.search q c.args.budget c.into_log.result c.new.result c.ranges.budget.fits for_it
    c.is_search.ensures c.requires.few c.requires.spent
    c.into_log.ensures c.new.ensures
