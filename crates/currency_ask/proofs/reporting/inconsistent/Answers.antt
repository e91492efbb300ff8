use Rattle.currency_ask.proofs.FoundEmpty.{EmptyLaws, HasEmptyStep, can_trim, empty_reported}
use Rattle.currency_ask.proofs.reporting.inconsistent.Goals as goal

pub trim-requires : goal.trim-requires
trim-requires c =
    let laws : EmptyLaws = record {
      accepted = c.search_logs_are_accepted.ensures.accepted;
      in_place = c.search_logs_are_accepted.ensures.in_place;
      trimmed_accepted = c.trimmed_logs_are_accepted.ensures.accepted;
      clauses = c.trimmed_logs_are_accepted.ensures.clauses;
      writable = c.trimmed_logs_are_writable.ensures.writable;
      among = c.trimmed_logs_are_writable.ensures.among;
      reached = c.trimmed_logs_are_writable.ensures.reached;
      used = c.trimmed_logs_are_writable.ensures.used;
      no_more = c.trimmed_logs_are_writable.ensures.no_more;
      right = c.search_logs_are_right.ensures.trimmed;
    } in
    can_trim laws c.args.search c.into_log-log.result c.args.place record {
      search_is = c.is_search.ensures;
      log_is = c.into_log-log.ensures;
      few = c.requires.few;
      empty = c.requires.empty;
    }

pub returns : goal.returns
returns c = λ q budget for_it within.
    let laws : EmptyLaws = record {
      accepted = c.search_logs_are_accepted.ensures.accepted;
      in_place = c.search_logs_are_accepted.ensures.in_place;
      trimmed_accepted = c.trimmed_logs_are_accepted.ensures.accepted;
      clauses = c.trimmed_logs_are_accepted.ensures.clauses;
      writable = c.trimmed_logs_are_writable.ensures.writable;
      among = c.trimmed_logs_are_writable.ensures.among;
      reached = c.trimmed_logs_are_writable.ensures.reached;
      used = c.trimmed_logs_are_writable.ensures.used;
      no_more = c.trimmed_logs_are_writable.ensures.no_more;
      right = c.search_logs_are_right.ensures.trimmed;
    } in
    let has : HasEmptyStep c.args.search c.into_log-log.result c.args.place = record {
      search_is = c.is_search.ensures;
      log_is = c.into_log-log.ensures;
      few = c.requires.few;
      empty = c.requires.empty;
    } in
    empty_reported laws c.args.search c.into_log-log.result c.args.place c.in-Ok.trimmed q budget c.new.result for_it within
    has c.in-Ok.ensures c.new.ensures
