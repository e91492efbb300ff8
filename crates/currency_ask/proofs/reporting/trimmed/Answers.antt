use Rattle.std.proofs.Common.{subst, sym}
use Rattle.currency_ask.specs.Goals.{AreProved}
use Rattle.currency_ask.proofs.Derived.{ClaimLaws, HasUnits, can_trim_units, claims_reported}
use Rattle.currency_ask.proofs.reporting.trimmed.Goals as goal

pub trim-requires : goal.trim-requires
trim-requires c =
    let laws : ClaimLaws = record {
      accepted = c.search_logs_are_accepted.ensures.accepted;
      in_place = c.search_logs_are_accepted.ensures.in_place;
      trimmed_accepted = c.trimmed_logs_are_accepted.ensures.accepted;
      clauses = c.trimmed_logs_are_accepted.ensures.clauses;
      meanings = c.trimmed_logs_are_accepted.ensures.meanings;
      answers = c.trimmed_logs_are_accepted.ensures.answers;
      writable = c.trimmed_logs_are_writable.ensures.writable;
      among = c.trimmed_logs_are_writable.ensures.among;
      reached = c.trimmed_logs_are_writable.ensures.reached;
      used = c.trimmed_logs_are_writable.ensures.used;
      no_more = c.trimmed_logs_are_writable.ensures.no_more;
      right = c.search_logs_are_right.ensures.trimmed;
      completions = c.completions_are_writable.ensures;
      orders = c.literals_agree.ensures.orders;
      values = c.literals_agree.ensures.values;
    } in
    let has : HasUnits c.args.search c.into_log-log.result c.args.goals.now c.as_slice.result.now = record {
      search_is = c.is_search.ensures;
      log_is = c.into_log-log.ensures;
      few = c.requires.few_steps;
      on = c.requires.goals;
      proved = subst (AreProved c.args.search c.args.goals.now) (sym c.as_slice.ensures) c.requires.proved;
    } in
    can_trim_units laws c.args.search c.into_log-log.result c.args.goals.now c.as_slice.result.now has

pub returns : goal.returns
returns c = λ q budget for_it within one_of are listed.
    let laws : ClaimLaws = record {
      accepted = c.search_logs_are_accepted.ensures.accepted;
      in_place = c.search_logs_are_accepted.ensures.in_place;
      trimmed_accepted = c.trimmed_logs_are_accepted.ensures.accepted;
      clauses = c.trimmed_logs_are_accepted.ensures.clauses;
      meanings = c.trimmed_logs_are_accepted.ensures.meanings;
      answers = c.trimmed_logs_are_accepted.ensures.answers;
      writable = c.trimmed_logs_are_writable.ensures.writable;
      among = c.trimmed_logs_are_writable.ensures.among;
      reached = c.trimmed_logs_are_writable.ensures.reached;
      used = c.trimmed_logs_are_writable.ensures.used;
      no_more = c.trimmed_logs_are_writable.ensures.no_more;
      right = c.search_logs_are_right.ensures.trimmed;
      completions = c.completions_are_writable.ensures;
      orders = c.literals_agree.ensures.orders;
      values = c.literals_agree.ensures.values;
    } in
    let has : HasUnits c.args.search c.into_log-log.result c.args.goals.now c.as_slice.result.now = record {
      search_is = c.is_search.ensures;
      log_is = c.into_log-log.ensures;
      few = c.requires.few_steps;
      on = c.requires.goals;
      proved = subst (AreProved c.args.search c.args.goals.now) (sym c.as_slice.ensures) c.requires.proved;
    } in
    claims_reported laws c.args.search c.into_log-log.result c.args.goals.now c.as_slice.result.now has
    c.in-Ok.needed c.in-Ok.ensures c.args.verdict c.args.completions
    c.requires.listed c.requires.few c.requires.writable q budget for_it within one_of are listed
