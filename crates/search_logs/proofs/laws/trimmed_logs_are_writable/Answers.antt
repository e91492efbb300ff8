use Rattle.search_logs.proofs.Trimmed.{all_reached}
use Rattle.search_logs.proofs.Used.{all_named, all_used, answers_stay, counted_no_more}
use Rattle.search_logs.proofs.Whole.{trimmed_logs_among, trimmed_logs_writable}
use Rattle.search_logs.proofs.laws.trimmed_logs_are_writable.Goals as goal

pub returns-clause-writable : goal.returns-clause-writable
returns-clause-writable c = trimmed_logs_writable c.statements_are_few.ensures

pub returns-clause-among : goal.returns-clause-among
returns-clause-among c = trimmed_logs_among

pub returns-clause-reached : goal.returns-clause-reached
returns-clause-reached c log goals trimmed inside = all_reached log goals trimmed

pub returns-clause-used : goal.returns-clause-used
returns-clause-used c log goals trimmed t = record {
  statements = all_used log goals trimmed t;
  answers = all_named log goals trimmed t;
}

pub returns-clause-no_more : goal.returns-clause-no_more
returns-clause-no_more c log goals trimmed t = record {
  counted = counted_no_more log goals trimmed t;
  answers = answers_stay log goals trimmed t;
}
