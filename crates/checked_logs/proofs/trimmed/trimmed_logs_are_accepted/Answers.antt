use Rattle.checked_logs.proofs.GoalsSay.{goal_clauses_keep, goal_meanings_keep, goal_answers_keep}
use Rattle.checked_logs.proofs.StillAccepted.{trimmed_are_accepted}
use Rattle.checked_logs.proofs.StillNumbered.{trimmed_are_numbered}
use Rattle.checked_logs.proofs.trimmed.trimmed_logs_are_accepted.Goals as goal

pub returns-clause-accepted : goal.returns-clause-accepted
returns-clause-accepted c = trimmed_are_accepted

pub returns-clause-numbered : goal.returns-clause-numbered
returns-clause-numbered c = trimmed_are_numbered

pub returns-clause-clauses : goal.returns-clause-clauses
returns-clause-clauses c = goal_clauses_keep

pub returns-clause-meanings : goal.returns-clause-meanings
returns-clause-meanings c = goal_meanings_keep

pub returns-clause-answers : goal.returns-clause-answers
returns-clause-answers c = goal_answers_keep
