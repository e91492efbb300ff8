use Rattle.log_trim.proofs.NewPlaces.{steps_keep, statements_keep, answers_keep, goals_keep}
use Rattle.log_trim.proofs.StaysInPlace.{stays_in_place}
use Rattle.log_trim.proofs.StillFollows.{trimmed_still_follows, clauses_keep}
use Rattle.log_trim.proofs.laws.trimmed_follows.Goals as goal

pub returns-clause-follows : goal.returns-clause-follows
returns-clause-follows c = trimmed_still_follows

pub returns-clause-steps : goal.returns-clause-steps
returns-clause-steps c = steps_keep

pub returns-clause-clauses : goal.returns-clause-clauses
returns-clause-clauses c = clauses_keep

pub returns-clause-statements : goal.returns-clause-statements
returns-clause-statements c = statements_keep

pub returns-clause-answers : goal.returns-clause-answers
returns-clause-answers c = answers_keep

pub returns-clause-goals : goal.returns-clause-goals
returns-clause-goals c = goals_keep

pub returns-clause-in_place : goal.returns-clause-in_place
returns-clause-in_place c = stays_in_place
