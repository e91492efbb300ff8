use Rattle.spec_limits.proofs.GivenPairs.{exceeded_given, rows_together_given, order_variables_given}
use Rattle.spec_limits.proofs.laws.given_pairs_change_no_limit.Goals as goal

pub returns : goal.returns
returns c = record { exceeded = exceeded_given; rows = rows_together_given; variables = order_variables_given }
