use Rattle.log_form.proofs.Within.{form_within}
use Rattle.log_form.proofs.form.literals_are_of_statements.Goals as goal

pub returns : goal.returns
returns c = form_within
