use Rattle.watch_propagate.proofs.KeptRules.{keeps_assumed, keeps_begun, keeps_dropped, keeps_implied, keeps_learned, keeps_quiet, keeps_rebased, keeps_undone}
use Rattle.watch_propagate.proofs.laws.watch_rule_is_kept.Goals as goal

pub returns-clause-begun : goal.returns-clause-begun
returns-clause-begun c = keeps_begun

pub returns-clause-assumed : goal.returns-clause-assumed
returns-clause-assumed c = keeps_assumed

pub returns-clause-implied : goal.returns-clause-implied
returns-clause-implied c = keeps_implied

pub returns-clause-undone : goal.returns-clause-undone
returns-clause-undone c = keeps_undone

pub returns-clause-rebased : goal.returns-clause-rebased
returns-clause-rebased c = keeps_rebased

pub returns-clause-dropped : goal.returns-clause-dropped
returns-clause-dropped c = keeps_dropped

pub returns-clause-learned : goal.returns-clause-learned
returns-clause-learned c = keeps_learned

pub returns-clause-quiet : goal.returns-clause-quiet
returns-clause-quiet c = keeps_quiet
