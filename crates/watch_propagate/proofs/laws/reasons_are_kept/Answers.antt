use Rattle.watch_propagate.proofs.ReasonFacts.{reasons_added, reasons_assumed, reasons_implied, reasons_propagated, reasons_rebased, reasons_undone}
use Rattle.watch_propagate.proofs.laws.reasons_are_kept.Goals as goal

pub returns-clause-propagated : goal.returns-clause-propagated
returns-clause-propagated c = reasons_propagated

pub returns-clause-assumed : goal.returns-clause-assumed
returns-clause-assumed c = reasons_assumed

pub returns-clause-implied : goal.returns-clause-implied
returns-clause-implied c = reasons_implied

pub returns-clause-undone : goal.returns-clause-undone
returns-clause-undone c = reasons_undone

pub returns-clause-rebased : goal.returns-clause-rebased
returns-clause-rebased c = reasons_rebased

pub returns-clause-added : goal.returns-clause-added
returns-clause-added c = reasons_added
