use Rattle.many_parts.proofs.Consistency.{parts_are_consistent, parts_are_inconsistent}
use Rattle.many_parts.proofs.laws.parts_are_consistent.Goals as goal

pub returns-clause-consistent : goal.returns-clause-consistent
returns-clause-consistent c =
    parts_are_consistent c.parts_narrow.ensures c.narrows_exist.ensures c.completions_fit.ensures

pub returns-clause-inconsistent : goal.returns-clause-inconsistent
returns-clause-inconsistent c = parts_are_inconsistent c.parts_narrow.ensures c.narrows_exist.ensures
