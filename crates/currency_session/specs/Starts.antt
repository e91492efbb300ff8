-- What a search may start from.
use Rattle.std.specs.Prelude.{◌≡◌, Bool, true, IfSome}
use Rattle.spec_model.specs.Completion.{HasShape}
use Rattle.spec_model.specs.Consistent.{IsConsistent}
use Rattle.spec_model.specs.Spec.{Spec}
use Rattle.currency_session.specs.declared.start.Start.{Start}

-- a consistent completion, if one is known, and one that has a list per relation, attribute and entity, if one is lost
pub record IsStart (s : Spec) (start : Start) : Type 0 where
  pub known : IfSome start.known (IsConsistent s)
  pub lost : IfSome start.lost (λ l. HasShape s.relations l.completion)

-- the same of one that was known before an edit: it has such lists, and is consistent where it stays
pub record IsStartBefore (s : Spec) (stays : Bool) (start : Start) : Type 0 where
  pub known : stays ≡ true → IfSome start.known (IsConsistent s)
  pub shape : IfSome start.known (HasShape s.relations)
  pub lost : IfSome start.lost (λ l. HasShape s.relations l.completion)
