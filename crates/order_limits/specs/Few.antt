-- How many statements a specification within its limits has.
use Rattle.std.specs.Prelude.{◌≡◌, ◌<◌, ◌≤◌, ◌^◌, None, length}
use Rattle.spec_model.specs.Spec.{Spec}
use Rattle.spec_model.specs.Facts.{IsSpecification}
use Rattle.spec_limits.specs.Limits.{exceeded, too_many_variables}
use Rattle.order_literals.specs.declared.wanted.Wanted.{Wanted}
use Rattle.order_literals.specs.Numbers.{numbers_of}
use Rattle.order_literals.specs.Statements.{statements_of}

-- within the limits on relations, attributes, rows and order variables, and with at most a million answers, there are fewer
-- statements than literals have variables
abbrev pub StatementsAreFew : Type 0
StatementsAreFew = (s : Spec) (wanted : Wanted) → IsSpecification s → exceeded s ≡ None → too_many_variables s ≡ None
    → wanted.answers ≤ 1000000 → length (statements_of (numbers_of s.relations wanted)) < 2 ^ 31
