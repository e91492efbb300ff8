-- When a completion satisfies one rule.
use Rattle.std.specs.Prelude.{◌≡◌, List, [], Some, slice_get, slice_index_or}
use Rattle.denial_rules.specs.declared.rule.Rule.{Rule}
use Rattle.spec_model.specs.Completion.{Rankings}
use Rattle.spec_model.specs.Satisfies.{SatisfiesRule}
use Rattle.spec_model.specs.declared.relation.Relation.{Relation}

-- the rule is satisfied on its relation
abbrev pub SatisfiesOne : List Relation → Rankings → Rule → Type 0
SatisfiesOne relations c rule = (r : Relation) → slice_get relations rule.relation.0 ≡ Some r → SatisfiesRule r.rows
    (slice_index_or c rule.relation.0 []) rule
