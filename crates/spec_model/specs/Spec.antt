-- What a specification says.
use Rattle.std.specs.Prelude.{List}
use Rattle.copy_functions.specs.Copies.{CopyFunction}
use Rattle.denial_rules.specs.declared.rule.Rule.{Rule}
use Rattle.spec_model.specs.declared.relation.Relation.{Relation}

-- relations, rules on them, and copy functions between them
pub record Spec : Type 0 where
  pub relations : List Relation
  pub rules : List Rule
  pub copies : List CopyFunction
