-- What the places of rows say of one rule, as the definitions say it.
use Rattle.std.proofs.Common.{◌≡◌, List, [], IfNone, IfSome, None, Option, Some, slice_get, slice_index_or, subst, sym}
use Rattle.currency_base.specs.declared.ids.RowId.{RowId}
use Rattle.denial_rules.specs.Rules.{IsRuleOn}
use Rattle.denial_rules.specs.declared.rule.Rule.{Rule}
use Rattle.spec_model.specs.Completion.{Rankings}
use Rattle.spec_model.specs.Facts.{kinds_of}
use Rattle.spec_model.specs.Satisfies.{Lists, SatisfiesRule}
use Rattle.spec_model.specs.declared.relation.Relation.{Relation}
use Rattle.completion_check.specs.Breaks.{IsFirstBreak, NoChoiceBreaks, tried}
use Rattle.completion_check.specs.OneRule.{SatisfiesOne}
use Rattle.completion_check.specs.Relations.{AreAllMarked, IsFirstUnrankedOf, IsRanked}
use Rattle.completion_check.specs.Tests.{Places}
use Rattle.completion_check.specs.declared.relations.ListId.{ListId}
use Rattle.completion_check.proofs.Meaning.{IsScene, broken_breaking, satisfied_unbroken}

-- where each list is a ranking, none is found that is not, and all rows have their places
pub all_marked : (r : Relation) (lists : Lists) (places : Places) (found : Option ListId) → IsRanked r lists
    → IfNone found (AreAllMarked r lists places) → IfSome found (λ p. IsFirstUnrankedOf r lists p.attr.0 p.ent.0)
    → AreAllMarked r lists places
all_marked r lists places None ranked marked first = marked
all_marked r lists places (Some p) ranked marked first =
    absurd (first.broken (ranked p.attr.0 p.ent.0 first.attr_within first.ent_within))

-- where no choice of rows breaks the rule, it is satisfied
pub satisfied : (r : Relation) (lists : Lists) (places : Places) (rule : Rule) → IsScene r lists places
    → IsRuleOn (kinds_of r) rule → NoChoiceBreaks (tried rule r places) → SatisfiesRule r.rows lists rule
satisfied r lists places rule scene is none rows choice =
    satisfied_unbroken r lists places rule rows scene is choice (none rows choice)

-- and where one does, it is not
pub unsatisfied : (r : Relation) (lists : Lists) (places : Places) (rule : Rule) (rows : List RowId) → IsScene r lists places
    → IsRuleOn (kinds_of r) rule → IsFirstBreak (tried rule r places) rows → SatisfiesRule r.rows lists rule → ⊥
unsatisfied r lists places rule rows scene is first satisfies =
    let broken = broken_breaking r lists places rule rows scene is first.choice first.breaks in
    broken.conclusion (satisfies rows broken.choice broken.predicates)

-- a rule that its relation's lists do not satisfy is not satisfied by the completion
pub not_one : (relations : List Relation) (c : Rankings) (rule : Rule) (r : Relation) (lists : Lists)
    → slice_get relations rule.relation.0 ≡ Some r → lists ≡ slice_index_or c rule.relation.0 []
    → (SatisfiesRule r.rows lists rule → ⊥) → SatisfiesOne relations c rule → ⊥
not_one relations c rule r lists at same fails one =
    fails (subst (λ (l : Lists). SatisfiesRule r.rows l rule) (sym same) (one r at))
