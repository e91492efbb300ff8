-- Laws of the questions for facts, as statements.
use Rattle.std.specs.Prelude.{◌↔◌, List}
use Rattle.spec_model.specs.Completion.{Rankings, IsCompletion}
use Rattle.spec_model.specs.Facts.{AreRelations}
use Rattle.spec_model.specs.declared.relation.Relation.{Relation}
use Rattle.unit_questions.specs.Facts.{FactHolds, IsFactQuestion}
use Rattle.posed_facts.specs.Facts.{FactIn, IsPosable}
use Rattle.posed_facts.specs.Questions.{fact_question}
use Rattle.posed_facts.specs.declared.fact.Fact.{Fact}

-- the question for a fact is one for a fact, which holds in each completion exactly where the fact does
pub record IsAsked (relations : List Relation) (f : Fact) : Type 0 where
  pub question : IsFactQuestion relations (fact_question relations f)
  pub asks : (c : Rankings) → IsCompletion relations c → FactHolds relations (fact_question relations f) c ↔ FactIn relations f c

abbrev pub FactsAreAsked : Type 0
FactsAreAsked = (relations : List Relation) (f : Fact) → AreRelations relations → IsPosable relations f → IsAsked relations f
