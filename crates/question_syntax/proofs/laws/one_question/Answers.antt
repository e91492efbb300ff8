use Rattle.text_grammar.proofs.TextLaws.{none_refused, one_refusal, one_tree}
use Rattle.question_syntax.specs.Grammar.{SpellsQuestion}
use Rattle.question_syntax.proofs.Rules.{reads_question}
use Rattle.question_syntax.proofs.laws.one_question.Goals as goal

pub returns-clause-one_tree : goal.returns-clause-one_tree
returns-clause-one_tree c = one_tree reads_question

pub returns-clause-one_refusal : goal.returns-clause-one_refusal
returns-clause-one_refusal c = one_refusal SpellsQuestion

pub returns-clause-not_both : goal.returns-clause-not_both
returns-clause-not_both c = none_refused SpellsQuestion
