use Rattle.text_grammar.proofs.TextLaws.{none_refused, one_refusal, one_tree}
use Rattle.spec_syntax.specs.Grammar.{SpellsSpec}
use Rattle.spec_syntax.proofs.Rules.{reads_spec}
use Rattle.spec_syntax.proofs.laws.one_specification.Goals as goal

pub returns-clause-one_tree : goal.returns-clause-one_tree
returns-clause-one_tree c = one_tree reads_spec

pub returns-clause-one_refusal : goal.returns-clause-one_refusal
returns-clause-one_refusal c = one_refusal SpellsSpec

pub returns-clause-not_both : goal.returns-clause-not_both
returns-clause-not_both c = none_refused SpellsSpec
