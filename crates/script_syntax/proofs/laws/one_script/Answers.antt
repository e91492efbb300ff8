use Rattle.text_grammar.proofs.TextLaws.{none_refused, one_refusal, one_tree}
use Rattle.script_syntax.specs.Grammar.{SpellsScript}
use Rattle.script_syntax.proofs.Rules.{reads_script}
use Rattle.script_syntax.proofs.laws.one_script.Goals as goal

pub returns-clause-one_tree : goal.returns-clause-one_tree
returns-clause-one_tree c = one_tree reads_script

pub returns-clause-one_refusal : goal.returns-clause-one_refusal
returns-clause-one_refusal c = one_refusal SpellsScript

pub returns-clause-not_both : goal.returns-clause-not_both
returns-clause-not_both c = none_refused SpellsScript
