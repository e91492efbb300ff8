use Rattle.text_grammar.proofs.TextLaws.{read_by, refused_by}
use Rattle.script_syntax.proofs.Rules.{reads_script}
use Rattle.script_syntax.proofs.read.read_script.Goals as goal

pub returns-clause-read : goal.returns-clause-read
returns-clause-read c = read_by reads_script c.args.source.now c.read_text.result c.read_text.ensures.read

pub returns-clause-refused : goal.returns-clause-refused
returns-clause-refused c = refused_by reads_script c.args.source.now c.read_text.result c.read_text.ensures.refused
