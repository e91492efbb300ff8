use Rattle.text_grammar.proofs.TextLaws.{read_by, refused_by}
use Rattle.report_syntax.proofs.Rules.{reads_report}
use Rattle.report_syntax.proofs.Sizes.{read_short}
use Rattle.report_syntax.proofs.read.read_report_tree.Goals as goal

pub returns-clause-read : goal.returns-clause-read
returns-clause-read c = read_by reads_report c.args.source.now c.read_text.result c.read_text.ensures.read

pub returns-clause-short : goal.returns-clause-short
returns-clause-short c =
    read_short c.args.source.now c.read_text.result (read_by reads_report c.args.source.now c.read_text.result
    c.read_text.ensures.read)

pub returns-clause-refused : goal.returns-clause-refused
returns-clause-refused c =
    refused_by reads_report c.args.source.now c.read_text.result c.read_text.ensures.refused
