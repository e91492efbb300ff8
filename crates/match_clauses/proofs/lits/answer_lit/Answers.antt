use Rattle.std.proofs.Common.{false}
use Rattle.refutation_log.specs.declared.statement.Statement.TheVariants as says
use Rattle.currency_base.specs.Literals.{literal}
use Rattle.order_literals.proofs.Items.{place_of}
use Rattle.order_literals.proofs.Members.{in_answer}
use Rattle.order_literals.proofs.Sayings.{says_at}
use Rattle.order_literals.specs.Said.{positive}
use Rattle.order_literals.specs.Statements.{statements_of}
use Rattle.match_clauses.proofs.lits.answer_lit.Goals as goal

pub unreachable-requires : goal.unreachable-requires
unreachable-requires c =
    let all = statements_of c.args.numbering.now in
    let place = place_of all (says.Answer c.args.answer) (in_answer c.args.numbering.now c.args.answer c.requires) in
    c.in-None.ensures.none (literal place.0 false) (says_at all place.0 (positive (says.Answer c.args.answer)) place.1)
