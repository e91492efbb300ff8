use Rattle.std.proofs.Common.{arith}
use Rattle.order_literals.proofs.Inside.{top_within, last_in, answer_in, answers_count}
use Rattle.order_literals.proofs.catalogue.Catalogue.statement_in.Goals as goal

pub returns-in-Tops : goal.returns-in-Tops
returns-in-Tops c =
    let within = rw c.in-Tops.is at c.requires.within in
    rw c.in-Tops.is (top_within c.args.self.now c.in-Tops.rel c.in-Tops.attr c.args.number within)

pub returns-in-Lasts : goal.returns-in-Lasts
returns-in-Lasts c =
    rw c.in-Lasts.is
    (last_in c.args.self.now c.in-Lasts.rel c.in-Lasts.attr c.table-in-Lasts.result.now c.args.number
    c.value-row.result c.table-in-Lasts.ensures c.value-row.ensures)

pub returns-in-Answers : goal.returns-in-Answers
returns-in-Answers c =
    let within = rw c.in-Answers.is at c.requires.within in
    rw c.in-Answers.is (answer_in c.args.self.now c.args.number (omega (arith, answers_count c.args.self.now)))
