use Rattle.std.proofs.Common.{◌∙◌, ap, sym}
use Rattle.bind_faults.specs.Faults.{all_of}
use Rattle.bind_faults.proofs.Outcomes.{due_through}
use Rattle.order_bind.proofs.OrderLemmas.{resolves_err}
use Rattle.order_bind.specs.TableOrders.{pair_in}
use Rattle.order_bind.proofs.tables.pairs.pairs_of.Goals as goal

pub returns-in-Err : goal.returns-in-Err
returns-in-Err c =
    let f = pair_in c.args.table.now c.args.rows.now in
    due_through (f c.entry-item.result) (all_of f c.args.records.now) c.in-Err.fault c.in-Err.ensures
    (λ is. resolves_err f c.args.records.now c.loop-entry.entry-index c.loop-entry.pairs c.entry-item.result c.in-Err.fault
    c.loop-entry.invariant c.loop-entry-test.true (ap f (sym c.entry-item.is) ∙ is))
