use Rattle.std.proofs.Common.{◌+◌, ◌∙◌, Err, ⊎_elim, ap, inl, inr, sym}
use Rattle.currency_csv.specs.Table.{table_with}
use Rattle.currency_csv.proofs.Steps.{capped_number}
use Rattle.currency_csv.proofs.Whole.{same_fault, table_empty, table_missing, table_ragged, table_read, text_below}
use Rattle.currency_csv.proofs.read.table_below.Goals as goal

pub returns-in_default : goal.returns-in_default
returns-in_default c = inr (sym (table_empty c.args.columns.now c.args.records.now c.in_default.ensures.cases))

pub returns-in-Some-first_ragged : goal.returns-in-Some-first_ragged
returns-in-Some-first_ragged c =
    let place = c.in-Some-first_ragged.place in
    let number = capped_number (place + 1) c.saturating_add.result c.capped-number.result c.saturating_add.ensures
    c.capped-number.ensures in
    let found = sym c.first_ragged.ensures ∙ c.in-Some-first_ragged.is in
    inr (rw number (sym (table_ragged c.args.columns.now c.args.records.now c.in-Some.header.now c.in-Some.rows.now
    c.in-Some.ensures.cases.0 place found)))

pub sources-requires : goal.sources-requires
sources-requires c =
    let fits = sym c.first_ragged.ensures ∙ c.in_default-first_ragged.is in
    (text_below c.args.columns.now c.args.records.now c.in-Some.header.now c.in-Some.rows.now c.in-Some.ensures.cases.0 fits).0

pub tuples-requires : goal.tuples-requires
tuples-requires c =
    let fits = sym c.first_ragged.ensures ∙ c.in_default-first_ragged.is in
    (text_below c.args.columns.now c.args.records.now c.in-Some.header.now c.in-Some.rows.now c.in-Some.ensures.cases.0 fits).1

pub returns-in-Ok-tuples : goal.returns-in-Ok-tuples
returns-in-Ok-tuples c =
    let fits = sym c.first_ragged.ensures ∙ c.in_default-first_ragged.is in
    let whole = table_read c.args.columns.now c.args.records.now c.in-Some.header.now c.in-Some.rows.now
    c.in-Some.ensures.cases.0 fits c.in-Ok.sources.items in
    ⊎_elim (λ e. cc e)
    (λ found. ⊎_elim (λ e. cc e) (λ made. inr (ap table_with (rw c.as_slice.ensures.value at made)
    ∙ sym (whole found))) c.in-Ok-tuples.ensures)
    c.in-Ok.ensures

pub returns-in-Ok : goal.returns-in-Ok
returns-in-Ok c =
    let fits = sym c.first_ragged.ensures ∙ c.in_default-first_ragged.is in
    let whole = table_read c.args.columns.now c.args.records.now c.in-Some.header.now c.in-Some.rows.now
    c.in-Some.ensures.cases.0 fits c.in-Ok.sources.items in
    ⊎_elim (λ e. cc e)
    (λ found. ⊎_elim
    (λ e. inl (ap Err (same_fault c.tuples.result _ _ c.in-Err-tuples.is (c.in-Err-tuples.is ∙ e))))
    (λ made. inr (ap table_with (rw c.as_slice.ensures.value at made) ∙ sym (whole found)))
    c.in-Err-tuples.ensures)
    c.in-Ok.ensures

pub returns : goal.returns
returns c =
    let fits = sym c.first_ragged.ensures ∙ c.in_default-first_ragged.is in
    ⊎_elim
    (λ e. inl (ap Err (same_fault c.sources.result _ _ c.in-Err.is (c.in-Err.is ∙ e))))
    (λ lacking. inr (sym (table_missing c.args.columns.now c.args.records.now c.in-Some.header.now c.in-Some.rows.now
    c.in-Some.ensures.cases.0 fits c.in-Err.fault lacking)))
    c.in-Err.ensures
