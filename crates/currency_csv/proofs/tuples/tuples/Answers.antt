use Rattle.std.proofs.Common.{◌+◌, Err, inl, inr, sym, ◌∙◌, refl, ap, arith, ⊎_elim}
use Rattle.csv.specs.Records.{fields_of}
use Rattle.currency_csv.specs.Sources.{read_row, read_tuple, read_tuples}
use Rattle.currency_csv.proofs.AllOk.{so_far_all, so_far_fault}
use Rattle.currency_csv.proofs.Steps.{capped_number}
use Rattle.currency_csv.proofs.Whole.{same_fault}
use Rattle.currency_csv.proofs.tuples.tuples.Goals as goal

pub returns-in-Err : goal.returns-in-Err
unfolding read_tuples
returns-in-Err c =
    let row = c.index-rows-place.result in
    let number = capped_number (2 + c.loop-place.place) c.saturating_add.result c.capped-number.result (omega arith)
    c.capped-number.ensures in
    ⊎_elim
    (λ e. inl (ap Err (same_fault c.tuple.result _ _ c.in-Err.is e)))
    (λ e.
    let bad = ap (λ n. read_tuple c.args.sources.now n (fields_of row)) (sym number) ∙ sym e ∙ c.in-Err.is in
    inr (so_far_fault (read_row c.args.sources.now) 2 c.args.rows.now c.loop-place.place (2 + c.loop-place.place)
    c.loop-place.tuples row row
    c.loop-place-test.true refl c.index-rows-place.is c.loop-place.invariant _ bad))
    c.tuple.ensures

pub returns : goal.returns
unfolding read_tuples
returns c = inr (so_far_all (read_row c.args.sources.now) 2 c.args.rows.now c.loop-place.place c.loop-place.tuples
    (omega arith) c.loop-place.invariant)
