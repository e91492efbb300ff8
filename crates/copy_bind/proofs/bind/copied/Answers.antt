-- A pair that is refused, or what comes of the mappings, is due.
use Rattle.std.specs.Prelude.{option_map}
use Rattle.std.proofs.lemmas.Result.{err_from_is_err_and}
use Rattle.copy_bind.proofs.NoReads.{due_reads}
use Rattle.copy_bind.specs.Copied.{copied}
use Rattle.copy_bind.proofs.Copying.{all_within, is_empty, pairs_refused, pairs_there}
use Rattle.copy_bind.proofs.CopyReads.{copied_reads}
use Rattle.copy_bind.proofs.bind.copied.Goals as goal

pub returns-in_err-mappings-clause-due : goal.returns-in_err-mappings-clause-due
returns-in_err-mappings-clause-due c =
    let p = err_from_is_err_and c.from_residual.result c.from_residual.ensures.1 in
    rw (p.1, p.2) (pairs_refused c.args.name.now c.args.head (option_map (λ n. n.now) c.args.document)
    c.args.pairs.now c.rows.result.now c.rows-2.result.now
    c.in_err-mappings.field-0.0 (record { of_target = c.rows.ensures; of_source = c.rows-2.ensures }) c.in_err-mappings.ensures)

pub returns-in_err-mappings-clause-reads : goal.returns-in_err-mappings-clause-reads
returns-in_err-mappings-clause-reads c =
    due_reads (copied c.args.name.now c.args.head (option_map (λ n. n.now) c.args.document) c.args.pairs.now)
    c.from_residual.result
    (copied_reads c.args.name.now c.args.head (option_map (λ n. n.now) c.args.document) c.args.pairs.now)
    (returns-in_err-mappings-clause-due c)

pub with_mappings-requires-clause-within : goal.with_mappings-requires-clause-within
with_mappings-requires-clause-within c =
    all_within c.args.head (option_map (λ n. n.now) c.args.document) c.args.pairs.now c.rows.result.now
    c.rows-2.result.now c.in_ok-mappings.mappings
    c.as_slice.result.now (record { of_target = c.rows.ensures; of_source = c.rows-2.ensures })
    c.in_ok-mappings.ensures c.as_slice.ensures

pub returns-clause-due : goal.returns-clause-due
returns-clause-due c =
    pairs_there c.args.name.now c.args.head (option_map (λ n. n.now) c.args.document) c.args.pairs.now
    c.rows.result.now c.rows-2.result.now
    c.in_ok-mappings.mappings c.as_slice.result.now c.new-copy.result c.with_mappings.result
    (record { of_target = c.rows.ensures; of_source = c.rows-2.ensures }) c.in_ok-mappings.ensures c.as_slice.ensures
    (is_empty c.args.name.now c.in_ok-name.name c.args.head c.id.result c.id-2.result c.new-copy.result
    c.in_ok-name.ensures c.id.ensures c.id-2.ensures
    c.new-copy.ensures.value) c.with_mappings.ensures.due

pub returns-clause-reads : goal.returns-clause-reads
returns-clause-reads c =
    due_reads (copied c.args.name.now c.args.head (option_map (λ n. n.now) c.args.document) c.args.pairs.now)
    c.with_mappings.result
    (copied_reads c.args.name.now c.args.head (option_map (λ n. n.now) c.args.document) c.args.pairs.now) (returns-clause-due c)
