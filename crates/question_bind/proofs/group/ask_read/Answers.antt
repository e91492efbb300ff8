-- What each step finds is what the next one needs, and what it refuses is due.
use Rattle.std.proofs.Common.{◌∙◌, refl, arith}
use Rattle.std.proofs.lemmas.Result.{err_from_is_err_and}
use Rattle.question_bind.specs.Steps.{checked_named, pairs_named, records_named}
use Rattle.question_bind.proofs.Parts.{answers_length}
use Rattle.question_bind.proofs.ReadGroup.{all_as_many, few_enough, heads_below, heads_on, heads_small, no_pairs, no_records, not_checked, too_many, trees_many}
use Rattle.question_bind.proofs.group.ask_read.Goals as goal

pub records_in-requires-clause-heads : goal.records_in-requires-clause-heads
records_in-requires-clause-heads c = heads_on c.args.names.now c.args.group.now c.args.heads.now
    c.requires.names.numbered c.requires.heads

pub records_in-requires-clause-trees : goal.records_in-requires-clause-trees
records_in-requires-clause-trees c = trees_many c.args.names.now c.args.group.now c.args.heads.now c.requires.heads

pub records_in-requires-clause-tables : goal.records_in-requires-clause-tables
records_in-requires-clause-tables c = c.requires.tables ∙ trees_many c.args.names.now c.args.group.now
    c.args.heads.now c.requires.heads

pub returns-in_err-records : goal.returns-in_err-records
returns-in_err-records c =
    let p = err_from_is_err_and c.from_residual.result c.from_residual.ensures.1 in
    rw (p.1, p.2) (no_records c.args.names.now c.args.spec.now c.args.heads.now c.args.group.now c.args.tables
    c.args.so_far c.in_err-records.field-0.0 c.requires.names c.in_err-records.ensures)

pub pairs_in-requires-clause-heads : goal.pairs_in-requires-clause-heads
pairs_in-requires-clause-heads c = heads_on c.args.names.now c.args.group.now c.args.heads.now
    c.requires.names.numbered c.requires.heads

pub pairs_in-requires-clause-trees : goal.pairs_in-requires-clause-trees
pairs_in-requires-clause-trees c = trees_many c.args.names.now c.args.group.now c.args.heads.now c.requires.heads

pub pairs_in-requires-clause-records : goal.pairs_in-requires-clause-records
pairs_in-requires-clause-records c =
    let trees = trees_many c.args.names.now c.args.group.now c.args.heads.now c.requires.heads in
    answers_length (records_named c.args.names.now) c.args.heads.now c.args.group.now c.args.tables
    c.in_ok-records.records trees (c.requires.tables ∙ trees) c.in_ok-records.ensures

pub returns-in_err-pairs : goal.returns-in_err-pairs
returns-in_err-pairs c =
    let p = err_from_is_err_and c.from_residual-in_err-pairs.result c.from_residual-in_err-pairs.ensures.1 in
    rw (p.1, p.2) (no_pairs c.args.names.now c.args.spec.now c.args.heads.now c.args.group.now c.args.tables
    c.in_ok-records.records c.in_ok-records.records c.args.so_far c.in_err-pairs.field-0.0
    c.requires.names c.in_ok-records.ensures refl c.in_err-pairs.ensures)

pub checked_in-requires-clause-heads : goal.checked_in-requires-clause-heads
checked_in-requires-clause-heads c =
    heads_below c.args.names.now c.args.spec.now c.args.heads.now c.requires.names
    (heads_on c.args.names.now c.args.group.now c.args.heads.now c.requires.names.numbered c.requires.heads)

pub checked_in-requires-clause-trees : goal.checked_in-requires-clause-trees
checked_in-requires-clause-trees c = trees_many c.args.names.now c.args.group.now c.args.heads.now c.requires.heads

pub checked_in-requires-clause-lists : goal.checked_in-requires-clause-lists
checked_in-requires-clause-lists c =
    let trees = trees_many c.args.names.now c.args.group.now c.args.heads.now c.requires.heads in
    let records = answers_length (records_named c.args.names.now) c.args.heads.now c.args.group.now c.args.tables
    c.in_ok-records.records trees (c.requires.tables ∙ trees) c.in_ok-records.ensures in
    answers_length (pairs_named c.args.names.now) c.args.heads.now c.args.group.now c.in_ok-records.records
    c.in_ok-pairs.pairs trees records c.in_ok-pairs.ensures

pub checked_in-requires-clause-counts : goal.checked_in-requires-clause-counts
checked_in-requires-clause-counts c = all_as_many c.args.names.now c.args.heads.now c.args.group.now
    c.in_ok-records.records c.in_ok-pairs.pairs c.in_ok-pairs.ensures

pub returns-in_err-checked : goal.returns-in_err-checked
returns-in_err-checked c =
    let p = err_from_is_err_and c.from_residual-in_err-checked.result c.from_residual-in_err-checked.ensures.1 in
    let trees = trees_many c.args.names.now c.args.group.now c.args.heads.now c.requires.heads in
    rw (p.1, p.2) (not_checked c.args.names.now c.args.spec.now c.args.heads.now c.args.group.now c.args.tables
    c.in_ok-records.records c.in_ok-pairs.pairs c.args.so_far c.in_err-checked.field-0.0
    (record {
      known = c.requires.names;
      trees_are = trees;
      tables_are = c.requires.tables ∙ trees;
      records_are =
          c.in_ok-records.ensures;
      pairs_are = c.in_ok-pairs.ensures;
    }) c.in_err-checked.ensures)

pub asked_after-requires-clause-heads : goal.asked_after-requires-clause-heads
asked_after-requires-clause-heads c =
    heads_small c.args.names.now c.args.heads.now c.requires.names.numbered
    (heads_on c.args.names.now c.args.group.now c.args.heads.now c.requires.names.numbered c.requires.heads)

pub asked_after-requires-clause-lists : goal.asked_after-requires-clause-lists
asked_after-requires-clause-lists c =
    let trees = trees_many c.args.names.now c.args.group.now c.args.heads.now c.requires.heads in
    let records = answers_length (records_named c.args.names.now) c.args.heads.now c.args.group.now c.args.tables
    c.in_ok-records.records trees (c.requires.tables ∙ trees) c.in_ok-records.ensures in
    let pairs = answers_length (pairs_named c.args.names.now) c.args.heads.now c.args.group.now
    c.in_ok-records.records c.in_ok-pairs.pairs trees records c.in_ok-pairs.ensures in
    answers_length (checked_named c.args.spec.now.relations) c.args.heads.now c.args.group.now c.in_ok-pairs.pairs
    c.in_ok-checked.checked trees pairs c.in_ok-checked.ensures

pub returns-then-len-gt-MOST_PAIRS : goal.returns-then-len-gt-MOST_PAIRS
returns-then-len-gt-MOST_PAIRS c =
    let trees = trees_many c.args.names.now c.args.group.now c.args.heads.now c.requires.heads in
    too_many c.args.names.now c.args.spec.now c.args.heads.now c.args.group.now c.args.tables c.in_ok-records.records
    c.in_ok-pairs.pairs c.in_ok-checked.checked c.in_ok-checked.checked
    c.args.so_far c.in_ok-asked.asked
    (record {
      known = c.requires.names;
      trees_are = trees;
      tables_are = c.requires.tables ∙ trees;
      records_are =
          c.in_ok-records.ensures;
      pairs_are = c.in_ok-pairs.ensures;
    })
    c.in_ok-checked.ensures refl c.in_ok-asked.ensures (omega (arith, c.if-len-gt-MOST_PAIRS.true, c.len.ensures))

pub returns : goal.returns
returns c =
    let trees = trees_many c.args.names.now c.args.group.now c.args.heads.now c.requires.heads in
    few_enough c.args.names.now c.args.spec.now c.args.heads.now c.args.group.now c.args.tables
    c.in_ok-records.records c.in_ok-pairs.pairs c.in_ok-checked.checked c.in_ok-checked.checked
    c.args.so_far c.in_ok-asked.asked
    (record {
      known = c.requires.names;
      trees_are = trees;
      tables_are = c.requires.tables ∙ trees;
      records_are =
          c.in_ok-records.ensures;
      pairs_are = c.in_ok-pairs.ensures;
    })
    c.in_ok-checked.ensures refl c.in_ok-asked.ensures (omega (arith, c.if-len-gt-MOST_PAIRS.false, c.len.ensures))
