-- The rows are those of a relation, which has few.
use Rattle.std.proofs.Common.{◌<◌, ℕ, List, length, subst, sym}
use Rattle.session_entries.proofs.RowsNamed.{few_rows, rows_named}
use Rattle.session_entries.proofs.copied.row_names.Goals as goal

pub returns-clause-few : goal.returns-clause-few
returns-clause-few c =
    subst (λ (rows : List (List ℕ)). length rows < 4294967296)
    (sym (rows_named c.args.names.now c.args.spec.now c.args.rel c.relation.result.now c.requires.names c.relation.ensures))
    (few_rows c.args.spec.now.relations c.args.rel c.relations.ensures.facts)
